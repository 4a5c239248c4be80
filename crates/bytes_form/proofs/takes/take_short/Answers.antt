use Rattle.std.proofs.Common.{arith, sym, subst, ℕ}
use Rattle.std.specs.Int.{w8}
use Rattle.std.proofs.lemmas.Result.{on_err_weaker}
use Rattle.bytes_form.specs.Fields.{Takes, number_field}
use Rattle.bytes_form.proofs.CountedLemmas.{said_8, counted_from, takes_no_counted, takes_no_length, cut_behind_length, on_err}
use Rattle.bytes_form.proofs.takes.take_short.Goals as goal

pub returns-in_err-size-clause-err : goal.returns-in_err-size-clause-err
returns-in_err-size-clause-err c = on_err c.from_residual.result (takes_no_length w8 c.args.bytes.now c.in_err-size.ensures.err)

pub returns-clause-ok : goal.returns-clause-ok
returns-clause-ok c = counted_from w8 c.from.result c.args.bytes.now _ c.take_bytes.result (let P : ℕ → Type 0 = λ n. Takes (number_field w8 n) c.in_ok-size.size.rest.now c.args.bytes.now in subst P (sym c.from.ensures) c.in_ok-size.ensures.ok) c.take_bytes.ensures.ok c.take_bytes.ensures.size

pub returns-clause-err : goal.returns-clause-err
returns-clause-err c =
    let fits = c.in_ok-size.ensures.fits in
    on_err_weaker c.take_bytes.result (takes_no_counted w8 c.from.result c.args.bytes.now _ (omega (arith, fits)) (let P : ℕ → Type 0 = λ n. Takes (number_field w8 n) c.in_ok-size.size.rest.now c.args.bytes.now in subst P (sym c.from.ensures) c.in_ok-size.ensures.ok)) c.take_bytes.ensures.err

pub returns-clause-short : goal.returns-clause-short
returns-clause-short c =
    let fits = c.in_ok-size.ensures.fits in
    cut_behind_length w8 c.from.result c.args.bytes.now _ c.in_ok-size.ensures.size (said_8 c.from.result c.args.bytes.now _ (omega (arith, fits)) (let P : ℕ → Type 0 = λ n. Takes (number_field w8 n) c.in_ok-size.size.rest.now c.args.bytes.now in subst P (sym c.from.ensures) c.in_ok-size.ensures.ok)) c.take_bytes.ensures.short
