use Rattle.std.proofs.Common.{◌∙◌, sym, arith}
use Rattle.table_store.proofs.Numerals.{value_past}
use Rattle.table_store.proofs.ids.number_of.Goals as goal

pub returns-in_err-checked_mul : goal.returns-in_err-checked_mul
returns-in_err-checked_mul c = rw c.from_residual-in_err-checked_mul.ensures (λ n is.
    let past = value_past c.loop-byte.number c.in_ok-digit.digit c.args.id.now c.loop-byte.byte-index n (omega arith) (sym c.value_of.ensures ∙ c.in_ok-digit.was) (c.loop-byte.invariant ∙ is) in
    omega (arith, c.in_err-checked_mul.ensures))

pub returns-in_err-number : goal.returns-in_err-number
returns-in_err-number c = rw c.from_residual-in_err-number.ensures (λ n is.
    let past = value_past c.loop-byte.number c.in_ok-digit.digit c.args.id.now c.loop-byte.byte-index n (omega arith) (sym c.value_of.ensures ∙ c.in_ok-digit.was) (c.loop-byte.invariant ∙ is) in
    omega (arith, c.in_err-number.ensures))
