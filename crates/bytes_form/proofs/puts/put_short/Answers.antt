use Rattle.std.proofs.Common.{sym, arith}
use Rattle.std.specs.Int.{w8}
use Rattle.std.proofs.lemmas.Result.{IfOk-equal}
use Rattle.bytes_form.proofs.FieldsLemmas.{number_field-byte}
use Rattle.bytes_form.proofs.CountedLemmas.{put_counted}
use Rattle.bytes_form.proofs.puts.put_short.Goals as goal

pub returns-clause-ok : goal.returns-clause-ok
returns-clause-ok c =
    IfOk-equal c.put_both.result _ _ _ c.put_both.ensures.ok (put_counted w8 c.args.out.now.items _ c.args.bytes.now (sym (number_field-byte _ (omega arith))))
