use Rattle.std.proofs.Common.{arith}
use Rattle.std.specs.Int.{w8}
use Rattle.bytes_form.proofs.FieldsLemmas.{takes_byte, takes_no_number}
use Rattle.bytes_form.proofs.takes.take_u8.Goals as goal

pub returns-in_default-clause-err : goal.returns-in_default-clause-err
returns-in_default-clause-err c = takes_no_number w8 c.args.bytes.now (omega (arith, c.in_default.ensures.cases))

pub returns-clause-ok : goal.returns-clause-ok
returns-clause-ok c = takes_byte _ c.args.bytes.now _ (omega (arith, c.type_inv.bytes 0)) c.in-Some.ensures.cases.0
