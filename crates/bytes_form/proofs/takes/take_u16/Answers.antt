use Rattle.std.proofs.Common.{arith}
use Rattle.std.specs.Int.{w16}
use Rattle.std.proofs.lemmas.Nat.{be_bytes_2}
use Rattle.bytes_form.proofs.FieldsLemmas.{front_fits, length_front, takes_number, takes_no_number}
use Rattle.bytes_form.proofs.takes.take_u16.Goals as goal

pub returns-in_default-clause-err : goal.returns-in_default-clause-err
returns-in_default-clause-err c = takes_no_number w16 c.args.bytes.now c.in_default.ensures.cases

pub returns-clause-ok : goal.returns-clause-ok
returns-clause-ok c =
    let bytes = c.args.bytes.now in
    let front = c.in-Some.first.now in
    let cases = c.in-Some.ensures.cases in
    let size = length_front 2 bytes front cases.0 (omega arith) in
    let spelled = be_bytes_2 front _ size (front_fits 2 bytes front cases.0 (λ i. omega (arith, c.type_inv.bytes i))) c.from_be_bytes.ensures in
    takes_number w16 _ bytes front _ spelled cases.0 cases.1
