use Rattle.std.proofs.Common.{arith}
use Rattle.node_store.proofs.MultiLemmas.{length-written}
use Rattle.node_store.proofs.multi_text.put_change.Goals as goal

pub put_written-requires : goal.put_written-requires
put_written-requires c = omega (arith, length-written 1 c.in-Create.path c.in-Create.value, rw c.in-Create.is at c.requires)

pub put_written-requires-in-Set : goal.put_written-requires-in-Set
put_written-requires-in-Set c = omega (arith, length-written 2 c.in-Set.path c.in-Set.value, rw c.in-Set.is at c.requires)

pub returns-in-Create-clause-fits : goal.returns-in-Create-clause-fits
returns-in-Create-clause-fits c =
    rw c.in-Create.is (c.put_written.ensures.form, omega (arith, length-written 1 c.in-Create.path c.in-Create.value, rw c.in-Create.is at c.requires))

pub returns-in-Set-clause-fits : goal.returns-in-Set-clause-fits
returns-in-Set-clause-fits c =
    rw c.in-Set.is (c.put_written-in-Set.ensures.form, omega (arith, length-written 2 c.in-Set.path c.in-Set.value, rw c.in-Set.is at c.requires))
