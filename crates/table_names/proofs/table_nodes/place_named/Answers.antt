use Rattle.std.proofs.Common.{sym}
use Rattle.table_names.proofs.FindLemmas.{first_at}
use Rattle.table_names.proofs.table_nodes.place_named.Goals as goal

pub returns-then-is_online_named-clause-is : goal.returns-then-is_online_named-clause-is
returns-then-is_online_named-clause-is c = first_at c.args.name.now c.args.tables.now c.loop-at.at c.index-tables-at.result c.loop-at.invariant c.loop-at-test.true c.index-tables-at.is (sym c.if-is_online_named.ensures)
