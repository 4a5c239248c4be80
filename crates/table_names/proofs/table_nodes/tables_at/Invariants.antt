use Rattle.std.proofs.Common.{take}
use Rattle.table_names.specs.Tables.{AreTablesAt}
use Rattle.table_names.proofs.table_nodes.tables_at.Given as goal

abbrev pub invariant-loop-path : goal.invariant-loop-path
invariant-loop-path l = AreTablesAt l.nodes.nodes (take l.path-index l.paths) l.tables.items
