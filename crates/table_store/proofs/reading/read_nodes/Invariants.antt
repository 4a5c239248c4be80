use Rattle.std.proofs.Common.{take}
use Rattle.table_store.specs.Reading.{ReadsPaths}
use Rattle.table_store.proofs.reading.read_nodes.Given as goal

abbrev pub invariant-loop-path : goal.invariant-loop-path
invariant-loop-path l = ReadsPaths l.nodes.nodes l.next (take l.path-index l.path-items) l.tables
