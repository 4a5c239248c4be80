use Rattle.std.proofs.Common.{take}
use Rattle.state_reader.specs.RowReads.{AreRecordsIn}
use Rattle.state_reader.proofs.records.read_records.Given as goal

abbrev pub invariant-loop-row : goal.invariant-loop-row
invariant-loop-row l = AreRecordsIn l.kind l.pairs (take l.row-index l.rows) l.records.items
