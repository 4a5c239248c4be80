use Rattle.std.proofs.Common.{take}
use Rattle.state_reader.specs.RowReads.{AreCandidatesIn}
use Rattle.state_reader.proofs.marks.read_candidates.Given as goal

abbrev pub invariant-loop-row : goal.invariant-loop-row
invariant-loop-row l = AreCandidatesIn l.pairs (take l.row-index l.rows) l.paths.items
