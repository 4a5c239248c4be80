use Rattle.std.proofs.Common.{◌≡◌, length}
use Rattle.level_index.proofs.ReadLemmas.{IsReading}
use Rattle.level_index.proofs.reading.read_rows.Given as goal

abbrev pub invariant-rows : goal.invariant-rows
invariant-rows l = (l.index.kind ≡ l.kind) × IsReading l.kind l.pairs l.rest l.index.entries

abbrev pub decreases-rows : goal.decreases-rows
decreases-rows l = length l.rest
