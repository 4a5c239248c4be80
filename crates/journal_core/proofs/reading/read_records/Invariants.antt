use Rattle.std.proofs.Common.{length}
use Rattle.journal_core.proofs.ReadingLemmas.{Front, Back}
use Rattle.journal_core.proofs.reading.read_records.Given as goal

abbrev pub invariant-loop-payload : goal.invariant-loop-payload
invariant-loop-payload l = record { front : Front l.bytes l.records.items l.rest; back : Back l.bytes l.rest }

abbrev pub decreases-loop-payload : goal.decreases-loop-payload
decreases-loop-payload l = length l.rest
