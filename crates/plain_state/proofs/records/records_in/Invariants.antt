use Rattle.std.proofs.Common.{take}
use Rattle.plain_state.proofs.RecordLemmas.{AreFound}
use Rattle.plain_state.proofs.records.records_in.Given as goal

abbrev pub invariant-loop-tablet : goal.invariant-loop-tablet
invariant-loop-tablet l = AreFound l.all (take l.tablet-index l.all) l.records.items
