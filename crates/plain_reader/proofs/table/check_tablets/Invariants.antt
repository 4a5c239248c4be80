use Rattle.std.proofs.Common.{take}
use Rattle.level_rows.specs.Chain.{rows_of}
use Rattle.state_reader.specs.Still.{ground_of}
use Rattle.plain_reader.proofs.PartLemmas.{AreAllConsistent}
use Rattle.plain_reader.proofs.table.check_tablets.Given as goal

abbrev pub invariant-loop-tablet : goal.invariant-loop-tablet
invariant-loop-tablet l = AreAllConsistent (ground_of l.still) (rows_of l.table l.records) (take l.tablet-index l.tablets)
