use Rattle.std.proofs.Common.{take}
use Rattle.level_rows.specs.Index.{IsIndexOf}
use Rattle.level_rows.proofs.ends.ends_of.Given as goal

abbrev pub invariant-loop-tablet : goal.invariant-loop-tablet
invariant-loop-tablet l = IsIndexOf l.table (take l.tablet-index l.records) l.ends
