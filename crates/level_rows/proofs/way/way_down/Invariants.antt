use Rattle.std.proofs.Common.{◌≡◌, Some}
use Rattle.level_rows.specs.Index.{found_at}
use Rattle.level_rows.proofs.WalkLemmas.{LeadsTo, still_ahead}
use Rattle.level_rows.proofs.way.way_down.Given as goal

abbrev pub invariant-down : goal.invariant-down
invariant-down l = record {
  leads : LeadsTo (found_at l.ends) l.way.items l.tablet.end;
  there : found_at l.ends l.tablet.end ≡ Some l.tablet;
}

abbrev pub decreases-down : goal.decreases-down
decreases-down l = still_ahead l.tablet.end l.ends
