use Rattle.std.proofs.Common.{◌≡◌, take, All}
use Rattle.std.specs.BTreeMap.{ContainsKey}
use Rattle.tablet_mem.specs.declared.spot.Spot.{Spot}
use Rattle.tablet_mem.specs.declared.ready.Ready.{Ready}
use Rattle.tablet_mem.specs.Index.{spot_cmp, place_at}
use Rattle.tablet_mem.proofs.ready.make_places.Given as goal

abbrev pub invariant-loop-one : goal.invariant-loop-one
invariant-loop-one l = record {
  same : (spot : Spot) → place_at l.places spot ≡ place_at l.fn.places spot;
  made : All (λ (one : Ready). ContainsKey spot_cmp l.places one.spot) (take l.one-index l.ready);
}
