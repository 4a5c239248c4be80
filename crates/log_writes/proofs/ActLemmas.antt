-- Work that stopped before an action, or went on to one.
use Rattle.std.proofs.Common.{Some, sym, subst}
use Rattle.host_model.specs.Picture.{Image}
use Rattle.host_model.specs.State.{HostState}
use Rattle.host_model.specs.Calls.{IsSound}
use Rattle.host_model.specs.declared.fault.Stop.{Stop}
use Rattle.ground_store.specs.Value.{GroundValue}
use Rattle.ground_store.specs.Acts.{Acts}
use Rattle.ground_store.specs.Steps.{Stays}
use Rattle.ground_store.proofs.EventLemmas.{acts_more}

abbrev Change : Type 1
Change = Image → Image → Type 0

-- where an action stopped it may have led to anything
failed : {H : Type 0} (state : H → HostState) {D A : Change} (B : Change) {stop : Stop} {x y : GroundValue H} → Acts state D A (Some stop) x y → Acts state D B (Some stop) x y
failed state B acts = record {
  goes = λ runs. let own = acts.goes runs in record { quiet = own.quiet; tried = own.tried; done = λ f. tt; leaves = own.leaves; rests = own.rests; goes_on = own.goes_on };
  stays = acts.stays;
}

-- work that stopped before it changed anything
pub still : {H : Type 0} (state : H → HostState) (D A : Change) {stop : Stop} {x y : GroundValue H} → IsSound (state x.host) → ((image : Image) → D image image) → Acts state Stays Stays (Some stop) x y → Acts state D A (Some stop) x y
still state D A {stop} {x} {y} sound may acts = acts_more state D A (Some stop) sound (failed state A acts) (λ f i stays. subst (D (state x.host).files) (sym stays) (may (state x.host).files)) (λ f done. done)
