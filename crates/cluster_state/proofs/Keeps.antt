-- Calls that keep what is kept, as actions of the ground.
use Rattle.std.proofs.Common.{IsTrue, Option, subst, sym}
use Rattle.host_model.specs.Picture.{Image}
use Rattle.host_model.specs.State.{HostState}
use Rattle.host_model.specs.Calls.{IsSound}
use Rattle.host_model.specs.declared.fault.Stop.{Stop}
use Rattle.ground_store.specs.Value.{GroundValue}
use Rattle.ground_store.specs.Acts.{Acts}
use Rattle.ground_store.specs.Steps.{Stays}
use Rattle.ground_store.proofs.EventLemmas.{acts_more}
use Rattle.store_meaning.specs.Kept.{IsKept}
use Rattle.cluster_state.specs.Events.{KeepsState}
use Rattle.cluster_state.specs.Passing.{Aside, KeepsAside}

-- what stays is kept
pub stays_kept : (old new : Image) → Stays old new → KeepsState old new
stays_kept old new stays plain is = subst (λ image. IsKept image plain) (sym stays) is

-- an action whose changes keep what is kept, at the files that it finds
pub acts_keep : {H : Type 0} (state : H → HostState) {D A : Image → Image → Type 0} (stop : Option Stop) {x y : GroundValue H} → IsSound (state x.host) → Acts state D A stop x y
    → (IsTrue (state x.host).is_faithful → (i : Image) → D (state x.host).files i → KeepsState (state x.host).files i) → (IsTrue (state x.host).is_faithful → (i : Image) → A (state x.host).files i → KeepsState (state x.host).files i)
    → Acts state KeepsState KeepsState stop x y
acts_keep state stop {x} {y} sound acts during after = acts_more state KeepsState KeepsState stop sound acts during (λ f a. after f (state y.host).files a)

-- so where something is aside of it
pub acts_aside : {H : Type 0} (state : H → HostState) {D A : Image → Image → Type 0} (aside : Aside) (stop : Option Stop) {x y : GroundValue H} → IsSound (state x.host) → Acts state D A stop x y
    → ((i : Image) → D (state x.host).files i → KeepsAside aside (state x.host).files i) → ((i : Image) → A (state x.host).files i → KeepsAside aside (state x.host).files i) → Acts state (KeepsAside aside) (KeepsAside aside) stop x y
acts_aside state aside stop {x} {y} sound acts during after = acts_more state (KeepsAside aside) (KeepsAside aside) stop sound acts (λ f. during) (λ f. after (state y.host).files)
