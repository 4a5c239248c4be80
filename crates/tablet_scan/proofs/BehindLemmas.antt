-- An action behind others that only looked.
use Rattle.std.proofs.Common.{◌≡◌, refl, Option, Some, None, sym, subst}
use Rattle.std.proofs.lemmas.Option.{none-some}
use Rattle.host_model.specs.Picture.{Image}
use Rattle.host_model.specs.State.{HostState}
use Rattle.host_model.specs.Calls.{IsSound}
use Rattle.host_model.specs.declared.fault.Stop.{Stop}
use Rattle.ground_store.specs.Value.{GroundValue}
use Rattle.ground_store.specs.Steps.{Stays}
use Rattle.ground_store.specs.Acts.{Acts}
use Rattle.ground_store.proofs.EventLemmas.{acts_then}

module _ {H : Type 0} (state : H → HostState) {D A : Image → Image → Type 0} where
  -- behind calls that only looked, an action is one since before them
  pub acts_behind : {stop : Option Stop} {a b c : GroundValue H} → IsSound (state a.host) → ((i : Image) → D i i) → Acts state Stays Stays None a b → Acts state D A stop b c → Acts state D A stop a c
  acts_behind {stop} {a} {b} {c} sound still first next = acts_then state D A sound first next
      (λ f i stays. subst (D (state a.host).files) (sym stays) (still (state a.host).files))
      (λ f stays i during. subst (λ (image : Image). D image i) stays during)
      (λ f stays after. subst (λ (image : Image). A image (state c.host).files) stays after)

  -- what was answered Ok was asked of a ground that hadn't stopped
  pub alive_of : {a b : GroundValue H} → Acts state D A None a b → a.stopped ≡ None
  alive_of {a} acts = by a.stopped refl
    where
      by : (o : Option Stop) → a.stopped ≡ o → a.stopped ≡ None
      by None e = e
      by (Some own) e = absurd (none-some _ (acts.stays own e).is)

  -- and leaves one that hasn't
  pub alive_behind : {a b : GroundValue H} → Acts state D A None a b → b.stopped ≡ None
  alive_behind acts = (acts.goes (alive_of acts)).goes_on
