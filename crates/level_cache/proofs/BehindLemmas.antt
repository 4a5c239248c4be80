-- Calls that only looked, one behind another.
use Rattle.std.proofs.Common.{◌≡◌, Option, Some, None, refl, ◌∙◌}
use Rattle.std.proofs.lemmas.Option.{none-some}
use Rattle.host_model.specs.State.{HostState}
use Rattle.host_model.specs.Calls.{IsSound, Keeps}
use Rattle.host_model.specs.declared.fault.Stop.{Stop}
use Rattle.ground_store.specs.Value.{GroundValue}
use Rattle.ground_store.specs.Steps.{Stays}
use Rattle.ground_store.specs.Acts.{Acts}
use Rattle.ground_store.proofs.EventLemmas.{acts_then}

module _ {H : Type 0} (state : H → HostState) where
  -- one call behind another that was answered Ok
  pub stays_then : {stop : Option Stop} {a b c : GroundValue H} → IsSound (state a.host) → Acts state Stays Stays None a b → Acts state Stays Stays stop b c → Acts state Stays Stays stop a c
  stays_then sound first next = acts_then state Stays Stays sound first next (λ f i one. one) (λ f done i one. one ∙ done) (λ f done more. more ∙ done)

  -- what was answered Ok was asked of a ground that hadn't stopped
  pub ran : {a b : GroundValue H} → Acts state Stays Stays None a b → a.stopped ≡ None
  ran {a} acts = by a.stopped refl
    where
      by : (o : Option Stop) → a.stopped ≡ o → a.stopped ≡ None
      by None e = e
      by (Some own) e = absurd (none-some _ (acts.stays own e).is)

  -- and leaves one that hasn't
  pub runs_on : {a b : GroundValue H} → Acts state Stays Stays None a b → b.stopped ≡ None
  runs_on acts = (acts.goes (ran acts)).goes_on

  pub keeps_on : {stop : Option Stop} {a b : GroundValue H} → Acts state Stays Stays stop a b → a.stopped ≡ None → Keeps (state a.host) (state b.host)
  keeps_on acts runs = (acts.goes runs).quiet.keeps
