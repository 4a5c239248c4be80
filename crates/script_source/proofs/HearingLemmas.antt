-- Hearings that follow one another.
use Rattle.std.proofs.Common.{◌≡◌, ◌⊎◌, inl, inr, ⊎_elim, ◌<◌, List, ℕ, length, Option, Some, ◌∙◌, refl, ap, subst}
use Rattle.host_model.specs.Picture.{Same}
use Rattle.host_model.specs.State.{HostState}
use Rattle.host_model.specs.declared.call.HostCall.{HostCall}
use Rattle.host_model.specs.declared.call.HostCall.TheVariants.{Hear}
use Rattle.host_model.proofs.CallsLemmas.{keeps-refl, keeps-then, still_faithful, still_honest}
use Rattle.host_model.proofs.MovesLemmas.{started, goes_on}
use Rattle.script_source.specs.Hearing.{Listens, HeardLast}

pub listens-refl : (state : HostState) → Listens state state
listens-refl state = record { keeps = keeps-refl state; same = λ f. (refl, refl); moves = λ h. started state }

pub listens-then : {a b c : HostState} → Listens a b → Listens b c → Listens a c
listens-then one two = record {
  keeps = keeps-then one.keeps two.keeps;
  same = λ f.
      let before = one.same f in
      let after = two.same (still_faithful one.keeps f) in
      (after.0 ∙ before.0, after.1 ∙ before.1);
  moves = λ h. goes_on Same Same (one.moves h) (two.moves (still_honest one.keeps h)) (λ d p left s. s) (λ d e p left s t. t ∙ s) (λ d e p left s t. t ∙ s);
}

-- what is held is filled once more
pub heard_then : {H : Type 0} (last : H → Option HostCall) (first held : List ℕ) (a b c : H) → (last b ≡ Some Hear) ⊎ (b ≡ a) × ((0 < length first) ⊎ (held ≡ first)) → HeardLast held (last c) b c → HeardLast first (last c) a c
heard_then last first held a b c so_far (inl heard) = inl heard
heard_then last first held a b c (inl heard) (inr same) = inl (ap last same.1 ∙ heard)
heard_then last first held a b c (inr so_far) (inr same) = inr (⊎_elim (λ some. some) (λ is. subst (λ (l : List ℕ). 0 < length l) is same.0) so_far.1, same.1 ∙ so_far.0)

-- and then some of it is moved
pub heard_on : {H : Type 0} (last : H → Option HostCall) (first held : List ℕ) (a c : H) → HeardLast first (last c) a c → (last c ≡ Some Hear) ⊎ (c ≡ a) × ((0 < length first) ⊎ (held ≡ first))
heard_on last first held a c (inl heard) = inl heard
heard_on last first held a c (inr same) = inr (same.1, inl same.0)
