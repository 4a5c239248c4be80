-- How values stand for previous rows.
use Rattle.std.proofs.Common.{◌≡◌, ℕ, ◌≤◌, ◌↔◌, List, ◌∷◌, length, Option, None, Some, ap, ◌∙◌}
use Rattle.std.proofs.lemmas.List.{nil_from_length}
use Rattle.row_keys.specs.MetadataRow.{IsPrevValue}

pub is_none : (value row : List ℕ) (first : ℕ) → value ≡ first ∷ row → first ≡ 0 → length row ≡ 0 → IsPrevValue None value
is_none value row first is zero none =
    record {
      short = tt;
      is = is ∙ ap (λ (n : ℕ). n ∷ row) zero ∙ ap (λ (l : List ℕ). 0 ∷ l) (nil_from_length row none);
    }

pub is_some : (value row : List ℕ) (first : ℕ) → value ≡ first ∷ row → first ≡ 1 → length row ≤ 300 → IsPrevValue (Some row) value
is_some value row first is one short =
    record { short = short; is = is ∙ ap (λ (n : ℕ). n ∷ row) one }

-- what stands for a row is not refused
pub is_not_bad : {P : Type 0} (prev : Option (List ℕ)) (value : List ℕ) → (P → ⊥) → IsPrevValue prev value → P ↔ ((prev : Option (List ℕ)) → IsPrevValue prev value → ⊥)
is_not_bad prev value never is = (λ p. absurd (never p), λ none. absurd (none prev is))
