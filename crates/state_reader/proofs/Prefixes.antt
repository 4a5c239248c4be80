-- Rows behind a prefix, and lone columns.
use Rattle.std.proofs.Common.{◌≡◌, inr, ℕ, true, codes, refl, lit≤, List, [], ◌∷◌, ◌++◌, length, take, drop, Option, Some, None, nat_eq, sym, ◌∙◌, ap}
use Rattle.std.specs.Cmp.Lexicographic.{pointwise}
use Rattle.std.proofs.lemmas.List.{take-append-drop}
use Rattle.std.proofs.lemmas.Option.{same_Some}
use Rattle.metadata_schema.specs.declared.mutation.Update.{Update}
use Rattle.metadata_schema.specs.Refusals.{IsTabletRow}
use Rattle.level_rows.proofs.EndLemmas.{same-true}
use Rattle.store_meaning.specs.Levels.{lone_column}

pub stripped : (front row bytes : List ℕ) → pointwise nat_eq (take (length front) row) front ≡ true → bytes ≡ drop (length front) row → row ≡ front ++ bytes
stripped front row bytes same rest = sym (take-append-drop (length front) row) ∙ ap (λ l. l ++ drop (length front) row) (same-true (take (length front) row) front same) ∙ ap (λ l. front ++ l) (sym rest)

first_value : List Update → Option (List ℕ)
first_value [] = None
first_value (u ∷ us) = u.value

pub lone_once : (v w : List ℕ) → lone_column v ≡ lone_column w → v ≡ w
unfolding first_value
lone_once v w is = same_Some v w (ap first_value is)
