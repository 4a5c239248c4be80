-- A name among entries, one entry after another.
use Rattle.std.proofs.Common.{◌≡◌, ℕ, Bool, true, false, cond, List, [], ◌∷◌, Option, Some, Ordering, Less, Equal, Greater, refl, sym, ◌∙◌, ap}
use Rattle.std.specs.BTreeMap.{is_at}
use Rattle.std.specs.Map.{lookup}
use Rattle.std.specs.Ordering.{is_eq}
use Rattle.std.proofs.lemmas.Bool.{false≢true}
use Rattle.std.proofs.lemmas.Cmp.{nat_list_cmp_total, tied_itself}
use Rattle.std.proofs.lemmas.Map.Lookups.{exact_bytes}
use Rattle.node_store.specs.PathsTo.{path_cmp}

equal : (r : Ordering) → is_eq r ≡ true → r ≡ Equal
equal Less e = absurd (false≢true e)
equal Equal e = refl
equal Greater e = absurd (false≢true e)

module _ {V : Type 0} (name key : List ℕ) (value : V) (rest : List (List ℕ × V)) where
  pub found_here : key ≡ name → lookup (is_at (path_cmp name)) ((key, value) ∷ rest) ≡ Some value
  found_here is = ap (λ r. cond (is_eq r) (Some value) (lookup (is_at (path_cmp name)) rest)) (ap (path_cmp name) is ∙ tied_itself nat_list_cmp_total name)

  pub found_later : (key ≡ name → ⊥) → lookup (is_at (path_cmp name)) ((key, value) ∷ rest) ≡ lookup (is_at (path_cmp name)) rest
  found_later other = by (is_eq (path_cmp name key)) refl
    where
      by : (b : Bool) → is_eq (path_cmp name key) ≡ b → cond b (Some value) (lookup (is_at (path_cmp name)) rest) ≡ lookup (is_at (path_cmp name)) rest
      by true e = absurd (other (sym (exact_bytes name key (equal (path_cmp name key) e))))
      by false e = refl
