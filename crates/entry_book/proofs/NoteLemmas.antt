-- A tree of numbers as a finite map.
use Rattle.std.proofs.Common.{◌≡◌, ℕ, List, [], ◌∷◌, Option, Some, cond, refl, sym, ◌∙◌, ap, nat_cmp}
use Rattle.std.specs.Ordering.{eq_by_cmp}
use Rattle.std.specs.Cmp.{eq_by_cmp_equiv}
use Rattle.std.specs.Map.{lookup}
use Rattle.std.specs.BTreeMap.{is_at}
use Rattle.std.specs.FinMap as map
use Rattle.std.specs.FinMap.{find, get-insert, get-from_entries, same_map, nat_cmp-IsAntisymmetric}
use Rattle.std.proofs.lemmas.Cmp.{nat_cmp_total}

lookup-find : {V : Type 0} (q : ℕ) (es : List (ℕ × V)) → lookup (is_at (nat_cmp q)) es ≡ find nat_cmp q es
lookup-find q [] = refl
lookup-find q (e ∷ es) = ap (λ o. cond (eq_by_cmp nat_cmp q e.0) (Some e.1) o) (lookup-find q es)

-- what a tree answers is what its map does
pub lookup-map : {V : Type 0} (q : ℕ) (es : List (ℕ × V)) → lookup (is_at (nat_cmp q)) es ≡ map.get (map.from_entries {R = nat_cmp} es) q
lookup-map q es = lookup-find q es ∙ sym (get-from_entries nat_cmp_total es q)

turned_test : (k q : ℕ) {V : Type 0} (x y : Option V) → cond (is_at (nat_cmp k) q) x y ≡ cond (eq_by_cmp nat_cmp q k) x y
turned_test k q x y = ap (λ b. cond b x y) ((eq_by_cmp_equiv nat_cmp_total).symm k q)

pub updated-insert : {V : Type 0} (m n : List (ℕ × V)) (k : ℕ) (v : V) → ((q : ℕ) → lookup (is_at (nat_cmp q)) n ≡ cond (is_at (nat_cmp k) q) (Some v) (lookup (is_at (nat_cmp q)) m))
    → map.from_entries {R = nat_cmp} n ≡ map.insert (map.from_entries m) k v
updated-insert m n k v updates = same_map nat_cmp_total nat_cmp-IsAntisymmetric _ _ (λ q.
    sym (lookup-map q n) ∙ updates q ∙ turned_test k q (Some v) _ ∙ ap (λ o. cond (eq_by_cmp nat_cmp q k) (Some v) o) (lookup-map q m) ∙ sym (get-insert nat_cmp_total (map.from_entries m) k v q))
