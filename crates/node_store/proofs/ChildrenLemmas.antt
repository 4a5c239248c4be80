-- Where the paths right below a path stand among all.
use Rattle.std.proofs.Common.{◌≡◌, ℕ, ◌≤◌, Bool, true, false, cond, ◌&&◌, List, [], ◌∷◌, ◌++◌, length, take, drop, refl, sym, ◌∙◌, ap, subst, arith, length-append, take-append-drop, nat_eq, All}
use Rattle.std.specs.declared.cmp.Ordering.TheVariants.{Less}
use Rattle.std.specs.declared.ops.Bound.TheVariants.{Included, Excluded}
use Rattle.std.specs.Ordering.{is_gt, ordering_then}
use Rattle.std.specs.Cmp.{nat_cmp_total, tied_itself}
use Rattle.std.specs.Cmp.Lexicographic.{same_text, nat_list_cmp_total}
use Rattle.std.specs.Map.{keys_of}
use Rattle.std.specs.List.{starts_with}
use Rattle.std.specs.BTreeMap.Range.{entries_between, range_contains}
use Rattle.std.proofs.lemmas.Map.Views.{range_contains-from_IsInRange}
use Rattle.std.proofs.lemmas.List.Elements.{All-head, All-tail}
use Rattle.row_keys.specs.Forms.{IsPath}
use Rattle.node_store.specs.PathsTo.{path_cmp}
use Rattle.node_store.specs.Children.{is_single_name, is_child, children_of}

-- the same byte in front leaves the order
cmp-front : (b : ℕ) (x y : List ℕ) → path_cmp (b ∷ x) (b ∷ y) ≡ path_cmp x y
cmp-front b x y = ap (λ o. ordering_then o (path_cmp x y)) (tied_itself nat_cmp_total b)

from_first : (front name : List ℕ) → is_gt (path_cmp front (front ++ name)) ≡ false
from_first [] [] = refl
from_first [] (b ∷ name) = refl
from_first (b ∷ front) name = ap is_gt (cmp-front b front (front ++ name)) ∙ from_first front name

before_past : (parent name : List ℕ) → path_cmp ((parent ++ 47 ∷ []) ++ name) (parent ++ 48 ∷ []) ≡ Less
before_past [] name = refl
before_past (b ∷ parent) name = cmp-front b ((parent ++ 47 ∷ []) ++ name) (parent ++ 48 ∷ []) ∙ before_past parent name

-- the first path below one, and the first behind those, are in order
pub in_order : (parent : List ℕ) → is_gt (path_cmp (parent ++ 47 ∷ []) (parent ++ 48 ∷ [])) ≡ false
in_order [] = refl
in_order (b ∷ parent) = ap is_gt (cmp-front b (parent ++ 47 ∷ []) (parent ++ 48 ∷ [])) ∙ in_order parent

parts : (a b : Bool) → (a && b) ≡ true → (a ≡ true) × (b ≡ true)
parts true b is = (refl, is)
parts false b is = cc

-- what a child is
child_is : (parent path : List ℕ) → is_child parent path ≡ true → path ≡ (parent ++ 47 ∷ []) ++ drop (length (parent ++ 47 ∷ [])) path
child_is parent path is =
    let front = parent ++ 47 ∷ [] in
    let begins : starts_with nat_eq path front ≡ true = (parts (starts_with nat_eq path front) (is_single_name (drop (length front) path)) is).0 in
    sym (ap (λ l. l ++ drop (length front) path) (same_text front (take (length front) path) (sym begins)) ∙ take-append-drop (length front) path)

child_in_range : (parent path : List ℕ) → is_child parent path ≡ true → range_contains path_cmp (Included (parent ++ 47 ∷ [])) (Excluded (parent ++ 48 ∷ [])) path ≡ true
child_in_range parent path is =
    let name = drop (length (parent ++ 47 ∷ [])) path in
    let whole = child_is parent path is in
    range_contains-from_IsInRange nat_list_cmp_total (Included (parent ++ 47 ∷ [])) (Excluded (parent ++ 48 ∷ [])) path (
      subst (λ p. is_gt (path_cmp (parent ++ 47 ∷ []) p) ≡ false) (sym whole) (from_first (parent ++ 47 ∷ []) name),
      subst (λ p. path_cmp p (parent ++ 48 ∷ []) ≡ Less) (sym whole) (before_past parent name),
    )

-- all children are in the range
pub children_in_range : {V : Type 0} (parent : List ℕ) (es : List (List ℕ × V))
    → children_of parent (keys_of (entries_between path_cmp (Included (parent ++ 47 ∷ [])) (Excluded (parent ++ 48 ∷ [])) es)) ≡ children_of parent (keys_of es)
children_in_range parent [] = refl
children_in_range {V} parent (e ∷ es) =
    let lo = Included (parent ++ 47 ∷ []) in
    let hi = Excluded (parent ++ 48 ∷ []) in
    let within = range_contains path_cmp lo hi e.0 in
    let rest = entries_between path_cmp lo hi es in
    let more = children_in_range parent es in
    elim (is_child parent e.0) as (λ b. is_child parent e.0 ≡ b → children_of parent (keys_of (cond within (e ∷ rest) rest)) ≡ cond b (e.0 ∷ children_of parent (keys_of es)) (children_of parent (keys_of es))) [
      | true ↦ λ is. ap (λ b. children_of parent (keys_of (cond b (e ∷ rest) rest))) (child_in_range parent e.0 is) ∙ ap (λ b. cond b (e.0 ∷ children_of parent (keys_of rest)) (children_of parent (keys_of rest))) is ∙ ap (λ l. e.0 ∷ l) more
      | false ↦ λ is. elim within as (λ b. children_of parent (keys_of (cond b (e ∷ rest) rest)) ≡ children_of parent (keys_of es)) [
        | true ↦ ap (λ b. cond b (e.0 ∷ children_of parent (keys_of rest)) (children_of parent (keys_of rest))) is ∙ more
        | false ↦ more
      ]
    ] refl

-- a path of the greatest length has none below it
long_child : (parent path : List ℕ) → 200 ≤ length parent → length path ≤ 200 → is_child parent path ≡ false
long_child parent path long short =
    elim (is_child parent path) as (λ b. is_child parent path ≡ b → b ≡ false) [
      | true ↦ λ is. absurd (omega (arith, ap length (child_is parent path is), length-append (parent ++ 47 ∷ []) (drop (length (parent ++ 47 ∷ [])) path), length-append parent (47 ∷ [])))
      | false ↦ λ is. refl
    ] refl

pub no_children : (parent : List ℕ) (paths : List (List ℕ)) → 200 ≤ length parent → All IsPath paths → children_of parent paths ≡ []
no_children parent [] long all = refl
no_children parent (path ∷ paths) long all =
    ap (λ b. cond b (path ∷ children_of parent paths) (children_of parent paths)) (long_child parent path long (All-head IsPath path paths all).most)
    ∙ no_children parent paths long (All-tail IsPath path paths all)
