-- Lists in the strict order of their keys, as finite maps.
use Rattle.std.proofs.Common.{◌≡◌, ℕ, zero, suc, ◌<◌, ◌≤◌, Bool, true, false, cond, not, ◌&&◌, List, [], ◌∷◌, length, get_or, set, Option, Some, None, Ordering, Less, Equal, Greater, refl, sym, ◌∙◌, ap, arith}
use Rattle.std.specs.List.{insert, remove}
use Rattle.std.specs.Ordering.{is_lt, is_eq, eq_by_cmp, ordering_reverse}
use Rattle.std.specs.Cmp.{IsTotalOrder, eq_by_cmp_equiv}
use Rattle.std.specs.FinMap as map
use Rattle.std.specs.FinMap.{FinMap, find, is_sorted, same_map, entries_sorted, get-entries, get-insert, get-remove, get-retain_keys, len-entries, len-empty}
use Rattle.std.specs.FinMap.Entries.{put, where_key, below_all, by_order, is_sorted-where_key, find-where_key, same_entries}
use Rattle.std.proofs.lemmas.Bool.{false≢true}
use Rattle.std.proofs.lemmas.Cmp.{tied_back, alike_right}
use Rattle.std.proofs.lemmas.Map.Lookups.{CmpEqualImpliesEq}
use lib.Dec.{T}

pub first : (a b : Bool) → T (a && b) → T a
first true b p = tt
first false b p = p

pub second : (a b : Bool) → T (a && b) → T b
second true b p = p
second false b p = absurd p

less : (r : Ordering) → T (is_lt r) → r ≡ Less
less Less p = refl
less Equal p = absurd p
less Greater p = absurd p

pub equal : (r : Ordering) → is_eq r ≡ true → r ≡ Equal
equal Less p = absurd (false≢true p)
equal Equal p = refl
equal Greater p = absurd (false≢true p)

-- ---- entries

module _ {K : Type 0} (R : K → K → Ordering) (o : IsTotalOrder R) where
  greater_back : (a b : K) → R a b ≡ Less → R b a ≡ Greater
  greater_back a b is = o.antisymm b a ∙ ap ordering_reverse is

  less_back : (a b : K) → R a b ≡ Greater → R b a ≡ Less
  less_back a b is = o.antisymm b a ∙ ap ordering_reverse is

module _ {K V : Type 0} (R : K → K → Ordering) (o : IsTotalOrder R) where
  -- no key of a list above a key is that key
  keeps_all : (k x : K) (es : List (K × V)) → R x k ≡ Equal → T (below_all R x es) → where_key R (λ q. not (eq_by_cmp R k q)) es ≡ es
  keeps_all k x [] tied below = refl
  keeps_all k x (e ∷ es) tied below =
      ap (λ r. cond (not (is_eq r)) (e ∷ where_key R (λ q. not (eq_by_cmp R k q)) es) (where_key R (λ q. not (eq_by_cmp R k q)) es)) (sym (o.congr x k e.0 tied) ∙ less _ (first _ _ below))
      ∙ ap (λ fs. e ∷ fs) (keeps_all k x es tied (second _ _ below))

  -- a key that is below all
  pub find_above : (q k : K) (es : List (K × V)) → R q k ≡ Equal → T (below_all R k es) → find R q es ≡ None
  find_above q k [] tied below = refl
  find_above q k (e ∷ es) tied below =
      ap (λ r. cond (is_eq r) (Some e.1) (find R q es)) (o.congr q k e.0 tied ∙ less _ (first _ _ below)) ∙ find_above q k es tied (second _ _ below)

-- ---- places in lists of entries

module _ {K V : Type 0} (R : K → K → Ordering) (o : IsTotalOrder R) where
  below_at : (x : K) (ys : List (K × V)) (i : ℕ) (d : K × V) → T (below_all R x ys) → i < length ys → R x (get_or ys i d).0 ≡ Less
  below_at x [] i d below within = absurd (omega arith)
  below_at x (y ∷ ys) zero d below within = less _ (first _ _ below)
  below_at x (y ∷ ys) (suc i) d below within = below_at x ys i d (second _ _ below) (omega arith)

  -- a new key, at its place
  pub put_missing : (xs : List (K × V)) (i : ℕ) (x : K × V) → i ≤ length xs
      → ((k : ℕ) (d : K × V) → 0 ≤ k → k < i → R (get_or xs k d).0 x.0 ≡ Less)
      → ((k : ℕ) (d : K × V) → i ≤ k → k < length xs → R (get_or xs k d).0 x.0 ≡ Greater)
      → insert xs i x ≡ put R x.0 x.1 xs
  put_missing [] zero x within below above = refl
  put_missing [] (suc i) x within below above = absurd (omega arith)
  put_missing (y ∷ ys) zero x within below above =
      ap (λ r. by_order r (x ∷ y ∷ ys) ((y.0, x.1) ∷ ys) (y ∷ put R x.0 x.1 ys))
      (sym (less_back R o y.0 x.0 (above 0 y (omega arith) (omega arith))))
  put_missing (y ∷ ys) (suc i) x within below above =
      ap (λ fs. y ∷ fs) (put_missing ys i x (omega arith) (λ k d low high. below (suc k) d (omega arith) (omega arith)) (λ k d low high. above (suc k) d (omega arith) (omega arith)))
      ∙ ap (λ r. by_order r (x ∷ y ∷ ys) ((y.0, x.1) ∷ ys) (y ∷ put R x.0 x.1 ys))
      (sym (greater_back R o y.0 x.0 (below 0 y (omega arith) (omega arith))))

  pub find_missing : (xs : List (K × V)) (i : ℕ) (q : K) → i ≤ length xs
      → ((k : ℕ) (d : K × V) → 0 ≤ k → k < i → R (get_or xs k d).0 q ≡ Less)
      → ((k : ℕ) (d : K × V) → i ≤ k → k < length xs → R (get_or xs k d).0 q ≡ Greater)
      → find R q xs ≡ None
  find_missing [] i q within below above = refl
  find_missing (y ∷ ys) zero q within below above =
      ap (λ r. cond (is_eq r) (Some y.1) (find R q ys)) (less_back R o y.0 q (above 0 y (omega arith) (omega arith)))
      ∙ find_missing ys zero q (omega arith) (λ k d low high. absurd (omega arith)) (λ k d low high. above (suc k) d (omega arith) (omega arith))
  find_missing (y ∷ ys) (suc i) q within below above =
      ap (λ r. cond (is_eq r) (Some y.1) (find R q ys)) (greater_back R o y.0 q (below 0 y (omega arith) (omega arith)))
      ∙ find_missing ys i q (omega arith) (λ k d low high. below (suc k) d (omega arith) (omega arith)) (λ k d low high. above (suc k) d (omega arith) (omega arith))

  -- a key below the one at a place
  above_first : (y : K × V) (ys : List (K × V)) (i : ℕ) (q : K) → i < length ys → T (is_sorted R (y ∷ ys)) → ((d : K × V) → R (get_or ys i d).0 q ≡ Equal) → R q y.0 ≡ Greater
  above_first y ys i q within sorted tied =
      greater_back R o y.0 q (sym (alike_right o _ q y.0 (tied y)) ∙ below_at y.0 ys i y (first _ _ sorted) within)

  pub find_found : (xs : List (K × V)) (i : ℕ) (q : K) (d : K × V) → i < length xs → T (is_sorted R xs) → ((d : K × V) → R (get_or xs i d).0 q ≡ Equal)
      → find R q xs ≡ Some (get_or xs i d).1
  find_found [] i q d within sorted tied = absurd (omega arith)
  find_found (y ∷ ys) zero q d within sorted tied = ap (λ r. cond (is_eq r) (Some y.1) (find R q ys)) (tied_back o y.0 q (tied y))
  find_found (y ∷ ys) (suc i) q d within sorted tied =
      ap (λ r. cond (is_eq r) (Some y.1) (find R q ys)) (above_first y ys i q (omega arith) sorted tied)
      ∙ find_found ys i q d (omega arith) (second _ _ sorted) tied

  -- a key that is there, at its place
  pub put_found : CmpEqualImpliesEq R → (xs : List (K × V)) (i : ℕ) (x : K × V) → i < length xs → T (is_sorted R xs)
      → ((d : K × V) → R (get_or xs i d).0 x.0 ≡ Equal)
      → set xs i x ≡ put R x.0 x.1 xs
  put_found exact [] i x within sorted tied = absurd (omega arith)
  put_found exact (y ∷ ys) zero x within sorted tied =
      ap (λ q. (q, x.1) ∷ ys) (sym (exact y.0 x.0 (tied y)))
      ∙ ap (λ r. by_order r (x ∷ y ∷ ys) ((y.0, x.1) ∷ ys) (y ∷ put R x.0 x.1 ys))
      (sym (tied_back o y.0 x.0 (tied y)))
  put_found exact (y ∷ ys) (suc i) x within sorted tied =
      ap (λ fs. y ∷ fs) (put_found exact ys i x (omega arith) (second _ _ sorted) tied)
      ∙ ap (λ r. by_order r (x ∷ y ∷ ys) ((y.0, x.1) ∷ ys) (y ∷ put R x.0 x.1 ys))
      (sym (above_first y ys i x.0 (omega arith) sorted tied))

  pub remove_found : (xs : List (K × V)) (i : ℕ) (q : K) → i < length xs → T (is_sorted R xs) → ((d : K × V) → R (get_or xs i d).0 q ≡ Equal)
      → remove xs i ≡ where_key R (λ k. not (eq_by_cmp R q k)) xs
  remove_found [] i q within sorted tied = absurd (omega arith)
  remove_found (y ∷ ys) zero q within sorted tied =
      let left = where_key R (λ k. not (eq_by_cmp R q k)) ys in
      sym (keeps_all R o q y.0 ys (tied y) (first _ _ sorted))
      ∙ ap (λ r. cond (not (is_eq r)) (y ∷ left) left) (sym (tied_back o y.0 q (tied y)))
  remove_found (y ∷ ys) (suc i) q within sorted tied =
      let left = where_key R (λ k. not (eq_by_cmp R q k)) ys in
      ap (λ fs. y ∷ fs) (remove_found ys i q (omega arith) (second _ _ sorted) tied)
      ∙ ap (λ r. cond (not (is_eq r)) (y ∷ left) left) (sym (above_first y ys i q (omega arith) sorted tied))

-- ---- finite maps

module _ {K V : Type 0} (R : K → K → Ordering) (o : IsTotalOrder R) (exact : CmpEqualImpliesEq R) where
  pub entries-retained : (m : FinMap R V) (p : K → Bool) → map.entries (map.retain_keys m p) ≡ where_key R p (map.entries m)
  entries-retained m p =
      let alike : (q x : K) → R q x ≡ Equal → p x ≡ p q = λ q x tied. ap p (sym (exact q x tied)) in
      same_entries R o exact (map.entries (map.retain_keys m p)) (where_key R p (map.entries m)) (entries_sorted (map.retain_keys m p)) (is_sorted-where_key R p (map.entries m) (entries_sorted m))
      (λ q. sym (get-entries (map.retain_keys m p) q) ∙ get-retain_keys m p q (alike q) ∙ ap (λ found. cond (p q) found None) (get-entries m q) ∙ sym (find-where_key R p q (alike q) (map.entries m)))

  turned : (b : Bool) (v : Option V) → cond (not b) v None ≡ cond b None v
  turned true v = refl
  turned false v = refl

  pub removed-retained : (m : FinMap R V) (k : K) → map.remove m k ≡ map.retain_keys m (λ q. not (eq_by_cmp R k q))
  removed-retained m k = same_map o exact (map.remove m k) (map.retain_keys m (λ q. not (eq_by_cmp R k q))) (λ q. get-remove o m k q
      ∙ ap (λ b. cond b None (map.get m q)) ((eq_by_cmp_equiv o).symm q k) ∙ sym (turned (eq_by_cmp R k q) (map.get m q))
      ∙ sym (get-retain_keys m (λ x. not (eq_by_cmp R k x)) q (λ x tied. ap (λ y. not (eq_by_cmp R k y)) (sym (exact q x tied)))))

  pub entries-removed : (m : FinMap R V) (k : K) → map.entries (map.remove m k) ≡ where_key R (λ q. not (eq_by_cmp R k q)) (map.entries m)
  entries-removed m k = ap map.entries (removed-retained m k) ∙ entries-retained m (λ q. not (eq_by_cmp R k q))

  -- a key without a value
  pub removed_none : (m : FinMap R V) (k : K) → map.get m k ≡ None → map.remove m k ≡ m
  removed_none m k none = same_map o exact (map.remove m k) m (λ q. get-remove o m k q ∙ at q (eq_by_cmp R q k) refl)
    where
      at : (q : K) (b : Bool) → eq_by_cmp R q k ≡ b → cond b None (map.get m q) ≡ map.get m q
      at q true is = sym (ap (map.get m) (exact q k (equal (R q k) is)) ∙ none)
      at q false is = refl

no_entries : {E : Type 0} (es : List E) → length es ≡ 0 → es ≡ []
no_entries [] none = refl
no_entries (e ∷ es) none = absurd (omega arith)

pub entries-empty : {K : Type 0} (V : Type 0) (R : K → K → Ordering) → map.entries (map.empty {K = K} {X = V} {R = R}) ≡ []
entries-empty V R = no_entries (map.entries map.empty) (sym (len-entries map.empty) ∙ len-empty R V)

-- a value that is there already
pub insert_same : {K V : Type 0} (R : K → K → Ordering) (o : IsTotalOrder R) (exact : CmpEqualImpliesEq R) (m : FinMap R V) (k : K) (v : V) → map.get m k ≡ Some v → map.insert m k v ≡ m
insert_same R o exact m k v has = same_map o exact (map.insert m k v) m (λ q. get-insert o m k v q ∙ at q (eq_by_cmp R q k) refl)
  where
    at : (q : _) (b : Bool) → eq_by_cmp R q k ≡ b → cond b (Some v) (map.get m q) ≡ map.get m q
    at q true same = sym (ap (map.get m) (exact q k (equal (R q k) same)) ∙ has)
    at q false apart = refl
