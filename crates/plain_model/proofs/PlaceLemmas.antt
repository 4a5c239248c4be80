-- What a binary search finds in the list of a map.
use Rattle.std.proofs.Common.{◌≡◌, ℕ, zero, suc, ◌<◌, ◌≤◌, Bool, true, false, cond, List, [], ◌∷◌, length, get_or, set, map as mapped, Result, Ok, Err, Ordering, Less, Equal, Greater, refl, sym, ◌∙◌, ap, arith, add-one}
use Rattle.std.specs.Prelude.{insert, remove}
use Rattle.std.specs.List.{filter}
use Rattle.std.specs.FinMap.Entries.{where_key}
use Rattle.std.specs.List.Sorted.{IsBinarySearchResult, IsSearchInRange, IsSortedBy}
use Rattle.std.specs.Ordering.{is_lt, ordering_reverse}
use Rattle.std.specs.Cmp.{IsTotalOrder}
use Rattle.std.specs.FinMap as map
use Rattle.std.specs.FinMap.{FinMap, is_sorted, entries_sorted, get-entries, entries-insert}
use Rattle.std.proofs.lemmas.List.{get_or-map, length-map}
use Rattle.std.proofs.Math.ListN.{get_or-map as get_or_mapped}
use Rattle.std.proofs.lemmas.List.Sorted.{searchable_from_sorted}
use Rattle.std.proofs.lemmas.Map.Lookups.{CmpEqualImpliesEq}
use lib.Dec.{T}
use Rattle.plain_model.specs.Listed.{listed}
use Rattle.plain_model.specs.Places.{IsFound, IsPlace}
use Rattle.plain_model.proofs.InOrder.{first, second, put_missing, find_missing, find_found, put_found, remove_found, entries-removed, entries-retained}

module _ {E X : Type 0} (f : E → X) where
  set-mapped : (es : List E) (i : ℕ) (e : E) → set (mapped f es) i (f e) ≡ mapped f (set es i e)
  set-mapped [] i e = refl
  set-mapped (x ∷ es) zero e = refl
  set-mapped (x ∷ es) (suc i) e = ap (λ xs. f x ∷ xs) (set-mapped es i e)

  insert-mapped : (es : List E) (i : ℕ) (e : E) → i ≤ length es → insert (mapped f es) i (f e) ≡ mapped f (insert es i e)
  insert-mapped [] zero e within = refl
  insert-mapped [] (suc i) e within = absurd (omega arith)
  insert-mapped (x ∷ es) zero e within = refl
  insert-mapped (x ∷ es) (suc i) e within = ap (λ xs. f x ∷ xs) (insert-mapped es i e (omega arith))

  remove-mapped : (es : List E) (i : ℕ) → i < length es → remove (mapped f es) i ≡ mapped f (remove es i)
  remove-mapped [] i within = absurd (omega arith)
  remove-mapped (x ∷ es) zero within = refl
  remove-mapped (x ∷ es) (suc i) within = ap (λ xs. f x ∷ xs) (remove-mapped es i (omega arith))

some_entry : {E : Type 0} (es : List E) (i : ℕ) → i < length es → E
some_entry [] i within = absurd (omega arith)
some_entry (e ∷ es) i within = e

module _ {K V X : Type 0} {R : K → K → Ordering} (o : IsTotalOrder R) (exact : CmpEqualImpliesEq R) (item : K × V → X) (key : X → K) (keyed : (e : K × V) → key (item e) ≡ e.0) where
  rising : (es : List (K × V)) → T (is_sorted R es) → (j : ℕ) (d : X) → suc j < length es → is_lt (R (key (get_or (mapped item es) (suc j) d)) (key (get_or (mapped item es) j d))) ≡ false
  rising [] sorted j d within = absurd (omega arith)
  rising (y ∷ []) sorted j d within = absurd (omega arith)
  rising (y ∷ z ∷ es) sorted zero d within =
      ap (λ q. is_lt (R q (key (item y)))) (keyed z) ∙ ap (λ q. is_lt (R z.0 q)) (keyed y) ∙ at (R y.0 z.0) refl (first _ _ (first _ _ sorted))
    where
      at : (r : Ordering) → R y.0 z.0 ≡ r → T (is_lt r) → is_lt (R z.0 y.0) ≡ false
      at Less is less = ap is_lt (o.antisymm z.0 y.0 ∙ ap ordering_reverse is)
      at Equal is less = absurd less
      at Greater is less = absurd less
  rising (y ∷ z ∷ es) sorted (suc j) d within = rising (z ∷ es) (second _ _ sorted) j d (omega arith)

  module _ (m : FinMap R V) (q : K) where
    abbrev es : List (K × V)
    es = map.entries m

    -- an item's key is its entry's
    keyed_at : (i : ℕ) (e : K × V) → key (get_or (listed item m) i (item e)) ≡ (get_or es i e).0
    keyed_at i e = ap key (get_or_mapped item es i e) ∙ keyed (get_or es i e)

    searchable : IsSortedBy (λ a b. is_lt (R (key a) (key b))) (listed item m)
    searchable j d low high =
        let within : suc j < length es = omega (arith, length-map es item, add-one j) in
        rw (add-one j) (rising es (entries_sorted m) j d within)

    found : (i : ℕ) → i < length (listed item m) → ((d : X) → R (key (get_or (listed item m) i d)) q ≡ Equal) → IsFound item m q i
    found i bound tied = record {
      value = value;
      has = get-entries m q ∙ find_found R o es i q d within (entries_sorted m) ties;
      within = bound;
      at = λ x. get_or-map item es i d x within ∙ ap (λ k. item (k, value)) (exact (get_or es i d).0 q (ties d));
      put = λ w. set-mapped item es i (q, w) ∙ ap (mapped item) (put_found R o exact es i (q, w) within (entries_sorted m) ties ∙ sym (entries-insert o m q w));
      removed = remove-mapped item es i within ∙ ap (mapped item) (remove_found R o es i q within (entries_sorted m) ties ∙ sym (entries-removed R o exact m q));
    }
      where
        within : i < length es
        within = omega (arith, length-map es item, bound)

        d : K × V
        d = some_entry es i within

        value : V
        value = (get_or es i d).1

        ties : (e : K × V) → R (get_or es i e).0 q ≡ Equal
        ties e = ap (λ k. R k q) (sym (keyed_at i e)) ∙ tied (item e)

    pub place_is : (r : Result ℕ ℕ) → IsSearchInRange r (length (listed item m)) → IsBinarySearchResult (λ x. R (key x) q) (listed item m) r → IsPlace item m q r
    place_is (Ok i) bound is = found i bound is
    place_is (Err i) bound is =
        let parts = is (searchable_from_sorted o key (listed item m) q searchable) in
        let within : i ≤ length es = omega (arith, length-map es item, bound) in
        let below : (k : ℕ) (e : K × V) → 0 ≤ k → k < i → R (get_or es k e).0 q ≡ Less = λ k e low high. ap (λ x. R x q) (sym (keyed_at k e)) ∙ parts.0 k (item e) low high in
        let above : (k : ℕ) (e : K × V) → i ≤ k → k < length es → R (get_or es k e).0 q ≡ Greater = λ k e low high. ap (λ x. R x q) (sym (keyed_at k e)) ∙ parts.1 k (item e) low (omega (arith, length-map es item, high)) in
        record {
          has_not = get-entries m q ∙ find_missing R o es i q within below above;
          within = bound;
          put = λ w. insert-mapped item es i (q, w) within ∙ ap (mapped item) (put_missing R o es i (q, w) within below above ∙ sym (entries-insert o m q w));
        }

module _ {K V X : Type 0} {R : K → K → Ordering} (o : IsTotalOrder R) (exact : CmpEqualImpliesEq R) (item : K × V → X) (m : FinMap R V) where
  -- a test of the items that is one of the keys
  pub filter-listed : (test : X → Bool) (p : K → Bool) → ((e : K × V) → test (item e) ≡ p e.0) → filter test (listed item m) ≡ listed item (map.retain_keys m p)
  filter-listed test p says = each (map.entries m) ∙ ap (mapped item) (sym (entries-retained R o exact m p))
    where
      each : (es : List (K × V)) → filter test (mapped item es) ≡ mapped item (where_key R p es)
      each [] = refl
      each (e ∷ es) = ap (λ b. cond b (item e ∷ filter test (mapped item es)) (filter test (mapped item es))) (says e) ∙ at (each es) (p e.0)
        where
          at : filter test (mapped item es) ≡ mapped item (where_key R p es) → (b : Bool) → cond b (item e ∷ filter test (mapped item es)) (filter test (mapped item es)) ≡ mapped item (cond b (e ∷ where_key R p es) (where_key R p es))
          at later true = ap (λ xs. item e ∷ xs) later
          at later false = later
