-- The index of the latest cells, as room is made and cells are put.
use Rattle.std.proofs.Common.{◌≡◌, ℕ, zero, suc, ◌+◌, ◌<◌, Bool, true, false, cond, List, [], ◌∷◌, ◌++◌, length, length-append, Option, Some, None, is_some, IsSome, Result, Ok, Err, refl, sym, ◌∙◌, ap, subst, arith, ltb}
use Rattle.std.specs.Prelude.{slice_get, OnOk, OnErr}
use Rattle.std.specs.BTreeMap.{get, is_at, ContainsKey}
use Rattle.std.proofs.lemmas.Bool.{ltb-true, ltb-false}
use Rattle.row_keys.specs.declared.key.Key.{Key}
use Rattle.cell_merge.specs.declared.cell.Cell.{Cell}
use Rattle.cell_merge.specs.Newest.{is_same_key, later, latest}
use Rattle.cell_merge.proofs.KeyLemmas.{same_key-true}
use Rattle.cell_merge.proofs.LatestLemmas.{latest-push}
use Rattle.cell_merge.proofs.IndexLemmas.{IsEarlier, IsNoEarlier}
use Rattle.tablet_mem.specs.declared.spot.Spot.{Spot}
use Rattle.tablet_mem.specs.Index.{Places, spot_of, spot_cmp, place_of, place_at, cell_at, IsIndexOf}
use Rattle.tablet_mem.proofs.SpotLemmas.{spot_equal}

-- n has this place at the spot, and at each other spot what m has
abbrev pub Sets : Places → Places → Spot → Option ℕ → Type 0
Sets m n spot place = (q : Spot) → get spot_cmp n q ≡ cond (is_at (spot_cmp spot) q) (Some place) (get spot_cmp m q)

set_at : (m n : Places) (spot : Spot) (place : Option ℕ) → Sets m n spot place → (q : Spot) → place_at n q ≡ cond (is_at (spot_cmp spot) q) place (place_at m q)
set_at m n spot place sets q = ap place_of (sets q) ∙ by (is_at (spot_cmp spot) q)
  where
    by : (b : Bool) → place_of (cond b (Some place) (get spot_cmp m q)) ≡ cond b place (place_at m q)
    by true = refl
    by false = refl

-- a spot that has none gets none
pub set_none : (m n : Places) (spot : Spot) → get spot_cmp m spot ≡ None → Sets m n spot None → (q : Spot) → place_at n q ≡ place_at m q
set_none m n spot none sets q = set_at m n spot None sets q ∙ by (is_at (spot_cmp spot) q) refl
  where
    by : (b : Bool) → is_at (spot_cmp spot) q ≡ b → cond b None (place_at m q) ≡ place_at m q
    by true is = sym (ap (λ (s : Spot). place_at m s) (sym (spot_equal spot q is)) ∙ ap place_of none)
    by false is = refl

pub set_kept : (m n : Places) (spot : Spot) (place : Option ℕ) → Sets m n spot place → (q : Spot) → ContainsKey spot_cmp m q → ContainsKey spot_cmp n q
set_kept m n spot place sets q there = subst (λ (o : Option (Option ℕ)). is_some o ≡ true) (sym (sets q)) (by (is_at (spot_cmp spot) q))
  where
    by : (b : Bool) → is_some (cond b (Some place) (get spot_cmp m q)) ≡ true
    by true = refl
    by false = there

pub none_is : {X : Type 0} (o : Option X) → is_some o ≡ false → o ≡ None
none_is None e = refl
none_is (Some x) e = absurd cc

slice_get-front : (xs : List Cell) (c : Cell) (i : ℕ) → i < length xs → slice_get (xs ++ c ∷ []) i ≡ slice_get xs i
slice_get-front [] c i lt = absurd (omega arith)
slice_get-front (x ∷ xs) c zero lt = refl
slice_get-front (x ∷ xs) c (suc i) lt = slice_get-front xs c i (omega arith)

slice_get-last : (xs : List Cell) (c : Cell) → slice_get (xs ++ c ∷ []) (length xs) ≡ Some c
slice_get-last [] c = refl
slice_get-last (x ∷ xs) c = slice_get-last xs c

-- what stood at a place stands there still
cell_at-front : (cells : List Cell) (c : Cell) (o : Option ℕ) → ((i : ℕ) → o ≡ Some i → i < length cells) → cell_at (cells ++ c ∷ []) o ≡ cell_at cells o
cell_at-front cells c None within = refl
cell_at-front cells c (Some i) within = slice_get-front cells c i (within i refl)

later-over : (o : Option Cell) (c : Cell) → IsEarlier o c → later o (Some c) ≡ Some c
later-over None c h = refl
later-over (Some d) c h = by (ltb d.time c.time) refl
  where
    by : (b : Bool) → ltb d.time c.time ≡ b → cond b (Some c) (Some d) ≡ Some c
    by true e = refl
    by false e = absurd (let le = ltb-false _ _ e in omega arith)

later-under : (o : Option Cell) (c : Cell) → IsNoEarlier o c → later o (Some c) ≡ o
later-under None c h = absurd h
later-under (Some d) c h = by (ltb d.time c.time) refl
  where
    by : (b : Bool) → ltb d.time c.time ≡ b → cond b (Some c) (Some d) ≡ Some d
    by true e = absurd (let lt = ltb-true _ _ e in omega arith)
    by false e = refl

later-none : (o : Option Cell) → later o None ≡ o
later-none None = refl
later-none (Some c) = refl

long : (cells : List Cell) (c : Cell) → length (cells ++ c ∷ []) ≡ length cells + 1
long cells c = length-append cells (c ∷ [])

-- one more cell, later than that of its key
pub index_put : (cells : List Cell) (m n : Places) (c : Cell) → IsIndexOf cells m → Sets m n (spot_of c.key) (Some (length cells)) → IsEarlier (latest cells c.key) c → IsIndexOf (cells ++ c ∷ []) n
index_put cells m n c index sets earlier = record {
  latest_at = λ k. ap (cell_at (cells ++ c ∷ [])) (set_at m n (spot_of c.key) (Some (length cells)) sets (spot_of k)) ∙ by k (is_same_key c.key k) refl ∙ sym (latest-push cells c k);
  within = λ q i e. inside q i (is_at (spot_cmp (spot_of c.key)) q) (sym (set_at m n (spot_of c.key) (Some (length cells)) sets q) ∙ e);
}
  where
    by : (k : Key) (b : Bool) → is_same_key c.key k ≡ b → cell_at (cells ++ c ∷ []) (cond b (Some (length cells)) (place_at m (spot_of k))) ≡ later (latest cells k) (cond b (Some c) None)
    by k true is = slice_get-last cells c ∙ sym (later-over (latest cells k) c (subst (λ (x : Key). IsEarlier (latest cells x) c) (same_key-true c.key k is) earlier))
    by k false is = cell_at-front cells c (place_at m (spot_of k)) (index.within (spot_of k)) ∙ index.latest_at k ∙ sym (later-none (latest cells k))

    inside : (q : Spot) (i : ℕ) (b : Bool) → cond b (Some (length cells)) (place_at m q) ≡ Some i → i < length (cells ++ c ∷ [])
    inside q i true e = let same : length cells ≡ i = cc in let more = long cells c in omega arith
    inside q i false e = let lt = index.within q i e in let more = long cells c in omega arith

-- one more cell, no later than that of its key
pub index_left : (cells : List Cell) (m : Places) (c : Cell) → IsIndexOf cells m → IsNoEarlier (latest cells c.key) c → IsIndexOf (cells ++ c ∷ []) m
index_left cells m c index no_earlier = record {
  latest_at = λ k. cell_at-front cells c (place_at m (spot_of k)) (index.within (spot_of k)) ∙ index.latest_at k ∙ by k (is_same_key c.key k) refl ∙ sym (latest-push cells c k);
  within = λ q i e. let lt = index.within q i e in let more = long cells c in omega arith;
}
  where
    by : (k : Key) (b : Bool) → is_same_key c.key k ≡ b → latest cells k ≡ later (latest cells k) (cond b (Some c) None)
    by k true is = sym (later-under (latest cells k) c (subst (λ (x : Key). IsNoEarlier (latest cells x) c) (same_key-true c.key k is) no_earlier))
    by k false is = sym (later-none (latest cells k))

-- the same, by the spot and the place that were put
pub index_put_at : (cells : List Cell) (m n : Places) (c : Cell) (spot : Spot) (place : ℕ) → spot ≡ spot_of c.key → place ≡ length cells → IsIndexOf cells m → Sets m n spot (Some place)
    → IsEarlier (latest cells c.key) c → IsIndexOf (cells ++ c ∷ []) n
index_put_at cells m n c spot place own last index sets earlier =
    index_put cells m n c index (subst (λ (i : ℕ). Sets m n (spot_of c.key) (Some i)) last (subst (λ (s : Spot). Sets m n s (Some place)) own sets)) earlier

-- what is refused only where nothing stands is not refused
pub must_be : {T E P Q : Type 0} (r : Result T E) → OnOk r P → OnErr r Q → (Q → ⊥) → P
must_be (Ok x) p q wrong = p
must_be (Err e) p q wrong = absurd (wrong q)

pub not_none : {X : Type 0} (o : Option X) → IsSome o → o ≡ None → ⊥
not_none None there e = cc
not_none (Some x) there e = cc

-- the same places, in another map
pub index_same : (cells : List Cell) (m n : Places) → ((q : Spot) → place_at n q ≡ place_at m q) → IsIndexOf cells m → IsIndexOf cells n
index_same cells m n same index = record {
  latest_at = λ k. ap (cell_at cells) (same (spot_of k)) ∙ index.latest_at k;
  within = λ q i e. index.within q i (sym (same q) ∙ e);
}
