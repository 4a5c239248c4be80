-- The newest cells between two rows, as the index gives them.
use Rattle.std.proofs.Common.{◌≡◌, ℕ, zero, suc, Bool, true, false, cond, List, [], ◌∷◌, Option, Some, None, Contains, map, refl, sym, ◌∙◌, ap, subst, inl, inr}
use Rattle.std.specs.Prelude.{slice_get}
use Rattle.std.specs.List.{AllByRecursion, filter, cons_option}
use Rattle.std.specs.List.Sorted.{IsStrictlySortedBy}
use Rattle.std.specs.BTreeMap.{get, is_at, IsOrdered}
use Rattle.std.specs.BTreeMap.Range.{entries_between, range_contains}
use Rattle.std.specs.Map.{lookup, keys_of}
use Rattle.std.specs.declared.cmp.Ordering.TheVariants.{Less}
use Rattle.std.proofs.lemmas.Cmp.{eq_by_cmp_equiv}
use Rattle.std.proofs.lemmas.List.Kept.{IsStrictlySortedBy-filter}
use Rattle.std.proofs.lemmas.Map.Entries.{place_from_lookup, lookup_from_place, lookup-filter-keys}
use Rattle.std.proofs.lemmas.Map.Keys.{IsDistinct-from_sorted}
use Rattle.row_keys.specs.declared.key.Key.{Key}
use Rattle.row_keys.specs.Keys.{key_cmp}
use Rattle.row_keys.specs.RowOrder.{is_within, is_interval}
use Rattle.cell_merge.specs.declared.cell.Cell.{Cell}
use Rattle.cell_merge.specs.Newest.{latest, clipped, HaveRisingKeys, IsMerged}
use Rattle.cell_merge.proofs.Membership.{Contains-nil, Contains-here, Contains-there, Contains-cons_cases}
use Rattle.cell_merge.proofs.LatestLemmas.{latest-some, latest-clipped}
use Rattle.cell_merge.proofs.MergedLemmas.{latest-clipped_outside}
use Rattle.tablet_mem.specs.declared.spot.Spot.{Spot}
use Rattle.tablet_mem.specs.Index.{Places, spot_of, spot_cmp, start_of, end_of, place_of, cell_at, cells_at, IsIndexOf}
use Rattle.tablet_mem.proofs.SpotLemmas.{spot_total, spot_equal, key_of, range_is, none_within}

abbrev Entries : Type 0
Entries = List (Spot × Option ℕ)

-- what is among the cells stands at the place of an entry
from_entries : (cells : List Cell) (es : Entries) (c : Cell) → Contains (cells_at cells es) c → (i : ℕ) × (e : Spot × Option ℕ) × (slice_get es i ≡ Some e) × (cell_at cells e.1 ≡ Some c)
from_entries cells [] c there = absurd (Contains-nil c there)
from_entries cells (e ∷ es) c there = by (from_entries cells es c) (cell_at cells e.1) refl there
  where
    past : (i : ℕ) × (d : Spot × Option ℕ) × (slice_get es i ≡ Some d) × (cell_at cells d.1 ≡ Some c) → (i : ℕ) × (d : Spot × Option ℕ) × (slice_get (e ∷ es) i ≡ Some d) × (cell_at cells d.1 ≡ Some c)
    past r = (suc r.0, r.1, r.2, r.3)

    by : (Contains (cells_at cells es) c → (i : ℕ) × (d : Spot × Option ℕ) × (slice_get es i ≡ Some d) × (cell_at cells d.1 ≡ Some c)) → (o : Option Cell) → cell_at cells e.1 ≡ o → Contains (cons_option o (cells_at cells es)) c
        → (i : ℕ) × (d : Spot × Option ℕ) × (slice_get (e ∷ es) i ≡ Some d) × (cell_at cells d.1 ≡ Some c)
    by rest None is there = past (rest there)
    by rest (Some d) is there = elim (Contains-cons_cases d c (cells_at cells es) there) [
      | inl same ↦ (0, e, refl, is ∙ ap Some same)
      | inr behind ↦ past (rest behind)
    ]

-- what stands at the place of an entry is among the cells
in_entries : (cells : List Cell) (es : Entries) (c : Cell) (i : ℕ) (e : Spot × Option ℕ) → slice_get es i ≡ Some e → cell_at cells e.1 ≡ Some c → Contains (cells_at cells es) c
in_entries cells [] c i e at is = absurd cc
in_entries cells (d ∷ es) c zero e at is =
    let same : d ≡ e = cc in
    let here : cell_at cells d.1 ≡ Some c = ap (λ (x : Spot × Option ℕ). cell_at cells x.1) same ∙ is in
    subst (λ (o : Option Cell). Contains (cons_option o (cells_at cells es)) c) (sym here) (Contains-here c (cells_at cells es))
in_entries cells (d ∷ es) c (suc i) e at is = by (cell_at cells d.1) (in_entries cells es c i e at is)
  where
    by : (o : Option Cell) → Contains (cells_at cells es) c → Contains (cons_option o (cells_at cells es)) c
    by None rest = rest
    by (Some x) rest = Contains-there x c (cells_at cells es) rest

-- the cell at an entry's place is of the key of its spot
abbrev Owns : List Cell → Spot × Option ℕ → Type 0
Owns cells e = (c : Cell) → cell_at cells e.1 ≡ Some c → spot_of c.key ≡ e.0

abbrev AllOwn : List Cell → Entries → Type 0
AllOwn cells es = AllByRecursion (Owns cells) es

-- the cells of entries above a spot are above its key
above : (cells : List Cell) (s : Spot) (es : Entries) → AllByRecursion (λ (other : Spot). spot_cmp s other ≡ Less) (keys_of es) → AllOwn cells es
    → AllByRecursion (λ (other : Key). key_cmp (key_of s) other ≡ Less) (map (λ (c : Cell). c.key) (cells_at cells es))
above cells s [] all own = tt
above cells s (e ∷ es) all own = by (cell_at cells e.1) refl (above cells s es all.1 own.1)
  where
    by : (o : Option Cell) → cell_at cells e.1 ≡ o → AllByRecursion (λ (other : Key). key_cmp (key_of s) other ≡ Less) (map (λ (c : Cell). c.key) (cells_at cells es))
        → AllByRecursion (λ (other : Key). key_cmp (key_of s) other ≡ Less) (map (λ (c : Cell). c.key) (cons_option o (cells_at cells es)))
    by None is rest = rest
    by (Some c) is rest = (ap (spot_cmp s) (own.0 c is) ∙ all.0, rest)

rising : (cells : List Cell) (es : Entries) → IsStrictlySortedBy spot_cmp (keys_of es) → AllOwn cells es → HaveRisingKeys (cells_at cells es)
unfolding IsStrictlySortedBy
rising cells [] up own = tt
rising cells (e ∷ es) up own = by (cell_at cells e.1) refl (rising cells es up.1 own.1)
  where
    by : (o : Option Cell) → cell_at cells e.1 ≡ o → HaveRisingKeys (cells_at cells es) → HaveRisingKeys (cons_option o (cells_at cells es))
    by None is rest = rest
    by (Some c) is rest =
        (subst (λ (s : Spot). AllByRecursion (λ (other : Key). key_cmp (key_of s) other ≡ Less) (map (λ (d : Cell). d.key) (cells_at cells es))) (sym (own.0 c is)) (above cells e.0 es up.0 own.1), rest)

-- entries in order are found by their spots
found : (es : Entries) (i : ℕ) (e : Spot × Option ℕ) → IsStrictlySortedBy spot_cmp (keys_of es) → slice_get es i ≡ Some e → lookup (is_at (spot_cmp e.0)) es ≡ Some e.1
found es i e up at = lookup_from_place (eq_by_cmp_equiv spot_total) es i e.0 e.1 (IsDistinct-from_sorted spot_cmp (keys_of es) up) at

-- a fact of each entry, by its place
each_entry : (P : Spot × Option ℕ → Type 0) (es : Entries) → ((i : ℕ) (e : Spot × Option ℕ) → slice_get es i ≡ Some e → P e) → AllByRecursion P es
each_entry P [] all = tt
each_entry P (e ∷ es) all = (all 0 e refl, each_entry P es (λ i d at. all (suc i) d at))

abbrev IsFoundAs : List Cell → Entries → List Cell → Type 0
IsFoundAs cells es target = (key : Key) → cell_at cells (place_of (lookup (is_at (spot_cmp (spot_of key))) es)) ≡ latest target key

-- the cell at an entry's place is the latest of its key
entry_latest : (cells target : List Cell) (es : Entries) (i : ℕ) (e : Spot × Option ℕ) (c : Cell) → IsStrictlySortedBy spot_cmp (keys_of es) → IsFoundAs cells es target
    → slice_get es i ≡ Some e → cell_at cells e.1 ≡ Some c → latest target (key_of e.0) ≡ Some c
entry_latest cells target es i e c up is at here = sym (is (key_of e.0)) ∙ ap (λ (o : Option (Option ℕ)). cell_at cells (place_of o)) (found es i e up at) ∙ here

-- entries that are found as some cells have them give the newest of those
pub merged_at : (cells target : List Cell) (es : Entries) → IsStrictlySortedBy spot_cmp (keys_of es) → IsFoundAs cells es target → IsMerged target true (cells_at cells es)
merged_at cells target es up is = record {
  rising = rising cells es up (each_entry (Owns cells) es (λ i e at c here. ap spot_of (latest-some target (key_of e.0) c (entry_latest cells target es i e c up is at here)).at));
  each = λ c. (
    λ there.
        let r = from_entries cells es c there in
        let last = entry_latest cells target es r.0 r.1 c up is r.2 r.3 in
        (subst (λ (k : Key). latest target k ≡ Some c) (sym (latest-some target (key_of r.1.0) c last).at) last, refl),
    λ both. back c (lookup (is_at (spot_cmp (spot_of c.key))) es) refl (is c.key ∙ both.0),
  );
}
  where
    back : (c : Cell) (o : Option (Option ℕ)) → lookup (is_at (spot_cmp (spot_of c.key))) es ≡ o → cell_at cells (place_of o) ≡ Some c → Contains (cells_at cells es) c
    back c None e here = absurd cc
    back c (Some place) e here =
        let r = place_from_lookup (is_at (spot_cmp (spot_of c.key))) es place e in
        in_entries cells es c r.0 (r.1, place) r.2 here

keys-filter : (p : Spot → Bool) (es : Entries) → keys_of (filter (λ e. p e.0) es) ≡ filter p (keys_of es)
keys-filter p [] = refl
keys-filter p (e ∷ es) = by (p e.0) (keys-filter p es)
  where
    by : (b : Bool) → keys_of (filter (λ d. p d.0) es) ≡ filter p (keys_of es) → keys_of (cond b (e ∷ filter (λ d. p d.0) es) (filter (λ d. p d.0) es)) ≡ cond b (e.0 ∷ filter p (keys_of es)) (filter p (keys_of es))
    by true h = ap (λ (l : List Spot). e.0 ∷ l) h
    by false h = h

-- the entries between two rows give the newest cells of the rows within
pub newest_between : (cells : List Cell) (m : Places) (low high : Option (List ℕ)) → IsIndexOf cells m → IsOrdered spot_cmp m
    → IsMerged (clipped low high cells) true (cells_at cells (entries_between spot_cmp (start_of low) (end_of high) m.entries))
newest_between cells m low high index up =
    merged_at cells (clipped low high cells) (entries_between spot_cmp (start_of low) (end_of high) m.entries)
    (subst (IsStrictlySortedBy spot_cmp) (sym (keys-filter inside m.entries)) (IsStrictlySortedBy-filter spot_cmp inside (keys_of m.entries) up))
    (λ key. ap (λ (o : Option (Option ℕ)). cell_at cells (place_of o)) (ranged key) ∙ by key (is_within low high key.row) refl)
  where
    inside : Spot → Bool
    inside = range_contains spot_cmp (start_of low) (end_of high)

    ranged : (key : Key) → lookup (is_at (spot_cmp (spot_of key))) (entries_between spot_cmp (start_of low) (end_of high) m.entries) ≡ cond (is_within low high key.row) (get spot_cmp m (spot_of key)) None
    ranged key = lookup-filter-keys (is_at (spot_cmp (spot_of key))) inside (is_within low high key.row) (λ s at. range_is low high s ∙ ap (λ (x : Spot). is_within low high x.row) (sym (spot_equal (spot_of key) s at))) m.entries

    by : (key : Key) (b : Bool) → is_within low high key.row ≡ b → cell_at cells (place_of (cond b (get spot_cmp m (spot_of key)) None)) ≡ latest (clipped low high cells) key
    by key true is = index.latest_at key ∙ sym (latest-clipped low high cells key is)
    by key false is = sym (latest-clipped_outside low high cells key is)

empty : IsStrictlySortedBy spot_cmp []
unfolding IsStrictlySortedBy
empty = tt

-- bounds that are no interval have no cells
pub newest_of_none : (cells : List Cell) (low high : Option (List ℕ)) → is_interval low high ≡ false → IsMerged (clipped low high cells) true []
newest_of_none cells low high none = merged_at cells (clipped low high cells) [] empty (λ key. sym (latest-clipped_outside low high cells key (none_within low high key.row none)))
