-- Entries in a range of rows, listed.
use Rattle.std.proofs.Common.{◌≡◌, inl, inr, ℕ, Bool, true, false, cond, List, [], ◌∷◌, map as mapped, Contains, Option, Some, None, IsTrue, refl, sym, ◌∙◌, ap, subst}
use Rattle.std.specs.FinMap as map
use Rattle.std.specs.BTreeMap.Range.{entries_between, range_contains}
use Rattle.std.specs.List.{AllByRecursion, filter, filter_map, cons_option, list_all}
use Rattle.std.specs.List.Sorted.{IsStrictlySortedBy}
use Rattle.std.specs.Map.{keys_of}
use Rattle.std.specs.Ordering.{is_lt}
use Rattle.std.specs.Cmp.{eq_by_cmp_equiv}
use Rattle.std.specs.Cmp.Lexicographic.{nat_list_cmp_total}
use Rattle.std.specs.declared.cmp.Ordering.{Ordering}
use Rattle.std.specs.declared.cmp.Ordering.TheVariants.{Less}
use Rattle.std.specs.declared.ops.Bound.{Bound}
use Rattle.std.proofs.lemmas.Bool.{and_from}
use Rattle.std.proofs.lemmas.List.Kept.{IsStrictlySortedBy-filter}
use Rattle.std.proofs.lemmas.Map.Keys.{IsDistinct-from_sorted}
use Rattle.std.proofs.lemmas.Map.Lookups.{exact_bytes}
use Rattle.std.proofs.lemmas.Map.Views.{tells_apart, Contains-from_lookup, lookup-from_Contains}
use Rattle.row_keys.specs.RowOrder.{bytes_cmp}
use Rattle.metadata_schema.specs.Bytes.{is_rising}
use Rattle.level_rows.proofs.Membership.{Contains-nil, Contains-here, Contains-there, Contains-cons_cases, Contains-filter, Contains-in_filter}
use Rattle.node_store.specs.PathsTo.{path_cmp}
use Rattle.node_store.proofs.PathMaps.{lookup-map}
use Rattle.level_index.specs.declared.entry.LevelEntry.{LevelEntry}
use Rattle.level_index.specs.Entries.{Entries}

abbrev pub Listed : Type 0
Listed = List (List ℕ × LevelEntry)

-- what a test gives of the entries, without those where it gives nothing
abbrev pub picked : {X : Type 0} → (LevelEntry → Option X) → Listed → List X
picked pick es = filter_map (λ e. pick e.1) es

module _ {X : Type 0} (pick : LevelEntry → Option X) where
  pub from_picked : (es : Listed) (x : X) → Contains (picked pick es) x → (e : List ℕ × LevelEntry) × Contains es e × (pick e.1 ≡ Some x)
  from_picked [] x there = absurd (Contains-nil x there)
  from_picked (e ∷ es) x there = by (from_picked es x) (pick e.1) refl there
    where
      past : (d : List ℕ × LevelEntry) × Contains es d × (pick d.1 ≡ Some x) → (d : List ℕ × LevelEntry) × Contains (e ∷ es) d × (pick d.1 ≡ Some x)
      past r = (r.0, Contains-there e r.0 es r.1, r.2)

      by : (Contains (picked pick es) x → (d : List ℕ × LevelEntry) × Contains es d × (pick d.1 ≡ Some x)) → (o : Option X) → pick e.1 ≡ o → Contains (cons_option o (picked pick es)) x
          → (d : List ℕ × LevelEntry) × Contains (e ∷ es) d × (pick d.1 ≡ Some x)
      by rest None is there = past (rest there)
      by rest (Some y) is there = elim (Contains-cons_cases y x (picked pick es) there) [
        | inl same ↦ (e, Contains-here e es, is ∙ ap Some same)
        | inr behind ↦ past (rest behind)
      ]

  pub in_picked : (es : Listed) (e : List ℕ × LevelEntry) (x : X) → Contains es e → pick e.1 ≡ Some x → Contains (picked pick es) x
  in_picked [] e x there is = absurd (Contains-nil e there)
  in_picked (d ∷ es) e x there is = by (in_picked es e x) (pick d.1) refl
    where
      by : (Contains es e → pick e.1 ≡ Some x → Contains (picked pick es) x) → (o : Option X) → pick d.1 ≡ o → Contains (cons_option o (picked pick es)) x
      by rest None at = elim (Contains-cons_cases d e es there) [
        | inl same ↦ absurd (let wrong : None ≡ Some x = sym at ∙ ap (λ (y : List ℕ × LevelEntry). pick y.1) same ∙ is in cc)
        | inr behind ↦ rest behind is
      ]
      by rest (Some y) at = elim (Contains-cons_cases d e es there) [
        | inl same ↦ (let one : Some y ≡ Some x = sym at ∙ ap (λ (z : List ℕ × LevelEntry). pick z.1) same ∙ is in let y_is : y ≡ x = cc in subst (Contains (y ∷ picked pick es)) y_is (Contains-here y (picked pick es)))
        | inr behind ↦ Contains-there y x (picked pick es) (rest behind is)
      ]

-- ---- in order

module _ {X K : Type 0} (pick : LevelEntry → Option X) (key : X → K) (order : K → K → Ordering) (place : X → List ℕ) (alike : (x y : X) → order (key x) (key y) ≡ bytes_cmp (place x) (place y)) where
  -- what an entry gives has its row
  abbrev Owns : List ℕ × LevelEntry → Type 0
  Owns e = (x : X) → pick e.1 ≡ Some x → e.0 ≡ place x

  above : (row : List ℕ) (x : X) → row ≡ place x → (es : Listed) → AllByRecursion (λ other. bytes_cmp row other ≡ Less) (keys_of es) → AllByRecursion Owns es → list_all (λ other. is_lt (order (key x) other)) (mapped key (picked pick es)) ≡ true
  above row x at [] all own = refl
  above row x at (e ∷ es) all own = by (pick e.1) refl (above row x at es all.1 own.1)
    where
      by : (o : Option X) → pick e.1 ≡ o → list_all (λ other. is_lt (order (key x) other)) (mapped key (picked pick es)) ≡ true → list_all (λ other. is_lt (order (key x) other)) (mapped key (cons_option o (picked pick es))) ≡ true
      by None is rest = rest
      by (Some y) is rest = and_from (is_lt (order (key x) (key y))) (list_all (λ other. is_lt (order (key x) other)) (mapped key (picked pick es)))
          (ap is_lt (alike x y ∙ (λ i. bytes_cmp (sym at i) (sym (own.0 y is) i)) ∙ all.0)) rest

  pub rises : (es : Listed) → IsStrictlySortedBy path_cmp (keys_of es) → AllByRecursion Owns es → IsTrue (is_rising order (mapped key (picked pick es)))
  unfolding IsStrictlySortedBy
  rises [] up own = refl
  rises (e ∷ es) up own = by (pick e.1) refl (rises es up.1 own.1)
    where
      by : (o : Option X) → pick e.1 ≡ o → IsTrue (is_rising order (mapped key (picked pick es))) → IsTrue (is_rising order (mapped key (cons_option o (picked pick es))))
      by None is rest = rest
      by (Some x) is rest = and_from (list_all (λ other. is_lt (order (key x) other)) (mapped key (picked pick es))) (is_rising order (mapped key (picked pick es))) (above e.0 x (own.0 x is) es up.0 own.1) rest

-- ---- entries of a map

pub each_entry : (P : List ℕ × LevelEntry → Type 0) (es : Listed) → ((e : List ℕ × LevelEntry) → Contains es e → P e) → AllByRecursion P es
each_entry P [] all = tt
each_entry P (e ∷ es) all = (all e (Contains-here e es), each_entry P es (λ d there. all d (Contains-there e d es there)))

module _ (es : Listed) (entries : Entries) (up : IsStrictlySortedBy path_cmp (keys_of es)) (is : map.from_entries es ≡ entries) where
  pub entry_there : (e : List ℕ × LevelEntry) → Contains es e → map.get entries e.0 ≡ Some e.1
  entry_there e there =
      ap (λ (m : Entries). map.get m e.0) (sym is) ∙ sym (lookup-map e.0 es)
      ∙ lookup-from_Contains (eq_by_cmp_equiv nat_list_cmp_total) e.0 e.1 es (IsDistinct-from_sorted path_cmp (keys_of es) up) there

  pub there_entry : (row : List ℕ) (entry : LevelEntry) → map.get entries row ≡ Some entry → Contains es (row, entry)
  there_entry row entry at = Contains-from_lookup (λ x y e. tells_apart exact_bytes x y e) row entry es (lookup-map row es ∙ ap (λ (m : Entries). map.get m row) is ∙ at)

  module _ (low high : Bound (List ℕ)) where
    pub between_there : (e : List ℕ × LevelEntry) → Contains (entries_between path_cmp low high es) e → map.get entries e.0 ≡ Some e.1
    between_there e there = entry_there e (Contains-filter (λ d. range_contains path_cmp low high d.0) es e there).0

    pub there_between : (row : List ℕ) (entry : LevelEntry) → map.get entries row ≡ Some entry → range_contains path_cmp low high row ≡ true → Contains (entries_between path_cmp low high es) (row, entry)
    there_between row entry at inside = Contains-in_filter (λ d. range_contains path_cmp low high d.0) es (row, entry) (there_entry row entry at) inside

    keys-filter : (ds : Listed) → keys_of (filter (λ d. range_contains path_cmp low high d.0) ds) ≡ filter (range_contains path_cmp low high) (keys_of ds)
    keys-filter [] = refl
    keys-filter (d ∷ ds) = by (range_contains path_cmp low high d.0) (keys-filter ds)
      where
        by : (b : Bool) → keys_of (filter (λ x. range_contains path_cmp low high x.0) ds) ≡ filter (range_contains path_cmp low high) (keys_of ds)
            → keys_of (cond b (d ∷ filter (λ x. range_contains path_cmp low high x.0) ds) (filter (λ x. range_contains path_cmp low high x.0) ds)) ≡ cond b (d.0 ∷ filter (range_contains path_cmp low high) (keys_of ds)) (filter (range_contains path_cmp low high) (keys_of ds))
        by true h = ap (λ l. d.0 ∷ l) h
        by false h = h

    pub between_order : IsStrictlySortedBy path_cmp (keys_of (entries_between path_cmp low high es))
    between_order = subst (IsStrictlySortedBy path_cmp) (sym (keys-filter es)) (IsStrictlySortedBy-filter path_cmp (range_contains path_cmp low high) (keys_of es) up)
