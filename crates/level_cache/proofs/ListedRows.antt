-- The records of the metadata table's tablets, listed from the cells that tell them.
use Rattle.std.proofs.Common.{◌≡◌, ◌⊎◌, inl, inr, ℕ, ◌&&◌, Bool, true, false, cond, codes, drop, get_or, List, [], ◌∷◌, Contains, Option, Some, None, is_some, refl, sym, ◌∙◌, ap, subst, arith}
use Rattle.std.specs.BTreeMap.Range.{entries_between}
use Rattle.std.specs.Cmp.{eq_by_cmp_equiv}
use Rattle.std.specs.Cmp.Lexicographic.{nat_list_cmp_total}
use Rattle.std.specs.FinMap as map
use Rattle.std.specs.FinMap.{get-empty, get-entries, get-from_entries, is_sorted}
use Rattle.std.specs.FinMap.Entries.{below_all}
use Rattle.std.specs.List.{AllByRecursion}
use Rattle.std.specs.List.Sorted.{IsStrictlySortedBy}
use Rattle.std.specs.Map.{keys_of}
use Rattle.std.specs.Option.{option_and_then, option_map}
use Rattle.std.specs.Ordering.{eq_by_cmp, is_lt}
use Rattle.std.specs.declared.cmp.Ordering.{Ordering}
use Rattle.std.specs.declared.cmp.Ordering.TheVariants.{Less, Equal, Greater}
use Rattle.std.proofs.lemmas.Bool.{false≢true}
use Rattle.std.proofs.lemmas.Map.Lookups.{exact_bytes}
use Rattle.std.proofs.lemmas.Map.Views.{tells_apart}
use Rattle.std.proofs.lemmas.Option.{none-some, same_Some}
use lib.Dec.{T}
use Rattle.row_keys.specs.MetadataRow.{metadata_row, IsTabletName}
use Rattle.row_keys.specs.declared.key.Key.{Key}
use Rattle.metadata_schema.specs.Columns.{columns_of, column_at}
use Rattle.metadata_schema.specs.declared.tablet.TabletRecord.{TabletRecord}
use Rattle.metadata_schema.proofs.AcceptedLemmas.{prev_there}
use Rattle.cell_merge.specs.Newest.{latest, newest_at}
use Rattle.cell_merge.specs.declared.cell.Cell.{Cell}
use Rattle.cell_merge.proofs.LatestLemmas.{latest-some}
use Rattle.level_rows.specs.Chain.{Rows}
use Rattle.level_rows.proofs.Membership.{Contains-nil, Contains-here, Contains-there, Contains-cons_cases}
use Rattle.node_store.specs.PathsTo.{path_cmp, with_entry}
use Rattle.node_store.proofs.PathMaps.{get-with_entry, same_paths}
use Rattle.store_meaning.specs.Levels.{Level, IsLevelOf, IsMetadataTable, record_columns, metadata_id}
use Rattle.state_reader.specs.declared.level.LevelKind.TheVariants.{Metadata}
use Rattle.level_index.specs.Entries.{Entries, LevelMap, level_of, record_in, tablet_in, IsLevelMap, StandsAt}
use Rattle.level_index.specs.Ranges.{record_of}
use Rattle.level_index.specs.declared.entry.LevelEntry.{LevelEntry}
use Rattle.level_index.specs.declared.entry.LevelEntry.TheVariants.{Tablet}
use Rattle.level_index.proofs.EntryLemmas.{named_test}
use Rattle.level_index.proofs.LevelLemmas.{found}
use Rattle.level_index.proofs.ListLemmas.{Listed, picked}
use Rattle.level_index.proofs.ListedLevels.{first_of, last_of, records_listed}
use Rattle.level_cache.specs.Tables.{AreRecordsAt}

-- ---- a map's entries are in order

less : (o : Ordering) → T (is_lt o) → o ≡ Less
less Less p = refl
less Equal p = absurd p
less Greater p = absurd p

parts : (a b : Bool) → T (a && b) → T a × T b
parts true b p = (tt, p)
parts false b p = absurd p

below : (k : List ℕ) (es : Listed) → T (below_all path_cmp k es) → AllByRecursion (λ y. path_cmp k y ≡ Less) (keys_of es)
below k [] p = tt
below k (e ∷ es) p = let two = parts (is_lt (path_cmp k e.0)) (below_all path_cmp k es) p in (less (path_cmp k e.0) two.0, below k es two.1)

ordered : (es : Listed) → T (is_sorted path_cmp es) → IsStrictlySortedBy path_cmp (keys_of es)
unfolding IsStrictlySortedBy
ordered [] p = tt
ordered (e ∷ es) p = let two = parts (below_all path_cmp e.0 es) (is_sorted path_cmp es) p in (below e.0 es two.0, ordered es two.1)

same_entries : (m : Entries) → map.from_entries (map.entries m) ≡ m
same_entries m = same_paths (map.from_entries (map.entries m)) m (λ q. get-from_entries nat_list_cmp_total (map.entries m) q ∙ sym (get-entries m q))

-- ---- rows of the metadata table

one_end : (a b : Option (List ℕ)) → metadata_row metadata_id a ≡ metadata_row metadata_id b → a ≡ b
one_end None None e = refl
one_end (Some x) (Some y) e = ap (λ (l : List ℕ). Some (drop 3 l)) e
one_end None (Some y) e = absurd (let third : 60 ≡ 59 = ap (λ (l : List ℕ). get_or l 2 0) e in omega (arith, third))
one_end (Some x) None e = absurd (let third : 59 ≡ 60 = ap (λ (l : List ℕ). get_or l 2 0) e in omega (arith, third))

-- the entry is a record of these, at its row
record IsTabletOf (rows : Rows) (row : List ℕ) (entry : LevelEntry) : Type 0 where
  end : Option (List ℕ)
  tablet : TabletRecord
  place : row ≡ metadata_row metadata_id end
  there : rows end ≡ Some tablet
  is : entry ≡ Tablet tablet

tablet_of : (rows : Rows) (row : List ℕ) (end : Option (List ℕ)) (o : Option TabletRecord) (entry : LevelEntry) → row ≡ metadata_row metadata_id end → rows end ≡ o → option_map Tablet o ≡ Some entry → IsTabletOf rows row entry
tablet_of rows row end None entry place at e = absurd (none-some entry e)
tablet_of rows row end (Some t) entry place at e = record { end = end; tablet = t; place = place; there = at; is = sym (same_Some (Tablet t) entry e) }

-- the records at these end rows, as the entries of a map
entries_at : Rows → List (Option (List ℕ)) → Entries
entries_at rows [] = map.empty
entries_at rows (end ∷ ends) = with_entry (entries_at rows ends) (metadata_row metadata_id end) (option_map Tablet (rows end))

module _ (rows : Rows) where
  get_at : (end : Option (List ℕ)) (ends : List (Option (List ℕ))) (row : List ℕ) → map.get (entries_at rows (end ∷ ends)) row ≡ cond (eq_by_cmp path_cmp row (metadata_row metadata_id end)) (option_map Tablet (rows end)) (map.get (entries_at rows ends) row)
  unfolding entries_at
  get_at end ends row = get-with_entry (entries_at rows ends) (metadata_row metadata_id end) (option_map Tablet (rows end)) row

  from_entries : (ends : List (Option (List ℕ))) (row : List ℕ) (entry : LevelEntry) → map.get (entries_at rows ends) row ≡ Some entry → IsTabletOf rows row entry
  unfolding entries_at
  from_entries [] row entry e = absurd (none-some entry (sym (get-empty path_cmp row) ∙ e))
  from_entries (end ∷ ends) row entry e = by (eq_by_cmp path_cmp row (metadata_row metadata_id end)) refl (sym (get_at end ends row) ∙ e) (λ rest. from_entries ends row entry rest)
    where
      by : (b : Bool) → eq_by_cmp path_cmp row (metadata_row metadata_id end) ≡ b → cond b (option_map Tablet (rows end)) (map.get (entries_at rows ends) row) ≡ Some entry
          → (map.get (entries_at rows ends) row ≡ Some entry → IsTabletOf rows row entry) → IsTabletOf rows row entry
      by true same at more = tablet_of rows row end (rows end) entry (tells_apart exact_bytes row (metadata_row metadata_id end) same) refl at
      by false same at more = more at

  in_entries : (ends : List (Option (List ℕ))) (end : Option (List ℕ)) (t : TabletRecord) → Contains ends end → rows end ≡ Some t → map.get (entries_at rows ends) (metadata_row metadata_id end) ≡ Some (Tablet t)
  in_entries [] end t has at = absurd (Contains-nil end has)
  in_entries (other ∷ ends) end t has at = get_at other ends row ∙ by (eq_by_cmp path_cmp row (metadata_row metadata_id other)) refl (Contains-cons_cases other end ends has) (λ more. in_entries ends end t more at)
    where
      row : List ℕ
      row = metadata_row metadata_id end

      by : (b : Bool) → eq_by_cmp path_cmp row (metadata_row metadata_id other) ≡ b → (other ≡ end) ⊎ Contains ends end → (Contains ends end → map.get (entries_at rows ends) row ≡ Some (Tablet t))
          → cond b (option_map Tablet (rows other)) (map.get (entries_at rows ends) row) ≡ Some (Tablet t)
      by true same either more = ap (λ e. option_map Tablet (rows e)) (sym (one_end end other (tells_apart exact_bytes row (metadata_row metadata_id other) same))) ∙ ap (option_map Tablet) at
      by false same (inl is) more = absurd (false≢true (sym same ∙ ap (λ e. eq_by_cmp path_cmp row (metadata_row metadata_id e)) is ∙ (eq_by_cmp_equiv nat_list_cmp_total).refl row))
      by false same (inr rest) more = more rest

-- ---- the cells of a level

prev_key : Option (List ℕ) → Key
prev_key end = record { row = metadata_row metadata_id end; family = codes "~tab"; qualifier = codes "~pr" }

-- the end row in a cell's row
end_in : Cell → Option (List ℕ)
end_in cell = Some (drop 3 cell.key.row)

ends_in : List Cell → List (Option (List ℕ))
ends_in [] = []
ends_in (cell ∷ cells) = end_in cell ∷ ends_in cells

end_there : (cells : List Cell) (cell : Cell) → Contains cells cell → Contains (ends_in cells) (end_in cell)
unfolding ends_in
end_there [] cell has = absurd (Contains-nil cell has)
end_there (c ∷ cells) cell has = elim (Contains-cons_cases c cell cells has) [
  | inl is ↦ subst (λ x. Contains (end_in c ∷ ends_in cells) (end_in x)) is (Contains-here (end_in c) (ends_in cells))
  | inr more ↦ Contains-there (end_in c) (end_in cell) (ends_in cells) (end_there cells cell more)
]

module _ (cells : List Cell) (level : Level) (is : IsLevelOf IsMetadataTable cells level) where
  abbrev OwnRows : Rows
  OwnRows = level.records metadata_id

  abbrev Ends : List (Option (List ℕ))
  Ends = None ∷ ends_in cells

  abbrev Index : LevelMap
  Index = record { kind = Metadata; entries = entries_at OwnRows Ends }

  -- a record's previous row is told by a cell of its row
  cell_of : (end : Option (List ℕ)) (t : TabletRecord) → OwnRows end ≡ Some t → (cell : Cell) × Contains cells cell × (cell.key.row ≡ metadata_row metadata_id end)
  unfolding prev_key
  cell_of end t at = by (latest cells (prev_key end)) refl (ap is_some told ∙ (prev_there t).prev)
    where
      told : newest_at cells (prev_key end) ≡ column_at (columns_of t) (codes "~tab") (codes "~pr")
      told = (is.records metadata_id end refl (is.forms metadata_id end t at).name).each (codes "~tab") (codes "~pr") ∙ ap (λ o. column_at (record_columns o) (codes "~tab") (codes "~pr")) at

      by : (o : Option Cell) → latest cells (prev_key end) ≡ o → is_some (option_and_then (λ (c : Cell). c.value) o) ≡ true → (cell : Cell) × Contains cells cell × (cell.key.row ≡ metadata_row metadata_id end)
      by None e some = absurd (false≢true some)
      by (Some cell) e some = let last = latest-some cells (prev_key end) cell e in (cell, last.there, ap (λ (k : Key). k.row) last.at)

  supported : (end : Option (List ℕ)) (t : TabletRecord) → OwnRows end ≡ Some t → Contains Ends end
  unfolding end_in ends_in
  supported None t at = Contains-here None (ends_in cells)
  supported (Some end) t at =
      let one = cell_of (Some end) t at in
      Contains-there None (Some end) (ends_in cells) (subst (λ (row : List ℕ). Contains (ends_in cells) (Some (drop 3 row))) one.2 (end_there cells one.0 one.1))

  own : IsLevelMap Metadata (entries_at OwnRows Ends)
  own = record { own = λ row entry at. stands row entry (from_entries OwnRows Ends row entry at) }
    where
      stands : (row : List ℕ) (entry : LevelEntry) → IsTabletOf OwnRows row entry → StandsAt Metadata row entry
      stands row entry of =
          let at = is.forms metadata_id of.end of.tablet of.there in
          let table = sym at.table_is in
          let end = sym at.end_is in
          subst (StandsAt Metadata row) (sym of.is) (record {
            of = at.table_is;
            named = record {
              name = subst (λ id. IsTabletName id of.tablet.end) table (subst (IsTabletName metadata_id) end at.name);
              is = of.place ∙ (λ i. metadata_row (table i) (end i));
            };
            form = at.form;
          })

  to : (t : TabletRecord) → (level_of Index).records metadata_id t.end ≡ Some t → OwnRows t.end ≡ Some t
  to t at =
      let one = found Index own metadata_id t.end t at in
      let of = from_entries OwnRows Ends (metadata_row metadata_id t.end) (Tablet t) one.0 in
      ap OwnRows (one_end t.end of.end of.place) ∙ of.there ∙ ap tablet_in (sym of.is)

  back : (t : TabletRecord) → OwnRows t.end ≡ Some t → (level_of Index).records metadata_id t.end ≡ Some t
  back t at =
      ap (option_and_then (record_in metadata_id t.end)) (in_entries OwnRows Ends t.end t (supported t.end t at) at)
      ∙ ap (λ b. cond b (Some t) None) (named_test metadata_id t.end t (sym (is.forms metadata_id t.end t at).table_is) refl)

  -- they make up a list, in the order of their end rows
  pub records_of_cells : (records : List TabletRecord) × AreRecordsAt OwnRows records
  records_of_cells =
      let es = map.entries (entries_at OwnRows Ends) in
      let are = records_listed Index own es (ordered es (map.entries_sorted (entries_at OwnRows Ends))) (same_entries (entries_at OwnRows Ends)) metadata_id in (
        picked (record_of metadata_id) (entries_between path_cmp (first_of metadata_id) (last_of metadata_id) es),
        record { each = λ t. (λ has. to t ((are.each t).0 has), λ at. (are.each t).1 (back t at)); order = are.order },
      )
