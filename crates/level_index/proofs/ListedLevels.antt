-- The lists of a level, from the entries in their ranges of rows.
use Rattle.std.proofs.Common.{◌≡◌, ℕ, ◌&&◌, Bool, true, false, cond, not, codes, List, [], ◌∷◌, map as mapped, Contains, IsTrue, Option, Some, None, refl, sym, ◌∙◌, ap, subst}
use Rattle.std.specs.FinMap as map
use Rattle.std.specs.BTreeMap.Range.{entries_between, range_contains}
use Rattle.std.specs.List.Sorted.{IsStrictlySortedBy}
use Rattle.std.specs.Map.{keys_of}
use Rattle.std.specs.Option.{option_and_then}
use Rattle.std.specs.Ordering.{is_lt, is_le, is_gt}
use Rattle.std.specs.declared.ops.Bound.{Bound}
use Rattle.std.specs.declared.ops.Bound.TheVariants.{Included, Excluded, Unbounded}
use Rattle.std.proofs.lemmas.Bool.{and_from}
use Rattle.std.proofs.lemmas.Option.{none-some, same_Some}
use Rattle.row_keys.specs.MetadataRow.{metadata_row, end_cmp}
use Rattle.row_keys.specs.RowOrder.{bytes_cmp}
use Rattle.row_keys.proofs.MetadataRowsLemmas.{by_end_row}
use Rattle.metadata_schema.specs.declared.tablet.TabletRecord.{TabletRecord}
use Rattle.metadata_schema.specs.Bytes.{same, is_rising}
use Rattle.level_rows.proofs.EndLemmas.{same-true, same-itself}
use Rattle.node_store.specs.PathsTo.{path_cmp}
use Rattle.store_meaning.specs.Levels.{candidate_row, flag_row}
use Rattle.state_reader.specs.declared.level.LoadFlag.{LoadFlag}
use Rattle.state_reader.specs.LevelRows.{flag_of}
use Rattle.level_index.specs.declared.entry.LevelEntry.{LevelEntry}
use Rattle.level_index.specs.declared.entry.LevelEntry.TheVariants.{Tablet, Candidate, Flag}
use Rattle.level_index.specs.Entries.{LevelMap, level_of, record_in, is_candidate, flag_in, IsLevelMap}
use Rattle.level_index.specs.Lists.{AreRecordsOf, AreCandidatesOf, AreFlagsOf}
use Rattle.level_index.specs.Ranges.{record_of, candidate_of, flag_of as flag_in_entry}
use Rattle.level_index.proofs.EntryLemmas.{named_test}
use Rattle.level_index.proofs.LevelLemmas.{found, record_at, candidate_at, flag_at}
use Rattle.level_index.proofs.ListLemmas.{Listed, picked, from_picked, in_picked, rises, each_entry, between_there, there_between, between_order}

-- ---- what an entry gives

record_is : (table : List ℕ) (entry : LevelEntry) (t : TabletRecord) → record_of table entry ≡ Some t → (entry ≡ Tablet t) × (t.table ≡ table)
record_is table (Tablet u) t = by (same u.table table) refl
  where
    by : (b : Bool) → same u.table table ≡ b → cond b (Some u) None ≡ Some t → (Tablet u ≡ Tablet t) × (t.table ≡ table)
    by true e is = let u_is = same_Some u t is in (ap Tablet u_is, ap (λ (x : TabletRecord). x.table) (sym u_is) ∙ same-true u.table table e)
    by false e is = absurd (none-some t is)
record_is table (Candidate path) t = λ is. absurd (none-some t is)
record_is table (Flag flag) t = λ is. absurd (none-some t is)

candidate_is : (entry : LevelEntry) (path : List ℕ) → candidate_of entry ≡ Some path → entry ≡ Candidate path
candidate_is (Tablet t) path is = absurd (none-some path is)
candidate_is (Candidate other) path is = ap Candidate (same_Some other path is)
candidate_is (Flag flag) path is = absurd (none-some path is)

flag_is : (entry : LevelEntry) (flag : LoadFlag) → flag_in_entry entry ≡ Some flag → entry ≡ Flag flag
flag_is (Tablet t) flag is = absurd (none-some flag is)
flag_is (Candidate path) flag is = absurd (none-some flag is)
flag_is (Flag other) flag is = ap Flag (same_Some other flag is)

unchanged : (ps : List (List ℕ)) → mapped (λ p. p) ps ≡ ps
unchanged [] = refl
unchanged (p ∷ ps) = ap (λ l. p ∷ l) (unchanged ps)

-- ---- the ranges

nothing_first : (x : List ℕ) → is_le (bytes_cmp [] x) ≡ true
nothing_first [] = refl
nothing_first (b ∷ x) = refl

abbrev pub first_of : List ℕ → Bound (List ℕ)
first_of table = Included (metadata_row table (Some []))

abbrev pub last_of : List ℕ → Bound (List ℕ)
last_of table = Included (metadata_row table None)

tablet_inside : (table : List ℕ) (end : Option (List ℕ)) → range_contains path_cmp (first_of table) (last_of table) (metadata_row table end) ≡ true
tablet_inside table end = (λ i. is_le (by_end_row table (Some []) end i) && not (is_lt (by_end_row table None end i))) ∙ by end
  where
    by : (e : Option (List ℕ)) → (is_le (end_cmp (Some []) e) && not (is_lt (end_cmp None e))) ≡ true
    by None = refl
    by (Some x) = and_from (is_le (bytes_cmp [] x)) true (nothing_first x) refl

pub tablets_forward : (table : List ℕ) → is_gt (bytes_cmp (metadata_row table (Some [])) (metadata_row table None)) ≡ false
tablets_forward table = ap is_gt (by_end_row table (Some []) None)

candidate_inside : (path : List ℕ) → range_contains path_cmp (Included (codes "~del")) Unbounded (candidate_row path) ≡ true
candidate_inside path = and_from (is_le (bytes_cmp [] path)) true (nothing_first path) refl

flag_inside : (path : List ℕ) → range_contains path_cmp (Included (codes "~blip")) (Excluded (codes "~del")) (flag_row path) ≡ true
flag_inside path = and_from (is_le (bytes_cmp [] path)) true (nothing_first path) refl

module _ (index : LevelMap) (is : IsLevelMap index.kind index.entries) (es : Listed) (up : IsStrictlySortedBy path_cmp (keys_of es)) (made : map.from_entries es ≡ index.entries) where
  pub records_listed : (table : List ℕ) → AreRecordsOf (level_of index) table (picked (record_of table) (entries_between path_cmp (first_of table) (last_of table) es))
  records_listed table = record {
    each = λ t. (to t, back t);
    forms = λ end t at. (record_at index is table end t at).1;
    order = rises (record_of table) (λ (t : TabletRecord). t.end) end_cmp (λ (t : TabletRecord). metadata_row table t.end) (λ x y. sym (by_end_row table x.end y.end))
        (entries_between path_cmp (first_of table) (last_of table) es) (between_order es index.entries up made (first_of table) (last_of table))
        (each_entry _ _ (λ e there t at. (row e t (between_there es index.entries up made (first_of table) (last_of table) e there) at).0));
  }
    where
      row : (e : List ℕ × LevelEntry) (t : TabletRecord) → map.get index.entries e.0 ≡ Some e.1 → record_of table e.1 ≡ Some t → (e.0 ≡ metadata_row table t.end) × (map.get index.entries (metadata_row table t.end) ≡ Some (Tablet t)) × (t.table ≡ table)
      row e t there at =
          let one = record_is table e.1 t at in
          let entry = there ∙ ap Some one.0 in
          let own = is.own e.0 (Tablet t) entry in
          let place = own.named.is ∙ ap (λ x. metadata_row x t.end) one.1 in
          (place, ap (map.get index.entries) (sym place) ∙ entry, one.1)

      to : (t : TabletRecord) → Contains (picked (record_of table) (entries_between path_cmp (first_of table) (last_of table) es)) t → (level_of index).records table t.end ≡ Some t
      to t there =
          let from = from_picked (record_of table) (entries_between path_cmp (first_of table) (last_of table) es) t there in
          let at = row from.0 t (between_there es index.entries up made (first_of table) (last_of table) from.0 from.1) from.2 in
          ap (option_and_then (record_in table t.end)) at.1 ∙ ap (λ b. cond b (Some t) None) (named_test table t.end t (sym at.2) refl)

      back : (t : TabletRecord) → (level_of index).records table t.end ≡ Some t → Contains (picked (record_of table) (entries_between path_cmp (first_of table) (last_of table) es)) t
      back t at =
          let one = found index is table t.end t at in
          in_picked (record_of table) (entries_between path_cmp (first_of table) (last_of table) es) (metadata_row table t.end, Tablet t) t
          (there_between es index.entries up made (first_of table) (last_of table) (metadata_row table t.end) (Tablet t) one.0 (tablet_inside table t.end))
          (ap (λ b. cond b (Some t) None) (same-itself t.table table (sym one.1)))

  pub candidates_listed : AreCandidatesOf (level_of index) (picked candidate_of (entries_between path_cmp (Included (codes "~del")) Unbounded es))
  candidates_listed = record {
    each = λ path. (to path, back path);
    order = subst (λ (l : List (List ℕ)). IsTrue (is_rising bytes_cmp l)) (unchanged (picked candidate_of (entries_between path_cmp (Included (codes "~del")) Unbounded es))) (rises candidate_of (λ (p : List ℕ). p) bytes_cmp candidate_row (λ x y. refl)
        (entries_between path_cmp (Included (codes "~del")) Unbounded es) (between_order es index.entries up made (Included (codes "~del")) Unbounded)
        (each_entry _ _ (λ e there path at. (row e path (between_there es index.entries up made (Included (codes "~del")) Unbounded e there) at).0)));
  }
    where
      row : (e : List ℕ × LevelEntry) (path : List ℕ) → map.get index.entries e.0 ≡ Some e.1 → candidate_of e.1 ≡ Some path → (e.0 ≡ candidate_row path) × (map.get index.entries (candidate_row path) ≡ Some (Candidate path))
      row e path there at =
          let entry = there ∙ ap Some (candidate_is e.1 path at) in
          let place = (is.own e.0 (Candidate path) entry).place in
          (place, ap (map.get index.entries) (sym place) ∙ entry)

      to : (path : List ℕ) → Contains (picked candidate_of (entries_between path_cmp (Included (codes "~del")) Unbounded es)) path → (level_of index).is_candidate path ≡ true
      to path there =
          let from = from_picked candidate_of (entries_between path_cmp (Included (codes "~del")) Unbounded es) path there in
          ap is_candidate (row from.0 path (between_there es index.entries up made (Included (codes "~del")) Unbounded from.0 from.1) from.2).1

      back : (path : List ℕ) → (level_of index).is_candidate path ≡ true → Contains (picked candidate_of (entries_between path_cmp (Included (codes "~del")) Unbounded es)) path
      back path at =
          in_picked candidate_of (entries_between path_cmp (Included (codes "~del")) Unbounded es) (candidate_row path, Candidate path) path
          (there_between es index.entries up made (Included (codes "~del")) Unbounded (candidate_row path) (Candidate path) (candidate_at index is path at).0 (candidate_inside path)) refl

  pub flags_listed : AreFlagsOf (level_of index) (picked flag_in_entry (entries_between path_cmp (Included (codes "~blip")) (Excluded (codes "~del")) es))
  flags_listed = record {
    each = λ flag. (to flag, back flag);
    order = rises flag_in_entry (λ (f : LoadFlag). f.path) bytes_cmp (λ (f : LoadFlag). flag_row f.path) (λ x y. refl)
        (entries_between path_cmp (Included (codes "~blip")) (Excluded (codes "~del")) es) (between_order es index.entries up made (Included (codes "~blip")) (Excluded (codes "~del")))
        (each_entry _ _ (λ e there flag at. (row e flag (between_there es index.entries up made (Included (codes "~blip")) (Excluded (codes "~del")) e there) at).0));
  }
    where
      row : (e : List ℕ × LevelEntry) (flag : LoadFlag) → map.get index.entries e.0 ≡ Some e.1 → flag_in_entry e.1 ≡ Some flag → (e.0 ≡ flag_row flag.path) × (map.get index.entries (flag_row flag.path) ≡ Some (Flag flag))
      row e flag there at =
          let entry = there ∙ ap Some (flag_is e.1 flag at) in
          let place = (is.own e.0 (Flag flag) entry).place in
          (place, ap (map.get index.entries) (sym place) ∙ entry)

      to : (flag : LoadFlag) → Contains (picked flag_in_entry (entries_between path_cmp (Included (codes "~blip")) (Excluded (codes "~del")) es)) flag → (level_of index).flag flag.path ≡ Some (flag_of flag)
      to flag there =
          let from = from_picked flag_in_entry (entries_between path_cmp (Included (codes "~blip")) (Excluded (codes "~del")) es) flag there in
          ap (option_and_then flag_in) (row from.0 flag (between_there es index.entries up made (Included (codes "~blip")) (Excluded (codes "~del")) from.0 from.1) from.2).1

      back : (flag : LoadFlag) → (level_of index).flag flag.path ≡ Some (flag_of flag) → Contains (picked flag_in_entry (entries_between path_cmp (Included (codes "~blip")) (Excluded (codes "~del")) es)) flag
      back flag at =
          in_picked flag_in_entry (entries_between path_cmp (Included (codes "~blip")) (Excluded (codes "~del")) es) (flag_row flag.path, Flag flag) flag
          (there_between es index.entries up made (Included (codes "~blip")) (Excluded (codes "~del")) (flag_row flag.path) (Flag flag) (flag_at index is flag.path (flag_of flag) at).0 (flag_inside flag.path)) refl
