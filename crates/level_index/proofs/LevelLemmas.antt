-- A level by its entries: once a row is written, and as its cells tell it.
use Rattle.std.proofs.Common.{◌≡◌, ◌≢◌, ℕ, ◌&&◌, Bool, true, false, cond, List, Option, Some, None, IfSome, refl, sym, ◌∙◌, ap, subst}
use Rattle.std.specs.FinMap as map
use Rattle.std.specs.Option.{option_and_then, option_map}
use Rattle.std.specs.Ordering.{eq_by_cmp}
use Rattle.std.specs.Cmp.{eq_by_cmp_equiv}
use Rattle.std.specs.Cmp.Lexicographic.{nat_list_cmp_total}
use Rattle.std.proofs.lemmas.Bool.{false≢true}
use Rattle.std.proofs.lemmas.Option.{same_Some, none-some}
use Rattle.std.proofs.lemmas.Map.Lookups.{exact_bytes}
use Rattle.std.proofs.lemmas.Map.Views.{tells_apart}
use Rattle.row_keys.specs.MetadataRow.{metadata_row, IsTabletName}
use Rattle.row_keys.proofs.MetadataRowsLemmas.{one_to_one}
use Rattle.metadata_schema.specs.declared.tablet.TabletRecord.{TabletRecord}
use Rattle.metadata_schema.specs.Bytes.{same}
use Rattle.metadata_schema.specs.Paths.{IsFilePath}
use Rattle.cell_merge.specs.declared.cell.Cell.{Cell}
use Rattle.cell_merge.specs.declared.cell.Pair.{Pair}
use Rattle.cell_merge.specs.Newest.{IsNewest}
use Rattle.level_rows.specs.Chain.{same_end}
use Rattle.level_rows.proofs.EndLemmas.{same-true, same-itself}
use Rattle.node_store.specs.PathsTo.{path_cmp, with_entry}
use Rattle.node_store.proofs.PathMaps.{get-with_entry}
use Rattle.store_meaning.specs.Levels.{Flag as LoadedFlag, SpellsRow, IsRecordAt, IsFlagAt, IsLevelOf, candidate_row, flag_row}
use Rattle.store_meaning.specs.RowWrites.{LevelRow, RecordRow, CandidateRow, FlagRow, MayStand, place_of, columns_in, with_level_row}
use Rattle.state_reader.specs.declared.level.LevelKind.{LevelKind}
use Rattle.state_reader.specs.LevelRows.{IsOfKind, flag_of}
use Rattle.state_reader.proofs.ColumnLemmas.{none_in}
use Rattle.level_index.specs.declared.entry.LevelEntry.{LevelEntry}
use Rattle.level_index.specs.declared.entry.LevelEntry.TheVariants.{Tablet, Candidate, Flag}
use Rattle.level_index.specs.Entries.{LevelMap, level_of, record_in, is_candidate, flag_in, IsLevelMap, columns_at, entry_of}
use Rattle.level_index.specs.Value.{with_row}
use Rattle.level_index.specs.RowReads.{IsReadTo}
use Rattle.level_index.proofs.RowsApart.{tablet_no_candidate, tablet_no_flag, candidate_no_flag, same_candidate, same_flag}
use Rattle.level_index.proofs.EntryLemmas.{named_parts, stands_in}

-- the same bytes, or not
same_row : (q k : List ℕ) → eq_by_cmp path_cmp q k ≡ true → q ≡ k
same_row q k e = tells_apart exact_bytes q k e

row_itself : (q k : List ℕ) → q ≡ k → eq_by_cmp path_cmp q k ≡ true
row_itself q k is = ap (eq_by_cmp path_cmp q) (sym is) ∙ (eq_by_cmp_equiv nat_list_cmp_total).refl q

-- ---- one row written

module _ (index : LevelMap) (is : IsLevelMap index.kind index.entries) where
  -- where the rows differ, the look-up is as before
  elsewhere : {X : Type 0} (f : Option LevelEntry → X) (row : List ℕ) (w : Option LevelEntry) (q : List ℕ) → q ≢ row → f (map.get (with_entry index.entries row w) q) ≡ f (map.get index.entries q)
  elsewhere f row w q apart = ap f (get-with_entry index.entries row w q) ∙ by (eq_by_cmp path_cmp q row) refl
    where
      by : (b : Bool) → eq_by_cmp path_cmp q row ≡ b → f (cond b w (map.get index.entries q)) ≡ f (map.get index.entries q)
      by true e = absurd (apart (same_row q row e))
      by false e = refl

  -- where they are the same, what was written is found
  here : {X : Type 0} (f : Option LevelEntry → X) (row : List ℕ) (w : Option LevelEntry) (q : List ℕ) → q ≡ row → f (map.get (with_entry index.entries row w) q) ≡ f w
  here f row w q at = ap f (get-with_entry index.entries row w q) ∙ ap (λ b. f (cond b w (map.get index.entries q))) (row_itself q row at)

  -- a tablet's row has no record of another name
  no_other : (table : List ℕ) (end : Option (List ℕ)) (other : List ℕ) (high : Option (List ℕ)) → IsTabletName table end → metadata_row other high ≡ metadata_row table end → (same other table && same_end high end) ≡ false
      → option_and_then (record_in other high) (map.get index.entries (metadata_row other high)) ≡ None
  no_other table end other high name at not = by (map.get index.entries (metadata_row other high)) refl
    where
      by : (o : Option LevelEntry) → map.get index.entries (metadata_row other high) ≡ o → option_and_then (record_in other high) o ≡ None
      by None e = refl
      by (Some (Tablet t)) e =
          let own = is.own (metadata_row other high) (Tablet t) e in
          let names = one_to_one t.table table t.end end own.named.name name (sym own.named.is ∙ at) in
          (λ i. cond (same other (names.0 i) && same_end high (names.1 i)) (Some t) None) ∙ ap (λ b. cond b (Some t) None) not
      by (Some (Candidate path)) e = refl
      by (Some (Flag flag)) e = refl

  -- a marked row has no record
  no_record : (row : List ℕ) (other : List ℕ) (high : Option (List ℕ)) → metadata_row other high ≡ row → ((table : List ℕ) (end : Option (List ℕ)) → IsTabletName table end → metadata_row table end ≡ row → ⊥)
      → option_and_then (record_in other high) (map.get index.entries (metadata_row other high)) ≡ None
  no_record row other high at apart = by (map.get index.entries (metadata_row other high)) refl
    where
      by : (o : Option LevelEntry) → map.get index.entries (metadata_row other high) ≡ o → option_and_then (record_in other high) o ≡ None
      by None e = refl
      by (Some (Tablet t)) e = absurd (let own = is.own (metadata_row other high) (Tablet t) e in apart t.table t.end own.named.name (sym own.named.is ∙ at))
      by (Some (Candidate path)) e = refl
      by (Some (Flag flag)) e = refl

  abbrev Record : List ℕ → Option (List ℕ) → Option LevelEntry → Option TabletRecord
  Record table end o = option_and_then (record_in table end) o

  records_with : (table : List ℕ) (end : Option (List ℕ)) (tablet : Option TabletRecord) → MayStand (IsOfKind index.kind) (RecordRow table end tablet) → (other : List ℕ) (high : Option (List ℕ))
      → Record other high (map.get (with_entry index.entries (metadata_row table end) (option_map Tablet tablet)) (metadata_row other high))
      ≡ cond (same other table && same_end high end) tablet (Record other high (map.get index.entries (metadata_row other high)))
  records_with table end tablet form other high = by (same other table && same_end high end) refl (eq_by_cmp path_cmp (metadata_row other high) (metadata_row table end)) refl
    where
      written : (c : Bool) → (same other table && same_end high end) ≡ c → (o : Option TabletRecord) → IfSome o (IsRecordAt table end) → Record other high (option_map Tablet o) ≡ cond c o None
      written true e None at = refl
      written false e None at = refl
      written true e (Some t) at = (λ i. cond (same other (at.table_is i) && same_end high (at.end_is i)) (Some t) None) ∙ ap (λ b. cond b (Some t) None) e
      written false e (Some t) at = (λ i. cond (same other (at.table_is i) && same_end high (at.end_is i)) (Some t) None) ∙ ap (λ b. cond b (Some t) None) e

      by : (c : Bool) → (same other table && same_end high end) ≡ c → (b : Bool) → eq_by_cmp path_cmp (metadata_row other high) (metadata_row table end) ≡ b
          → Record other high (map.get (with_entry index.entries (metadata_row table end) (option_map Tablet tablet)) (metadata_row other high))
          ≡ cond c tablet (Record other high (map.get index.entries (metadata_row other high)))
      by true e b at =
          let names = named_parts other high table end e in
          here (Record other high) (metadata_row table end) (option_map Tablet tablet) (metadata_row other high) (λ i. metadata_row (names.0 i) (names.1 i)) ∙ written true e tablet form.2
      by false e true at =
          let rows = same_row (metadata_row other high) (metadata_row table end) at in
          here (Record other high) (metadata_row table end) (option_map Tablet tablet) (metadata_row other high) rows ∙ written false e tablet form.2 ∙ sym (no_other table end other high form.1 rows e)
      by false e false at =
          elsewhere (Record other high) (metadata_row table end) (option_map Tablet tablet) (metadata_row other high) (λ rows. false≢true (sym at ∙ row_itself (metadata_row other high) (metadata_row table end) rows))

  -- a marked row leaves the records as they were
  records_kept : (row : List ℕ) (w : Option LevelEntry) → ((table : List ℕ) (end : Option (List ℕ)) → IsTabletName table end → metadata_row table end ≡ row → ⊥) → ((table : List ℕ) (end : Option (List ℕ)) → Record table end w ≡ None)
      → (other : List ℕ) (high : Option (List ℕ)) → Record other high (map.get (with_entry index.entries row w) (metadata_row other high)) ≡ Record other high (map.get index.entries (metadata_row other high))
  records_kept row w apart none other high = by (eq_by_cmp path_cmp (metadata_row other high) row) refl
    where
      by : (b : Bool) → eq_by_cmp path_cmp (metadata_row other high) row ≡ b → Record other high (map.get (with_entry index.entries row w) (metadata_row other high)) ≡ Record other high (map.get index.entries (metadata_row other high))
      by true at =
          let rows = same_row (metadata_row other high) row at in
          here (Record other high) row w (metadata_row other high) rows ∙ none other high ∙ sym (no_record row other high rows apart)
      by false at = elsewhere (Record other high) row w (metadata_row other high) (λ rows. false≢true (sym at ∙ row_itself (metadata_row other high) row rows))

  candidate_entry : (path : List ℕ) (b : Bool) → is_candidate (cond b (Some (Candidate path)) None) ≡ b
  candidate_entry path true = refl
  candidate_entry path false = refl

  candidate_record : (path : List ℕ) (b : Bool) (table : List ℕ) (end : Option (List ℕ)) → Record table end (cond b (Some (Candidate path)) None) ≡ None
  candidate_record path true table end = refl
  candidate_record path false table end = refl

  candidates_with : (path : List ℕ) (is_there : Bool) (other : List ℕ)
      → is_candidate (map.get (with_entry index.entries (candidate_row path) (cond is_there (Some (Candidate path)) None)) (candidate_row other)) ≡ cond (same other path) is_there (is_candidate (map.get index.entries (candidate_row other)))
  candidates_with path is_there other = by (same other path) refl
    where
      by : (b : Bool) → same other path ≡ b → is_candidate (map.get (with_entry index.entries (candidate_row path) (cond is_there (Some (Candidate path)) None)) (candidate_row other)) ≡ cond b is_there (is_candidate (map.get index.entries (candidate_row other)))
      by true e = here is_candidate (candidate_row path) (cond is_there (Some (Candidate path)) None) (candidate_row other) (ap candidate_row (same-true other path e)) ∙ candidate_entry path is_there
      by false e = elsewhere is_candidate (candidate_row path) (cond is_there (Some (Candidate path)) None) (candidate_row other) (λ rows. false≢true (sym e ∙ same-itself other path (same_candidate other path rows)))

  abbrev flag_entry : List ℕ → Option LoadedFlag → Option LevelEntry
  flag_entry path flag = option_map (λ loaded. Flag (record { path = path; tid = loaded.tid; number = loaded.number })) flag

  flag_back : (path : List ℕ) (flag : Option LoadedFlag) → option_and_then flag_in (flag_entry path flag) ≡ flag
  flag_back path None = refl
  flag_back path (Some flag) = refl

  flag_record : (path : List ℕ) (flag : Option LoadedFlag) (table : List ℕ) (end : Option (List ℕ)) → Record table end (flag_entry path flag) ≡ None
  flag_record path None table end = refl
  flag_record path (Some flag) table end = refl

  flags_with : (path : List ℕ) (flag : Option LoadedFlag) (other : List ℕ)
      → option_and_then flag_in (map.get (with_entry index.entries (flag_row path) (flag_entry path flag)) (flag_row other)) ≡ cond (same other path) flag (option_and_then flag_in (map.get index.entries (flag_row other)))
  flags_with path flag other = by (same other path) refl
    where
      by : (b : Bool) → same other path ≡ b → option_and_then flag_in (map.get (with_entry index.entries (flag_row path) (flag_entry path flag)) (flag_row other)) ≡ cond b flag (option_and_then flag_in (map.get index.entries (flag_row other)))
      by true e = here (option_and_then flag_in) (flag_row path) (flag_entry path flag) (flag_row other) (ap flag_row (same-true other path e)) ∙ flag_back path flag
      by false e = elsewhere (option_and_then flag_in) (flag_row path) (flag_entry path flag) (flag_row other) (λ rows. false≢true (sym e ∙ same-itself other path (same_flag other path rows)))

  -- the entry of a row, put at its place, makes the level with that row
  pub level_with : (to : LevelRow) → MayStand (IsOfKind index.kind) to → level_of (with_row index (place_of to) (entry_of to)) ≡ with_level_row (level_of index) to
  level_with (RecordRow table end tablet) form = λ i. record {
    records = λ other high. records_with table end tablet form other high i;
    is_candidate = λ path. elsewhere is_candidate (metadata_row table end) (option_map Tablet tablet) (candidate_row path) (λ at. tablet_no_candidate table end path form.1 (sym at)) i;
    flag = λ path. elsewhere (option_and_then flag_in) (metadata_row table end) (option_map Tablet tablet) (flag_row path) (λ at. tablet_no_flag table end path form.1 (sym at)) i;
  }
  level_with (CandidateRow path is_there) form = λ i. record {
    records = λ other high. records_kept (candidate_row path) (cond is_there (Some (Candidate path)) None) (λ table end name at. tablet_no_candidate table end path name at) (candidate_record path is_there) other high i;
    is_candidate = λ other. candidates_with path is_there other i;
    flag = λ other. elsewhere (option_and_then flag_in) (candidate_row path) (cond is_there (Some (Candidate path)) None) (flag_row other) (λ at. candidate_no_flag path other (sym at)) i;
  }
  level_with (FlagRow path flag) form = λ i. record {
    records = λ other high. records_kept (flag_row path) (flag_entry path flag) (λ table end name at. tablet_no_flag table end path name at) (flag_record path flag) other high i;
    is_candidate = λ other. elsewhere is_candidate (flag_row path) (flag_entry path flag) (candidate_row other) (λ at. candidate_no_flag other path at) i;
    flag = λ other. flags_with path flag other i;
  }

  -- ---- as its cells tell it

  -- the record of a table and an end row stands at their row
  pub found : (table : List ℕ) (end : Option (List ℕ)) (tablet : TabletRecord) → (level_of index).records table end ≡ Some tablet → (map.get index.entries (metadata_row table end) ≡ Some (Tablet tablet)) × (table ≡ tablet.table) × (end ≡ tablet.end)
  found table end tablet = by (map.get index.entries (metadata_row table end)) refl
    where
      at : (t : TabletRecord) (c : Bool) → (same table t.table && same_end end t.end) ≡ c → cond c (Some t) None ≡ Some tablet → (t ≡ tablet) × (table ≡ t.table) × (end ≡ t.end)
      at t true e is = let names = named_parts table end t.table t.end e in (same_Some t tablet is, names.0, names.1)
      at t false e is = absurd (none-some tablet is)

      by : (o : Option LevelEntry) → map.get index.entries (metadata_row table end) ≡ o → Record table end o ≡ Some tablet → (map.get index.entries (metadata_row table end) ≡ Some (Tablet tablet)) × (table ≡ tablet.table) × (end ≡ tablet.end)
      by None e r = absurd (none-some tablet r)
      by (Some (Tablet t)) e r =
          let one = at t (same table t.table && same_end end t.end) refl r in
          (e ∙ ap (λ x. Some (Tablet x)) one.0, one.1 ∙ ap (λ (x : TabletRecord). x.table) one.0, one.2 ∙ ap (λ (x : TabletRecord). x.end) one.0)
      by (Some (Candidate path)) e r = absurd (none-some tablet r)
      by (Some (Flag flag)) e r = absurd (none-some tablet r)

  pub record_at : (table : List ℕ) (end : Option (List ℕ)) (tablet : TabletRecord) → (level_of index).records table end ≡ Some tablet → IsOfKind index.kind table × IsRecordAt table end tablet
  record_at table end tablet r =
      let one = found table end tablet r in
      let own = is.own (metadata_row table end) (Tablet tablet) one.0 in (
        subst (IsOfKind index.kind) (sym one.1) own.of,
        record { name = subst (λ t. IsTabletName t end) (sym one.1) (subst (IsTabletName tablet.table) (sym one.2) own.named.name); table_is = sym one.1; end_is = sym one.2; form = own.form },
      )

  pub candidate_at : (path : List ℕ) → (level_of index).is_candidate path ≡ true → (map.get index.entries (candidate_row path) ≡ Some (Candidate path)) × IsFilePath path
  candidate_at path = by (map.get index.entries (candidate_row path)) refl
    where
      by : (o : Option LevelEntry) → map.get index.entries (candidate_row path) ≡ o → is_candidate o ≡ true → (map.get index.entries (candidate_row path) ≡ Some (Candidate path)) × IsFilePath path
      by None e r = absurd (false≢true r)
      by (Some (Tablet t)) e r = absurd (false≢true r)
      by (Some (Candidate other)) e r =
          let own = is.own (candidate_row path) (Candidate other) e in
          let paths = same_candidate path other own.place in
          (e ∙ ap (λ p. Some (Candidate p)) (sym paths), subst IsFilePath (sym paths) own.form)
      by (Some (Flag flag)) e r = absurd (false≢true r)

  pub flag_at : (path : List ℕ) (flag : LoadedFlag) → (level_of index).flag path ≡ Some flag
      → (map.get index.entries (flag_row path) ≡ Some (Flag (record { path = path; tid = flag.tid; number = flag.number }))) × IsFlagAt path flag
  flag_at path flag = by (map.get index.entries (flag_row path)) refl
    where
      by : (o : Option LevelEntry) → map.get index.entries (flag_row path) ≡ o → option_and_then flag_in o ≡ Some flag
          → (map.get index.entries (flag_row path) ≡ Some (Flag (record { path = path; tid = flag.tid; number = flag.number }))) × IsFlagAt path flag
      by None e r = absurd (none-some flag r)
      by (Some (Tablet t)) e r = absurd (none-some flag r)
      by (Some (Candidate other)) e r = absurd (none-some flag r)
      by (Some (Flag other)) e r =
          let own = is.own (flag_row path) (Flag other) e in
          let paths = same_flag path other.path own.place in
          let flags : flag_of other ≡ flag = same_Some (flag_of other) flag r in
          (e ∙ (λ i. Some (Flag (record { path = sym paths i; tid = (flags i).tid; number = (flags i).number }))), subst (λ p. IsFlagAt p flag) (sym paths) (subst (IsFlagAt other.path) flags own.form))

  module _ (cells : List Cell) (pairs : List Pair) (newest : IsNewest cells pairs) (read : IsReadTo index.kind cells pairs index.entries) where
    spelled : (to : LevelRow) → MayStand (IsOfKind index.kind) to → SpellsRow cells (place_of to) (columns_in (level_of index) to)
    spelled to form = subst (SpellsRow cells (place_of to)) (sym (stands_in index is to form)) (by (map.get index.entries (place_of to)) refl)
      where
        by : (o : Option LevelEntry) → map.get index.entries (place_of to) ≡ o → SpellsRow cells (place_of to) (columns_at o)
        by None e = none_in cells pairs newest (place_of to) (λ has. read.none (place_of to) e has (record { to = to; place = refl; may = form }))
        by (Some entry) e = read.told (place_of to) entry e

    pub level_read : IsLevelOf (IsOfKind index.kind) cells (level_of index)
    level_read = record {
      records = λ table end of name. spelled (RecordRow table end None) (of, name, tt);
      own_tables = λ table end tablet r. (record_at table end tablet r).0;
      forms = λ table end tablet r. (record_at table end tablet r).1;
      candidates = λ path. spelled (CandidateRow path false) (λ (e : false ≡ true). cc);
      candidate_paths = λ path r. (candidate_at path r).1;
      flags = λ path. spelled (FlagRow path None) tt;
      flag_forms = λ path flag r. (flag_at path flag r).1;
    }

-- entries that are read stand at their own rows
pub own_read : (kind : LevelKind) (cells : List Cell) (pairs : List Pair) (index : LevelMap) → IsReadTo kind cells pairs index.entries → IsLevelMap kind index.entries
own_read kind cells pairs index read = record { own = read.stands }
