-- Updates make one row at most, and updates that lead to a row make it.
use Rattle.std.proofs.Common.{◌≡◌, ℕ, Bool, true, false, List, [], ◌∷◌, ◌++◌, codes, Option, Some, None, IfSome, IsTrue, refl, sym, ◌∙◌, ap, subst}
use Rattle.std.specs.Prelude.{is_some}
use Rattle.std.specs.Fmt.{decimal}
use Rattle.std.specs.Option.{option_map_or}
use Rattle.std.proofs.lemmas.Bool.{false≢true}
use Rattle.std.proofs.lemmas.Fmt.{decimal_injective}
use Rattle.std.proofs.lemmas.Option.{none-some, same_Some}
use Rattle.row_keys.proofs.MetadataRowsLemmas.{one_to_one}
use Rattle.metadata_schema.specs.declared.mutation.Update.{Update}
use Rattle.metadata_schema.specs.declared.tablet.TabletRecord.{TabletRecord}
use Rattle.metadata_schema.specs.Between.{LeadsBetween, column_after}
use Rattle.metadata_schema.specs.Bytes.{is_rising}
use Rattle.metadata_schema.specs.Columns.{update_cmp, update_at, column_at, columns_of}
use Rattle.metadata_schema.proofs.AcceptedLemmas.{prev_there}
use Rattle.metadata_schema.proofs.LawsLemmas.{lead_to, parted_once}
use Rattle.metadata_schema.proofs.OneToOne.{same_columns}
use Rattle.metadata_schema.proofs.SameColumns.{decimal_free}
use Rattle.cell_merge.specs.declared.cell.Cell.{Cell}
use Rattle.cell_merge.specs.Changes.{AreConsistent, Gains}
use Rattle.store_meaning.specs.Content.{cells_of_mutation}
use Rattle.store_meaning.specs.Levels.{Level, Flag, IsRecordAt, IsFlagAt, IsLevelOf, record_columns, candidate_columns, flag_columns}
use Rattle.store_meaning.specs.RowWrites.{LevelRow, RecordRow, CandidateRow, FlagRow, RowWrite, LeadsRow, columns_in, columns_to, with_level_row}
use Rattle.store_meaning.proofs.LevelLemmas.{level_led}
use Rattle.state_reader.specs.declared.level.LevelKind.{LevelKind}
use Rattle.state_reader.specs.LevelRows.{IsOfKind}
use Rattle.level_index.specs.Entries.{LevelMap, level_of}
use Rattle.level_index.specs.Value.{PreparedLevel}
use Rattle.level_index.specs.Writes.{MakesRow, HaveNoIdle, Prepares}
use Rattle.level_index.proofs.RowsApart.{tablet_no_candidate, tablet_no_flag, candidate_no_flag, same_candidate, same_flag}

-- ---- the same columns are those of one row

abbrev Alike : List Update → List Update → Type 0
Alike one other = (family qualifier : List ℕ) → column_at one family qualifier ≡ column_at other family qualifier

no_columns : (tablet : TabletRecord) → Alike [] (columns_of tablet) → ⊥
no_columns tablet alike = false≢true (ap is_some (alike (codes "~tab") (codes "~pr")) ∙ (prev_there tablet).prev)

same_records : (table : List ℕ) (end : Option (List ℕ)) (one other : Option TabletRecord) → IfSome one (IsRecordAt table end) → IfSome other (IsRecordAt table end) → Alike (record_columns one) (record_columns other) → one ≡ other
same_records table end None None a b alike = refl
same_records table end None (Some t) a b alike = absurd (no_columns t alike)
same_records table end (Some t) None a b alike = absurd (no_columns t (λ f q. sym (alike f q)))
same_records table end (Some t) (Some u) a b alike = ap Some (same_columns t u (a.table_is ∙ sym b.table_is) (a.end_is ∙ sym b.end_is) a.form b.form alike)

same_there : (one other : Bool) → Alike (candidate_columns one) (candidate_columns other) → one ≡ other
same_there true true alike = refl
same_there true false alike = absurd (none-some [] (sym (alike [] [])))
same_there false true alike = absurd (none-some [] (alike [] []))
same_there false false alike = refl

same_flags : (path : List ℕ) (one other : Option Flag) → IfSome one (IsFlagAt path) → IfSome other (IsFlagAt path) → Alike (flag_columns one) (flag_columns other) → one ≡ other
same_flags path None None a b alike = refl
same_flags path None (Some f) a b alike = absurd (none-some _ (alike [] []))
same_flags path (Some f) None a b alike = absurd (none-some _ (sym (alike [] [])))
same_flags path (Some f) (Some g) a b alike =
    let texts : decimal f.tid ++ 44 ∷ decimal f.number ≡ decimal g.tid ++ 44 ∷ decimal g.number = same_Some _ _ (alike [] []) in
    let cut = parted_once 44 (decimal f.tid) (decimal g.tid) (decimal f.number) (decimal g.number) (decimal_free f.tid a.tid) (decimal_free g.tid b.tid) texts in
    let tids : f.tid ≡ g.tid = decimal_injective f.tid g.tid a.tid b.tid cut.0 in
    let numbers : f.number ≡ g.number = decimal_injective f.number g.number a.number b.number cut.1 in
    λ i. Some (record { tid = tids i; number = numbers i })

module _ (kind : LevelKind) (level : Level) (row : List ℕ) (updates : List Update) where
  pub made_once : (one other : LevelRow) → MakesRow (IsOfKind kind) level row updates one → MakesRow (IsOfKind kind) level row updates other → one ≡ other
  made_once (RecordRow table end tablet) (RecordRow t e u) a b =
      let names = one_to_one table t end e a.form.1 b.form.1 (sym a.place ∙ b.place) in
      let at : IfSome u (IsRecordAt table end) = subst (λ x. IfSome u (IsRecordAt x end)) (sym names.0) (subst (λ x. IfSome u (IsRecordAt t x)) (sym names.1) b.form.2) in
      let was : level.records table end ≡ level.records t e = λ i. level.records (names.0 i) (names.1 i) in
      let tablets = same_records table end tablet u a.form.2 at (λ f q. sym (a.gives f q) ∙ ap (λ o. column_after updates (record_columns o) f q) was ∙ b.gives f q) in
      λ i. RecordRow (names.0 i) (names.1 i) (tablets i)
  made_once (RecordRow table end tablet) (CandidateRow path is_there) a b = absurd (tablet_no_candidate table end path a.form.1 (sym a.place ∙ b.place))
  made_once (RecordRow table end tablet) (FlagRow path flag) a b = absurd (tablet_no_flag table end path a.form.1 (sym a.place ∙ b.place))
  made_once (CandidateRow path is_there) (RecordRow table end tablet) a b = absurd (tablet_no_candidate table end path b.form.1 (sym b.place ∙ a.place))
  made_once (CandidateRow path is_there) (CandidateRow other there) a b =
      let paths = same_candidate path other (sym a.place ∙ b.place) in
      let same = same_there is_there there (λ f q. sym (a.gives f q) ∙ ap (λ p. column_after updates (candidate_columns (level.is_candidate p)) f q) paths ∙ b.gives f q) in
      λ i. CandidateRow (paths i) (same i)
  made_once (CandidateRow path is_there) (FlagRow other flag) a b = absurd (candidate_no_flag path other (sym a.place ∙ b.place))
  made_once (FlagRow path flag) (RecordRow table end tablet) a b = absurd (tablet_no_flag table end path b.form.1 (sym b.place ∙ a.place))
  made_once (FlagRow path flag) (CandidateRow other is_there) a b = absurd (candidate_no_flag other path (sym b.place ∙ a.place))
  made_once (FlagRow path flag) (FlagRow other loaded) a b =
      let paths = same_flag path other (sym a.place ∙ b.place) in
      let at : IfSome loaded (IsFlagAt path) = subst (λ p. IfSome loaded (IsFlagAt p)) (sym paths) b.form in
      let same = same_flags path flag loaded a.form at (λ f q. sym (a.gives f q) ∙ ap (λ p. column_after updates (flag_columns (level.flag p)) f q) paths ∙ b.gives f q) in
      λ i. FlagRow (paths i) (same i)

-- ---- updates that lead to a row

pub leads_make : (kind : LevelKind) (level : Level) (write : RowWrite) → LeadsRow (IsOfKind kind) level write → MakesRow (IsOfKind kind) level write.mutation.row write.mutation.updates write.row
leads_make kind level write leads = record { place = leads.place; gives = lead_to (columns_in level write.row) (columns_to write.row) write.mutation.updates leads.updates; form = leads.form }

-- updates that make the row, in order and none of them idle, lead to it
pub make_leads : (kind : LevelKind) (level : Level) (row : List ℕ) (updates : List Update) (to : LevelRow) → MakesRow (IsOfKind kind) level row updates to → IsTrue (is_rising update_cmp updates) → HaveNoIdle updates (columns_in level to)
    → LeadsBetween (columns_in level to) (columns_to to) updates
make_leads kind level row updates to makes order busy = record {
  order = order;
  kept = λ f q same. kept f q (update_at updates f q) refl (makes.gives f q) same;
  changed = λ f q other. changed f q (update_at updates f q) refl (makes.gives f q) other;
}
  where
    kept : (f q : List ℕ) (o : Option (Option (List ℕ))) → update_at updates f q ≡ o → option_map_or (λ value. value) o (column_at (columns_in level to) f q) ≡ column_at (columns_to to) f q
        → column_at (columns_in level to) f q ≡ column_at (columns_to to) f q → o ≡ None
    kept f q None e gives same = refl
    kept f q (Some value) e gives same = absurd (busy.changes f q value e (gives ∙ sym same))

    changed : (f q : List ℕ) (o : Option (Option (List ℕ))) → update_at updates f q ≡ o → option_map_or (λ value. value) o (column_at (columns_in level to) f q) ≡ column_at (columns_to to) f q
        → (column_at (columns_in level to) f q ≡ column_at (columns_to to) f q → ⊥) → o ≡ Some (column_at (columns_to to) f q)
    changed f q None e gives other = absurd (other gives)
    changed f q (Some value) e gives other = ap Some gives

module _ (index : LevelMap) (write : RowWrite) (prepared : PreparedLevel) (leads : LeadsRow (IsOfKind index.kind) (level_of index) write) (prepares : Prepares index write.mutation.row write.mutation.updates prepared) where
  pub row_written : level_of prepared.after ≡ with_level_row (level_of index) write.row
  row_written =
      prepares.level
      ∙ ap (with_level_row (level_of index)) (made_once index.kind (level_of index) write.mutation.row write.mutation.updates prepares.to write.row prepares.makes (leads_make index.kind (level_of index) write leads))

  pub cells_written : (old new : List Cell) → IsLevelOf (IsOfKind index.kind) old (level_of index) → AreConsistent old → Gains (cells_of_mutation write.mutation) old new → IsLevelOf (IsOfKind prepared.after.kind) new (level_of prepared.after)
  cells_written old new is was gains =
      subst (λ k. IsLevelOf (IsOfKind k) new (level_of prepared.after)) (sym prepares.kind)
      (subst (IsLevelOf (IsOfKind index.kind) new) (sym row_written)
      (level_led (IsOfKind index.kind) (level_of index) old new write.mutation was gains is write.row leads.place leads.updates leads.form))
