-- Records, candidates and flags, one row after another.
use Rattle.std.proofs.Common.{◌≡◌, inl, inr, ℕ, List, [], ◌∷◌, ◌++◌, drop, Contains, Option, refl, sym, ◌∙◌, ap, subst}
use Rattle.std.proofs.lemmas.List.Elements.{Contains-append_left, Contains-append_right, Contains-append_cases}
use Rattle.row_keys.specs.MetadataRow.{IsMetadataRow}
use Rattle.row_keys.proofs.MetadataRowsLemmas.{one_to_one}
use Rattle.metadata_schema.specs.declared.mutation.Update.{Update}
use Rattle.metadata_schema.specs.declared.tablet.TabletRecord.{TabletRecord}
use Rattle.metadata_schema.specs.Records.{IsRecordOf}
use Rattle.cell_merge.specs.declared.cell.Pair.{Pair}
use Rattle.level_rows.proofs.Membership.{Contains-here}
use Rattle.store_meaning.specs.Levels.{candidate_row, flag_row}
use Rattle.state_reader.specs.declared.level.LevelKind.{LevelKind}
use Rattle.state_reader.specs.declared.level.LoadFlag.{LoadFlag}
use Rattle.state_reader.specs.Columns.{columns_in}
use Rattle.state_reader.specs.LevelRows.{IsOfKind}
use Rattle.state_reader.specs.RowReads.{IsRecordIn, IsNoTabletRow, IsCandidateIn, IsNoCandidateRow, IsFlagIn, IsNoFlagRow, AreRecordsIn, AreCandidatesIn, AreFlagsIn}
use Rattle.state_reader.proofs.RowLists.{last_is}

-- ---- records

pub not_of_kind : (kind : LevelKind) (row table : List ℕ) (end : Option (List ℕ)) → IsMetadataRow table end row → (IsOfKind kind table → ⊥) → IsNoTabletRow kind row
not_of_kind kind row table end named other = λ t e of is. other (subst (IsOfKind kind) (one_to_one t table e end is.name named.name (sym is.is ∙ named.is)).0 of)

pub record_in : (kind : LevelKind) (pairs : List Pair) (row table : List ℕ) (end : Option (List ℕ)) (us : List Update) (tablet : TabletRecord) → IsMetadataRow table end row → IsOfKind kind table → us ≡ columns_in pairs row → IsRecordOf row us tablet
    → IsRecordIn kind pairs row tablet
record_in kind pairs row table end us tablet named of are is = record {
  of = subst (IsOfKind kind) (one_to_one table tablet.table end tablet.end named.name is.named.name (sym named.is ∙ is.named.is)).0 of;
  is = subst (λ l. IsRecordOf row l tablet) are is;
}

module _ (kind : LevelKind) (pairs : List Pair) (rows : List (List ℕ)) (row : List ℕ) (records : List TabletRecord) (are : AreRecordsIn kind pairs rows records) where
  pub records_none : IsNoTabletRow kind row → AreRecordsIn kind pairs (rows ++ row ∷ []) records
  records_none none = record {
    each = are.each;
    all = λ r there table end of is. elim (Contains-append_cases rows (row ∷ []) r there) [
      | inl front ↦ are.all r front table end of is
      | inr last ↦ absurd (none table end of (subst (IsMetadataRow table end) (sym (last_is row r last)) is))
    ];
  }

  pub records_push : (tablet : TabletRecord) → IsRecordIn kind pairs row tablet → AreRecordsIn kind pairs (rows ++ row ∷ []) (records ++ tablet ∷ [])
  records_push tablet one = record {
    each = λ t there. elim (Contains-append_cases records (tablet ∷ []) t there) [
      | inl front ↦ are.each t front
      | inr last ↦ (row, subst (IsRecordIn kind pairs row) (last_is tablet t last) one)
    ];
    all = λ r there table end of is. elim (Contains-append_cases rows (row ∷ []) r there) [
      | inl front ↦ (let found = are.all r front table end of is in (found.0, Contains-append_left records (tablet ∷ []) found.0 found.1, found.2))
      | inr last ↦ (tablet, Contains-append_right records (tablet ∷ []) tablet (Contains-here tablet []), subst (λ x. IsRecordIn kind pairs x tablet) (last_is row r last) one)
    ];
  }

-- ---- candidates

module _ (pairs : List Pair) (rows : List (List ℕ)) (row : List ℕ) (paths : List (List ℕ)) (are : AreCandidatesIn pairs rows paths) where
  pub candidates_none : IsNoCandidateRow row → AreCandidatesIn pairs (rows ++ row ∷ []) paths
  candidates_none none = record {
    each = are.each;
    all = λ r there path place. elim (Contains-append_cases rows (row ∷ []) r there) [
      | inl front ↦ are.all r front path place
      | inr last ↦ absurd (none path (last_is row r last ∙ place))
    ];
  }

  pub candidates_push : (path : List ℕ) → IsCandidateIn pairs row path → AreCandidatesIn pairs (rows ++ row ∷ []) (paths ++ path ∷ [])
  candidates_push path one = record {
    each = λ p there. elim (Contains-append_cases paths (path ∷ []) p there) [
      | inl front ↦ are.each p front
      | inr last ↦ (row, subst (IsCandidateIn pairs row) (last_is path p last) one)
    ];
    all = λ r there p place. elim (Contains-append_cases rows (row ∷ []) r there) [
      | inl front ↦ Contains-append_left paths (path ∷ []) p (are.all r front p place)
      | inr last ↦ Contains-append_right paths (path ∷ []) p (subst (Contains (path ∷ [])) (ap (drop 4) (sym one.place ∙ last_is row r last ∙ place)) (Contains-here path []))
    ];
  }

-- ---- flags

module _ (pairs : List Pair) (rows : List (List ℕ)) (row : List ℕ) (flags : List LoadFlag) (are : AreFlagsIn pairs rows flags) where
  pub flags_none : IsNoFlagRow row → AreFlagsIn pairs (rows ++ row ∷ []) flags
  flags_none none = record {
    each = are.each;
    all = λ r there path place. elim (Contains-append_cases rows (row ∷ []) r there) [
      | inl front ↦ are.all r front path place
      | inr last ↦ absurd (none path (last_is row r last ∙ place))
    ];
  }

  pub flags_push : (flag : LoadFlag) → IsFlagIn pairs row flag → AreFlagsIn pairs (rows ++ row ∷ []) (flags ++ flag ∷ [])
  flags_push flag one = record {
    each = λ f there. elim (Contains-append_cases flags (flag ∷ []) f there) [
      | inl front ↦ are.each f front
      | inr last ↦ (row, subst (IsFlagIn pairs row) (last_is flag f last) one)
    ];
    all = λ r there p place. elim (Contains-append_cases rows (row ∷ []) r there) [
      | inl front ↦ (let found = are.all r front p place in (found.0, Contains-append_left flags (flag ∷ []) found.0 found.1, found.2))
      | inr last ↦ (flag, Contains-append_right flags (flag ∷ []) flag (Contains-here flag []), ap (drop 5) (sym one.place ∙ last_is row r last ∙ place))
    ];
  }
