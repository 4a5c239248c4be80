-- Drawn numbers as a row is written.
use Rattle.std.proofs.Common.{◌≡◌, ◌⊎◌, inl, inr, ℕ, ◌<◌, Bool, true, false, cond, ◌&&◌, List, Some, refl, sym, subst}
use Rattle.metadata_schema.specs.declared.mutation.Mutation.{Mutation}
use Rattle.metadata_schema.specs.declared.tablet.TabletRecord.{TabletRecord}
use Rattle.metadata_schema.specs.Bytes.{same}
use Rattle.row_keys.specs.Forms.{IsUserTableId}
use Rattle.level_rows.specs.Chain.{same_end}
use Rattle.level_rows.proofs.ChoiceLemmas.{some_of}
use Rattle.level_rows.proofs.EndLemmas.{same-true}
use Rattle.store_layout.specs.Numbers.{base16_number}
use Rattle.store_layout.specs.Tables.{Catalog}
use Rattle.store_meaning.specs.Ground.{Ground}
use Rattle.store_meaning.specs.Levels.{Level, Reading}
use Rattle.store_meaning.specs.InUse.{IsOfLevel, IsRecord, IsFlagged, IsLogInUse}
use Rattle.store_meaning.specs.Marked.{IsFileCounted}
use Rattle.store_meaning.specs.Naming.{NamesKnown, RowNamesKnown}
use Rattle.store_meaning.specs.RowWrites.{LevelRow, RecordRow, CandidateRow, FlagRow, with_level_row}
use Rattle.store_meaning.specs.Writes.{appended}
use Rattle.store_meaning.specs.Kept.{AreNamesDrawn, AreIdsDrawn, AreSessionsDrawn, IsCandidate, IsServerSession, IsLogSession, IsHolderSession}
use Rattle.kept_meaning.specs.Drawn.{IsNameDrawn, IsRecordDrawn, IsRowDrawn}
use Rattle.kept_meaning.proofs.LoggedLemmas.{in_log_cases}

-- ---- a level with one row written

-- what the row names is known, and was drawn
pub record IsNew (known : Ground) (tablet : TabletRecord) : Type 0 where
  pub names : NamesKnown known tablet
  pub drawn : IsRecordDrawn known.nodes tablet

module _ (known : Ground) (level : Level) where
  pub record_cases : (row : LevelRow) → RowNamesKnown known row → IsRowDrawn known.nodes row → (tablet : TabletRecord) → IsOfLevel (with_level_row level row) tablet → IsOfLevel level tablet ⊎ IsNew known tablet
  record_cases (RecordRow table end written) names drawn tablet of = by (same of.table table && same_end of.end end) of.there
    where
      by : (b : Bool) → cond b written (level.records of.table of.end) ≡ Some tablet → IsOfLevel level tablet ⊎ IsNew known tablet
      by true e = inr (record { names = some_of written tablet (NamesKnown known) e names; drawn = some_of written tablet (IsRecordDrawn known.nodes) e drawn })
      by false e = inl (record { table = of.table; end = of.end; there = e })
  record_cases (CandidateRow path is_there) names drawn tablet of = inl (record { table = of.table; end = of.end; there = of.there })
  record_cases (FlagRow path flag) names drawn tablet of = inl (record { table = of.table; end = of.end; there = of.there })

  pub flag_cases : (row : LevelRow) → IsRowDrawn known.nodes row → (path : List ℕ) → IsFlagged (with_level_row level row) path → IsFlagged level path ⊎ IsNameDrawn known.nodes path
  flag_cases (RecordRow table end written) drawn path flagged = inl (record { flag = flagged.flag; is = flagged.is })
  flag_cases (CandidateRow other is_there) drawn path flagged = inl (record { flag = flagged.flag; is = flagged.is })
  flag_cases (FlagRow other flag) drawn path flagged = by (same path other) refl flagged.is
    where
      by : (b : Bool) → same path other ≡ b → cond b flag (level.flag path) ≡ Some flagged.flag → IsFlagged level path ⊎ IsNameDrawn known.nodes path
      by true e is = inr (subst (IsNameDrawn known.nodes) (sym (same-true path other e)) (some_of flag flagged.flag (λ f. IsNameDrawn known.nodes other) is drawn))
      by false e is = inl (record { flag = flagged.flag; is = is })

  pub candidate_cases : (row : LevelRow) → IsRowDrawn known.nodes row → (path : List ℕ) → (with_level_row level row).is_candidate path ≡ true → (level.is_candidate path ≡ true) ⊎ IsNameDrawn known.nodes path
  candidate_cases (RecordRow table end written) drawn path is = inl is
  candidate_cases (FlagRow other flag) drawn path is = inl is
  candidate_cases (CandidateRow other is_there) drawn path is = by (same path other) refl is
    where
      by : (b : Bool) → same path other ≡ b → cond b is_there (level.is_candidate path) ≡ true → (level.is_candidate path ≡ true) ⊎ IsNameDrawn known.nodes path
      by true e there = inr (subst (IsNameDrawn known.nodes) (sym (same-true path other e)) (drawn there))
      by false e there = inl there

-- ---- a later reading that names nothing new but what was drawn

pub record NamesDrawn (known : Ground) (old new : Reading) : Type 0 where
  pub records : (tablet : TabletRecord) → IsRecord new tablet → IsRecord old tablet ⊎ IsNew known tablet
  pub metadata_flags : (path : List ℕ) → IsFlagged new.metadata path → IsFlagged old.metadata path ⊎ IsNameDrawn known.nodes path
  pub user_flags : (path : List ℕ) → IsFlagged new.users path → IsFlagged old.users path ⊎ IsNameDrawn known.nodes path
  pub metadata_candidates : (path : List ℕ) → new.metadata.is_candidate path ≡ true → (old.metadata.is_candidate path ≡ true) ⊎ IsNameDrawn known.nodes path
  pub user_candidates : (path : List ℕ) → new.users.is_candidate path ≡ true → (old.users.is_candidate path ≡ true) ⊎ IsNameDrawn known.nodes path

module _ (known : Ground) (old new : Reading) (catalog : Catalog) (later : NamesDrawn known old new) where
  -- a path that counts now counted before, or was drawn
  path_cases : (path : List ℕ) → IsFileCounted new catalog path ⊎ IsCandidate known.nodes new path → (IsFileCounted old catalog path ⊎ IsCandidate known.nodes old path) ⊎ IsNameDrawn known.nodes path
  path_cases path (inl (inl (inl named))) = elim (later.records named.tablet named.of) [
    | inl was ↦ inl (inl (inl (inl (record { tablet = named.tablet; of = was; file = named.file; there = named.there; is = named.is }))))
    | inr is_new ↦ inr (subst (IsNameDrawn known.nodes) named.is (is_new.drawn.files named.file named.there))
  ]
  path_cases path (inl (inl (inr (inl flagged)))) = elim (later.metadata_flags path flagged) [ inl was ↦ inl (inl (inl (inr (inl was)))) | inr drawn ↦ inr drawn ]
  path_cases path (inl (inl (inr (inr flagged)))) = elim (later.user_flags path flagged) [ inl was ↦ inl (inl (inl (inr (inr was)))) | inr drawn ↦ inr drawn ]
  path_cases path (inl (inr of_nodes)) = inl (inl (inr of_nodes))
  path_cases path (inr (inl candidate)) = elim (later.metadata_candidates path candidate) [ inl was ↦ inl (inr (inl was)) | inr drawn ↦ inr drawn ]
  path_cases path (inr (inr (inl candidate))) = elim (later.user_candidates path candidate) [ inl was ↦ inl (inr (inr (inl was))) | inr drawn ↦ inr drawn ]
  path_cases path (inr (inr (inr listed))) = inl (inr (inr (inr listed)))

  pub names_after : AreNamesDrawn old catalog known.nodes → AreNamesDrawn new catalog known.nodes
  names_after were = record {
    next = were.next;
    counter = were.counter;
    files = λ path used form. elim (path_cases path used) [ inl was ↦ were.files path was form | inr drawn ↦ drawn form were.next were.counter ];
    directories = λ tablet of. elim (later.records tablet of) [ inl was ↦ were.directories tablet was | inr is_new ↦ is_new.drawn.directory were.next were.counter ];
  }

  pub ids_after : AreIdsDrawn old catalog known → AreIdsDrawn new catalog known
  ids_after were = record {
    next = were.next;
    counter = were.counter;
    tables = were.tables;
    records = λ tablet of user. elim (later.records tablet of) [ inl was ↦ were.records tablet was user | inr is_new ↦ is_new.drawn.table user were.next were.counter ];
    mutations = were.mutations;
  }

  pub sessions_after : AreSessionsDrawn old known.nodes → AreSessionsDrawn new known.nodes
  sessions_after were = record {
    next = were.next;
    counter = were.counter;
    sessions = λ session used. session_below session used;
    logs = λ log used form. were.logs log (log_before log used) form;
  }
    where
      session_below : (session : List ℕ) → IsServerSession known.nodes session ⊎ IsLogSession known.nodes session ⊎ IsHolderSession new session → base16_number session < were.next
      session_below session (inl server) = were.sessions session (inl server)
      session_below session (inr (inl log)) = were.sessions session (inr (inl log))
      session_below session (inr (inr holds)) = elim (later.records holds.tablet holds.of) [
        | inl was ↦ were.sessions session (inr (inr (record { tablet = holds.tablet; of = was; holder = holds.holder; there = holds.there; is = holds.is })))
        | inr is_new ↦ subst (λ s. base16_number s < were.next) holds.is (is_new.drawn.holders holds.holder holds.there were.next were.counter)
      ]

      log_before : (log : List ℕ) → IsLogInUse known.nodes new log → IsLogInUse known.nodes old log
      log_before log (inl named) = elim (later.records named.tablet named.of) [
        | inl was ↦ inl (record { tablet = named.tablet; of = was; there = named.there })
        | inr is_new ↦ inr (inl (is_new.names.logs log named.there))
      ]
      log_before log (inr listed) = inr listed

-- with a mutation more that is of no user table
pub ids_appended : (reading : Reading) (catalog : Catalog) (known : Ground) (log : List ℕ) (mutation : Mutation) → (IsUserTableId mutation.table → ⊥) → AreIdsDrawn reading catalog known → AreIdsDrawn reading catalog (appended known log mutation)
ids_appended reading catalog known log mutation no_user were = record {
  next = were.next;
  counter = were.counter;
  tables = were.tables;
  records = were.records;
  mutations = λ other m there user. elim (in_log_cases known log mutation other m there) [
    | inl before ↦ were.mutations other m before user
    | inr now ↦ absurd (no_user (subst (λ (x : Mutation). IsUserTableId x.table) (sym now.1) user))
  ];
}
