-- What is in use once one row is written.
use Rattle.std.proofs.Common.{◌≡◌, ◌≢◌, ◌⊎◌, inl, inr, ℕ, Bool, true, false, cond, ◌&&◌, codes, List, [], ◌∷◌, ◌++◌, Some, refl, sym, ◌∙◌, subst, arith}
use Rattle.metadata_schema.specs.declared.mutation.Mutation.{Mutation}
use Rattle.metadata_schema.specs.declared.tablet.TabletRecord.{TabletRecord}
use Rattle.metadata_schema.specs.Bytes.{same}
use Rattle.level_rows.specs.Chain.{same_end}
use Rattle.level_rows.proofs.ChoiceLemmas.{some_of}
use Rattle.level_rows.proofs.EndLemmas.{same-true}
use Rattle.node_store.specs.Nodes.{Nodes}
use Rattle.store_layout.specs.Nodes.{root_path}
use Rattle.store_meaning.specs.Ground.{Ground, with_nodes}
use Rattle.store_meaning.specs.Levels.{Level, Reading, root_rows, metadata_rows}
use Rattle.store_meaning.specs.InUse.{IsOfLevel, IsRecord, IsFlagged, IsFileInUse, IsNamedLog, IsLogInUse, IsListedLog, IsListedSorted}
use Rattle.store_meaning.specs.Readable.{IsTold, HasAllInUse, ListsLogs, IsReadAs}
use Rattle.store_meaning.specs.Writes.{appended}
use Rattle.store_meaning.specs.RowWrites.{LevelRow, RecordRow, CandidateRow, FlagRow, RowWrite, row_written, with_level_row, WritesUserRow, user_row_written, WritesMetadataRow, metadata_row_written, WritesRoot, root_written}
use Rattle.store_meaning.specs.Naming.{NamesKnown, RowNamesKnown, IsUnsorted}
use Rattle.store_meaning.specs.ChainWrites.{PutsCells}
use Rattle.store_meaning.proofs.AppendLemmas.{told_after}
use Rattle.store_meaning.proofs.ChainWriteLemmas.{put_reading, chain_of_metadata}
use Rattle.store_meaning.proofs.WrittenLemmas.{user_reading, user_consistent_after, root_consistent_after, metadata_reading, metadata_root_after, metadata_chain_after, root_reading, root_tablet_after, root_alone, consistent_elsewhere}

-- a later reading names nothing new that isn't there
pub record NamesNoMore (known : Ground) (old new : Reading) : Type 0 where
  pub files : (path : List ℕ) → IsFileInUse new path → IsFileInUse old path ⊎ IsTold (known.cells_of path)
  pub logs : (log : List ℕ) → IsNamedLog new log → IsNamedLog old log ⊎ IsListedLog known.nodes log

module _ (known : Ground) (old new : Reading) (names : NamesNoMore known old new) (in_use : HasAllInUse known old) (lists : ListsLogs known old) where
  pub lists_after : ListsLogs known new
  lists_after = record {
    named = λ log named. elim (names.logs log named) [ inl was ↦ lists.named log was | inr listed ↦ listed ];
    sorted = lists.sorted;
  }

  told_still : (path : List ℕ) → IsFileInUse new path → IsTold (known.cells_of path)
  told_still path used = elim (names.files path used) [ inl was ↦ in_use.files path was | inr told ↦ told ]

  log_told_still : (log : List ℕ) → IsLogInUse known.nodes new log → IsTold (known.mutations_of log)
  log_told_still log (inl named) = in_use.logs log (inr (inl (lists_after.named log named)))
  log_told_still log (inr listed) = in_use.logs log (inr listed)

  -- all that is in use is there, also with a mutation more in a log that isn't sorted
  pub in_use_after : (log : List ℕ) (mutation : Mutation) → IsUnsorted known log → HasAllInUse (appended known log mutation) new
  in_use_after log mutation unsorted = record {
    files = told_still;
    logs = λ other used. (let told = log_told_still other used in elim (told_after known log mutation other told.value told.is) [
      | inl here ↦ record { value = told.value ++ mutation ∷ []; is = here.1 }
      | inr elsewhere ↦ record { value = told.value; is = elsewhere.1 }
    ]);
    sorted = λ other used. (let there = in_use.sorted other used in elim (told_after known log mutation other there.mutations there.log_is) [
      | inl here ↦ absurd (unsorted (subst (IsListedSorted known.nodes) here.0 used))
      | inr elsewhere ↦ record { mutations = there.mutations; sorted = there.sorted; log_is = elsewhere.1; sorted_is = there.sorted_is; sorts = there.sorts }
    ]);
  }

-- ---- a level with one row written

-- a record of the level is an old one, or names only what is known
record_of_level : (known : Ground) (level : Level) (row : LevelRow) → RowNamesKnown known row → (tablet : TabletRecord) → IsOfLevel (with_level_row level row) tablet → IsOfLevel level tablet ⊎ NamesKnown known tablet
record_of_level known level (RecordRow table end written) names tablet of = by (same of.table table && same_end of.end end) of.there
  where
    by : (b : Bool) → cond b written (level.records of.table of.end) ≡ Some tablet → IsOfLevel level tablet ⊎ NamesKnown known tablet
    by true e = inr (some_of written tablet (NamesKnown known) e names)
    by false e = inl (record { table = of.table; end = of.end; there = e })
record_of_level known level (CandidateRow path is_there) names tablet of = inl (record { table = of.table; end = of.end; there = of.there })
record_of_level known level (FlagRow path flag) names tablet of = inl (record { table = of.table; end = of.end; there = of.there })

flag_of_level : (known : Ground) (level : Level) (row : LevelRow) → RowNamesKnown known row → (path : List ℕ) → IsFlagged (with_level_row level row) path → IsFlagged level path ⊎ IsTold (known.cells_of path)
flag_of_level known level (RecordRow table end written) names path flagged = inl (record { flag = flagged.flag; is = flagged.is })
flag_of_level known level (CandidateRow other is_there) names path flagged = inl (record { flag = flagged.flag; is = flagged.is })
flag_of_level known level (FlagRow other flag) names path flagged = by (same path other) refl flagged.is
  where
    by : (b : Bool) → same path other ≡ b → cond b flag (level.flag path) ≡ Some flagged.flag → IsFlagged level path ⊎ IsTold (known.cells_of path)
    by true e is = inr (subst (λ p. IsTold (known.cells_of p)) (sym (same-true path other e)) (some_of flag flagged.flag (λ f. IsTold (known.cells_of other)) is names))
    by false e is = inl (record { flag = flagged.flag; is = is })

-- files and logs of records that are old ones, or name only what is known
module _ (known : Ground) (old new : Reading) (records : (tablet : TabletRecord) → IsRecord new tablet → IsRecord old tablet ⊎ NamesKnown known tablet)
    (metadata_flags : (path : List ℕ) → IsFlagged new.metadata path → IsFlagged old.metadata path ⊎ IsTold (known.cells_of path)) (user_flags : (path : List ℕ) → IsFlagged new.users path → IsFlagged old.users path ⊎ IsTold (known.cells_of path)) where
  names_no_more : NamesNoMore known old new
  names_no_more = record {
    files = files;
    logs = λ log named. elim (records named.tablet named.of) [
      | inl was ↦ inl (record { tablet = named.tablet; of = was; there = named.there })
      | inr names ↦ inr (names.logs log named.there)
    ];
  }
    where
      files : (path : List ℕ) → IsFileInUse new path → IsFileInUse old path ⊎ IsTold (known.cells_of path)
      files path (inl named) = elim (records named.tablet named.of) [
        | inl was ↦ inl (inl (record { tablet = named.tablet; of = was; file = named.file; there = named.there; is = named.is }))
        | inr names ↦ inr (subst (λ p. IsTold (known.cells_of p)) named.is (names.files named.file named.there))
      ]
      files path (inr (inl flagged)) = elim (metadata_flags path flagged) [ inl was ↦ inl (inr (inl was)) | inr told ↦ inr told ]
      files path (inr (inr flagged)) = elim (user_flags path flagged) [ inl was ↦ inl (inr (inr was)) | inr told ↦ inr told ]

-- ---- the three levels

module _ (known : Ground) (reading : Reading) (is : IsReadAs reading known) where
  -- a row of the metadata table
  module _ (write : RowWrite) (writes : WritesUserRow known reading write) (names : RowNamesKnown known write.row) (unsorted : IsUnsorted known write.log) where
    user_records : (tablet : TabletRecord) → IsRecord (user_row_written known reading write) tablet → IsRecord reading tablet ⊎ NamesKnown known tablet
    user_records tablet (inl same) = inl (inl same)
    user_records tablet (inr (inl of)) = inl (inr (inl of))
    user_records tablet (inr (inr of)) = elim (record_of_level known reading.users write.row names tablet of) [ inl was ↦ inl (inr (inr was)) | inr known_names ↦ inr known_names ]

    user_names : NamesNoMore known reading (user_row_written known reading write)
    user_names = names_no_more known reading (user_row_written known reading write) user_records (λ path flagged. inl flagged) (flag_of_level known reading.users write.row names)

    pub user_read : IsReadAs (user_row_written known reading write) (row_written known write)
    user_read = record {
      levels = user_reading known reading is.levels is.metadata write writes;
      in_use = in_use_after known reading (user_row_written known reading write) user_names is.in_use is.logs write.log write.mutation unsorted;
      logs = (let l = lists_after known reading (user_row_written known reading write) user_names is.in_use is.logs in record { named = l.named; sorted = l.sorted });
      root = root_consistent_after known reading is.levels is.metadata write writes is.root;
      metadata = user_consistent_after known reading is.levels is.metadata write writes;
    }

  -- a row of the root tablet
  module _ (write : RowWrite) (chain : List TabletRecord) (writes : WritesMetadataRow known reading write chain) (names : RowNamesKnown known write.row) (unsorted : IsUnsorted known write.log) where
    abbrev metadata_new : Reading
    metadata_new = metadata_row_written known reading write chain

    metadata_records : (tablet : TabletRecord) → IsRecord metadata_new tablet → IsRecord reading tablet ⊎ NamesKnown known tablet
    metadata_records tablet (inl same) = inl (inl same)
    metadata_records tablet (inr (inl of)) = elim (record_of_level known reading.metadata write.row names tablet of) [ inl was ↦ inl (inr (inl was)) | inr known_names ↦ inr known_names ]
    metadata_records tablet (inr (inr of)) = inl (inr (inr of))

    metadata_names : NamesNoMore known reading metadata_new
    metadata_names = names_no_more known reading metadata_new metadata_records (flag_of_level known reading.metadata write.row names) (λ path flagged. inl flagged)

    pub metadata_read : IsReadAs metadata_new (row_written known write)
    metadata_read = record {
      levels = metadata_reading known reading is.levels is.root is.metadata write chain writes;
      in_use = in_use_after known reading metadata_new metadata_names is.in_use is.logs write.log write.mutation unsorted;
      logs = (let l = lists_after known reading metadata_new metadata_names is.in_use is.logs in record { named = l.named; sorted = l.sorted });
      root = metadata_root_after known reading is.levels is.root is.metadata write chain writes;
      metadata = metadata_chain_after known reading is.levels is.root is.metadata write chain writes;
    }

  -- the node of the root record
  module _ (nodes : Nodes) (root : TabletRecord) (writes : WritesRoot known reading nodes root) (names : NamesKnown known root) where
    abbrev root_new : Reading
    root_new = root_written known reading root

    root_records : (tablet : TabletRecord) → IsRecord root_new tablet → IsRecord reading tablet ⊎ NamesKnown known tablet
    root_records tablet (inl same) = inr (subst (NamesKnown known) same names)
    root_records tablet (inr more) = inl (inr more)

    root_names : NamesNoMore known reading root_new
    root_names = names_no_more known reading root_new root_records (λ path flagged. inl flagged) (λ path flagged. inl flagged)

    log_apart : (session : List ℕ) → codes "/logs/" ++ session ≢ root_path
    log_apart session e = (let at : ◌≡◌ {A = ℕ} 108 114 = cc e in omega (arith, at))

    sorted_apart : (log : List ℕ) → codes "/sorted/" ++ log ≢ root_path
    sorted_apart log e = (let at : ◌≡◌ {A = ℕ} 115 114 = cc e in omega (arith, at))

    listed_now : (log : List ℕ) → IsListedLog known.nodes log → IsListedLog nodes log
    listed_now log l = record { session = l.session; node = l.node; there = writes.others (codes "/logs/" ++ l.session) (log_apart l.session) ∙ l.there; is = l.is }

    listed_before : (log : List ℕ) → IsListedLog nodes log → IsListedLog known.nodes log
    listed_before log l = record { session = l.session; node = l.node; there = sym (writes.others (codes "/logs/" ++ l.session) (log_apart l.session)) ∙ l.there; is = l.is }

    sorted_before : (log : List ℕ) → IsListedSorted nodes log → IsListedSorted known.nodes log
    sorted_before log s = record { node = s.node; there = sym (writes.others (codes "/sorted/" ++ log) (sorted_apart log)) ∙ s.there }

    log_before : (log : List ℕ) → IsLogInUse nodes root_new log → IsLogInUse known.nodes root_new log
    log_before log (inl named) = inl named
    log_before log (inr (inl listed)) = inr (inl (listed_before log listed))
    log_before log (inr (inr sorted)) = inr (inr (sorted_before log sorted))

    pub root_read : IsReadAs root_new (with_nodes known nodes)
    root_read = record {
      levels = root_reading known reading is.levels is.root nodes root writes;
      in_use = record {
        files = told_still known reading root_new root_names is.in_use is.logs;
        logs = λ log used. log_told_still known reading root_new root_names is.in_use is.logs log (log_before log used);
        sorted = λ log used. (let there = is.in_use.sorted log (sorted_before log used) in
            record { mutations = there.mutations; sorted = there.sorted; log_is = there.log_is; sorted_is = there.sorted_is; sorts = there.sorts });
      };
      logs = record {
        named = λ log named. listed_now log ((lists_after known reading root_new root_names is.in_use is.logs).named log named);
        sorted = λ log used. listed_now log (is.logs.sorted log (sorted_before log used));
      };
      root = root_tablet_after known reading is.levels is.root nodes root writes;
      metadata = is.metadata;
    }

  -- cells of a user table
  pub put_read : (log : List ℕ) (mutation : Mutation) (chain : List TabletRecord) → PutsCells known reading log mutation chain → IsUnsorted known log → IsReadAs reading (appended known log mutation)
  put_read log mutation chain puts unsorted =
      let names : NamesNoMore known reading reading = record { files = λ path used. inl used; logs = λ other named. inl named } in
      let l = lists_after known reading reading names is.in_use is.logs in
      record {
        levels = put_reading known reading is.levels log mutation chain puts;
        in_use = in_use_after known reading reading names is.in_use is.logs log mutation unsorted;
        logs = record { named = l.named; sorted = l.sorted };
        root = consistent_elsewhere known log mutation (root_rows reading) (reading.root ∷ []) (λ tablet there same. puts.not_root (sym same ∙ root_alone known reading is.levels tablet there)) is.root;
        metadata = consistent_elsewhere known log mutation (metadata_rows reading) reading.chain (λ tablet there same. puts.user (sym same ∙ chain_of_metadata known reading is.levels tablet there)) is.metadata;
      }
