-- A row of the root tablet is written: the state, and what is kept.
use Rattle.std.proofs.Common.{◌≡◌, ◌≢◌, ◌⊎◌, inl, inr, ℕ, ◌≤◌, Bool, true, false, List, [], ◌∷◌, Option, Some, None, Contains, refl, sym, ◌∙◌, ap, subst}
use Rattle.std.specs.Prelude.{MatchBool}
use Rattle.std.specs.FinMap as map_of
use Rattle.row_keys.specs.Forms.{IsUserTableId}
use Rattle.plain_model.specs.State.{PairMap, Table, PlainState}
use Rattle.metadata_schema.specs.declared.tablet.FileEntry.{FileEntry}
use Rattle.metadata_schema.specs.declared.tablet.TabletRecord.{TabletRecord}
use Rattle.cell_merge.specs.declared.cell.Cell.{Cell}
use Rattle.level_rows.specs.Chain.{Rows, IsChain}
use Rattle.level_rows.specs.Extents.{holds_row}
use Rattle.level_rows.proofs.WayLemmas.{one_chain_from}
use Rattle.store_layout.specs.Tables.{Catalog}
use Rattle.store_layout.specs.declared.tables.TableNode.{TableNode}
use Rattle.store_meaning.specs.Ground.{Ground}
use Rattle.store_meaning.specs.Content.{file_cells, logs_of}
use Rattle.store_meaning.specs.Levels.{Reading, root_id, metadata_id, root_rows, metadata_rows}
use Rattle.store_meaning.specs.InUse.{IsRecord}
use Rattle.store_meaning.specs.RowWrites.{RowWrite, row_written, metadata_rows_with, metadata_row_written}
use Rattle.store_meaning.specs.Stands.{is_online, TableStands, IsTableOf, TableAt, StagedAt, StandsAs}
use Rattle.store_meaning.specs.Kept.{AreRowsOf, IsChainTablet, IsPastBar, AreLogged, IsKeptAs}
use Rattle.store_meaning.proofs.AppendLemmas.{other_tables}
use Rattle.store_meaning.proofs.ChainWriteLemmas.{chain_of_user}
use Rattle.store_meaning.proofs.NamingLemmas.{metadata_read}
use Rattle.store_meaning.proofs.WrittenLemmas.{root_is_not_metadata, consistent_elsewhere}
use Rattle.kept_meaning.specs.Rows.{IsTabletKept}
use Rattle.kept_meaning.specs.UpperRows.{WritesMetadataKept}
use Rattle.kept_meaning.proofs.LaterLemmas.{IsNew, record_cases, flag_cases, candidate_cases, NamesDrawn, names_after, ids_after, ids_appended, sessions_after}
use Rattle.kept_meaning.proofs.LoggedLemmas.{user_of_catalog, root_is_no_user, holder_names, logged_appended}

module _ (reading : Reading) (catalog : Catalog) (known : Ground) (state : PlainState) (write : RowWrite) (chain : List TabletRecord) (change : WritesMetadataKept known reading write chain) where
  abbrev later : Reading
  later = metadata_row_written known reading write chain

  abbrev after : Ground
  after = row_written known write

  -- ---- the state

  module _ (is : StandsAs reading catalog known state) where
    not_root : (id : List ℕ) (node : TableNode) → catalog.tables id ≡ Some node → id ≢ root_id
    not_root id node there at = root_is_no_user (subst IsUserTableId at (user_of_catalog known.nodes catalog is.nodes id node there))

    -- the tables of users have what they had
    stands_still : (id : List ℕ) (node : TableNode) → catalog.tables id ≡ Some node → (table : Table) → TableStands known (reading.users.records id) node table → TableStands after (reading.users.records id) node table
    stands_still id node there table was = record {
      chain = was.chain;
      is_chain = was.is_chain;
      cells = was.cells;
      content = other_tables known write.log write.mutation (reading.users.records id) was.chain apart ∙ was.content;
      consistent = consistent_elsewhere known write.log write.mutation (reading.users.records id) was.chain apart was.consistent;
      layers = was.layers;
      brought = was.brought;
      name = was.name;
      points = was.points;
      pairs = was.pairs;
    }
      where
        apart : (tablet : TabletRecord) → Contains was.chain tablet → tablet.table ≢ write.mutation.table
        apart tablet among at = not_root id node there (sym (chain_of_user known reading is.read.levels id was.chain was.is_chain tablet among) ∙ at ∙ change.writes.table)

    table_still : (id : List ℕ) (found : Option TableNode) → catalog.tables id ≡ found → (there : Option Table) → TableAt known (reading.users.records id) found there → TableAt after (reading.users.records id) found there
    table_still id None e there none = none
    table_still id (Some node) e there table = by (is_online node.state) table
      where
        by : (b : Bool) → MatchBool b (IsTableOf known (reading.users.records id) node there) (there ≡ None) → MatchBool b (IsTableOf after (reading.users.records id) node there) (there ≡ None)
        by true one = record { table = one.table; is = one.is; stands = stands_still id node e one.table one.stands }
        by false none = none

    staged_still : (found : Option (List ℕ)) (there : Option PairMap) → StagedAt known found there → StagedAt after found there
    staged_still None there none = none
    staged_still (Some path) there one = record { staged = one.staged; is = one.is; cells = one.cells; told = one.told; pairs = one.pairs }

    pub metadata_stands : StandsAs later catalog after state
    metadata_stands = record {
      read = metadata_read known reading is.read write chain change.writes change.fits.names change.fits.unsorted;
      nodes = record { tables = is.nodes.tables; staged = is.nodes.staged };
      marked = is.marked;
      tables = λ id. table_still id (catalog.tables id) refl (map_of.get state.tables id) (is.tables id);
      staged = λ name. staged_still (catalog.staged name) (map_of.get state.staged name) (is.staged name);
      names = is.names;
    }

  -- ---- kept

  module _ (is : IsKeptAs reading catalog known state) where
    records : (tablet : TabletRecord) → IsRecord later tablet → IsRecord reading tablet ⊎ IsNew known tablet
    records tablet (inl same) = inl (inl same)
    records tablet (inr (inl of)) = elim (record_cases known reading.metadata write.row change.fits.names change.fits.drawn tablet of) [ inl was ↦ inl (inr (inl was)) | inr is_new ↦ inr is_new ]
    records tablet (inr (inr of)) = inl (inr (inr of))

    draws : NamesDrawn known reading later
    draws = record {
      records = records;
      metadata_flags = flag_cases known reading.metadata write.row change.fits.drawn;
      user_flags = λ path flagged. inl flagged;
      metadata_candidates = candidate_cases known reading.metadata write.row change.fits.drawn;
      user_candidates = λ path candidate. inl candidate;
    }

    was_kept : (tablet : TabletRecord) → Contains reading.chain tablet → IsTabletKept known metadata_id (metadata_rows reading) tablet
    was_kept tablet among =
        let of : IsChainTablet reading catalog metadata_id (metadata_rows reading) tablet = record { of = inr (inl (refl, refl)); chain = reading.chain; is_chain = is.stands.read.levels.chain; there = among } in
        record {
          logged = λ log mutation in_log past. is.logged metadata_id (metadata_rows reading) tablet log mutation of in_log past;
          removals = λ file cells cell named told in_it removed. is.removals metadata_id (metadata_rows reading) tablet file cells cell of named told in_it removed;
        }

    -- a tablet of the new chain of `!0` is kept
    now_kept : (rows : Rows) (tablet : TabletRecord) (tablets : List TabletRecord) → rows ≡ metadata_rows_with reading write → IsChain rows tablets → Contains tablets tablet → IsTabletKept known metadata_id (metadata_rows_with reading write) tablet
    now_kept rows tablet tablets same is_chain among =
        let one : tablets ≡ chain = one_chain_from (metadata_rows_with reading write) None tablets chain (subst (λ r. IsChain r tablets) same is_chain) change.writes.is_chain in
        change.kept was_kept tablet (subst (λ c. Contains c tablet) one among)

    user_before : (table : List ℕ) (rows : Rows) (tablet : TabletRecord) (of : IsChainTablet later catalog table rows tablet) → AreRowsOf reading catalog table rows → IsChainTablet reading catalog table rows tablet
    user_before table rows tablet of rows_are = record { of = rows_are; chain = of.chain; is_chain = of.is_chain; there = of.there }

    logged_before : AreLogged later catalog known
    logged_before table rows tablet log mutation of in_log past = by of.of
      where
        by : AreRowsOf later catalog table rows → Contains (logs_of tablet) log
        by (inl root) = is.logged table rows tablet log mutation (user_before table rows tablet of (inl root)) in_log past
        by (inr (inl metadata)) = (now_kept rows tablet of.chain metadata.1 of.is_chain of.there).logged log mutation in_log
            (subst (λ t. IsPastBar t (metadata_rows_with reading write) tablet mutation) metadata.0 (subst (λ r. IsPastBar table r tablet mutation) metadata.1 past))
        by (inr (inr user)) = is.logged table rows tablet log mutation (user_before table rows tablet of (inr (inr (record { node = user.node; there = user.there; stays = user.stays; is = user.is })))) in_log past

    removals_before : (table : List ℕ) (rows : Rows) (tablet : TabletRecord) (of : IsChainTablet later catalog table rows tablet) → AreRowsOf later catalog table rows → (file : FileEntry) (cells : List Cell) (cell : Cell)
        → Contains tablet.files file → file_cells known file ≡ Some cells → Contains cells cell → cell.value ≡ None → cell.time ≤ tablet.time
    removals_before table rows tablet of (inl root) file cells cell named told there removed = is.removals table rows tablet file cells cell (user_before table rows tablet of (inl root)) named told there removed
    removals_before table rows tablet of (inr (inl metadata)) file cells cell named told there removed = (now_kept rows tablet of.chain metadata.1 of.is_chain of.there).removals file cells cell named told there removed
    removals_before table rows tablet of (inr (inr user)) file cells cell named told there removed =
        is.removals table rows tablet file cells cell (user_before table rows tablet of (inr (inr (record { node = user.node; there = user.there; stays = user.stays; is = user.is })))) named told there removed

    -- the root tablet names the log
    root_names : (rows : Rows) (tablet : TabletRecord) → IsChainTablet later catalog write.mutation.table rows tablet → holds_row rows tablet write.mutation.row ≡ true → Contains (logs_of tablet) write.log
    root_names rows tablet of holds = by of.of
      where
        by : AreRowsOf later catalog write.mutation.table rows → Contains (logs_of tablet) write.log
        by (inl root) =
            let root_chain = is.stands.read.levels.root_chain in
            let one : of.chain ≡ reading.root ∷ [] = one_chain_from (root_rows reading) None of.chain (reading.root ∷ []) (subst (λ r. IsChain r of.chain) root.1 of.is_chain) root_chain in
            holder_names known (root_rows reading) (reading.root ∷ []) root_chain write.log write.mutation change.writes.stands tablet (subst (λ c. Contains c tablet) one of.there) (ap (λ r. holds_row r tablet write.mutation.row) (sym root.1) ∙ holds)
        by (inr (inl metadata)) = absurd (root_is_not_metadata (sym change.writes.table ∙ metadata.0))
        by (inr (inr user)) = absurd (not_root is.stands write.mutation.table user.node user.there change.writes.table)

    pub metadata_kept : IsKeptAs later catalog after state
    metadata_kept = record {
      stands = metadata_stands is.stands;
      names = names_after known reading later catalog draws is.names;
      ids = ids_appended later catalog known write.log write.mutation (λ user. root_is_no_user (subst IsUserTableId change.writes.table user)) (ids_after known reading later catalog draws is.ids);
      sessions = sessions_after known reading later catalog draws is.sessions;
      logged = logged_appended later catalog known write.log write.mutation logged_before root_names;
      removals = λ table rows tablet file cells cell of named told there removed. removals_before table rows tablet of of.of file cells cell named told there removed;
    }
