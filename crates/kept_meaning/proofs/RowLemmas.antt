-- A row of the metadata table is written: the state and what is kept, from what each table's chain has and keeps.
use Rattle.std.proofs.Common.{◌≡◌, ◌≢◌, ◌⊎◌, inl, inr, ℕ, ◌≤◌, Bool, true, false, List, Option, Some, None, Contains, refl, sym, ◌∙◌, ap, subst}
use Rattle.std.specs.Prelude.{MatchBool}
use Rattle.std.specs.FinMap as map_of
use Rattle.row_keys.specs.RowOrder.{is_within}
use Rattle.row_keys.specs.Forms.{IsUserTableId}
use Rattle.plain_model.specs.State.{PairMap, Table, PlainState}
use Rattle.metadata_schema.specs.declared.tablet.FileEntry.{FileEntry}
use Rattle.metadata_schema.specs.declared.tablet.TabletRecord.{TabletRecord}
use Rattle.cell_merge.specs.declared.cell.Cell.{Cell}
use Rattle.level_rows.specs.Chain.{Rows, IsChain, effective_prev}
use Rattle.level_rows.specs.Extents.{holds_row}
use Rattle.level_rows.proofs.WayLemmas.{one_chain_from}
use Rattle.store_layout.specs.Tables.{Catalog}
use Rattle.store_layout.specs.declared.tables.TableNode.{TableNode}
use Rattle.store_meaning.specs.Ground.{Ground}
use Rattle.store_meaning.specs.Content.{file_cells, logs_of, content_of, tablet_content}
use Rattle.store_meaning.specs.Levels.{Reading, metadata_id, metadata_rows}
use Rattle.store_meaning.specs.InUse.{IsRecord}
use Rattle.store_meaning.specs.RowWrites.{RowWrite, row_written, WritesUserRow, user_row_written}
use Rattle.store_meaning.specs.ChainWrites.{user_rows_with}
use Rattle.store_meaning.specs.Stands.{is_online, TableStands, IsTableOf, TableAt, StagedAt, StandsAs}
use Rattle.store_meaning.specs.Kept.{is_deleting, AreRowsOf, IsChainTablet, IsPastBar, AreLogged, IsKeptAs}
use Rattle.store_meaning.proofs.AppendLemmas.{elsewhere, no_table}
use Rattle.store_meaning.proofs.ChainWriteLemmas.{chain_of_user, user_aside_content}
use Rattle.store_meaning.proofs.NamingLemmas.{user_read}
use Rattle.store_meaning.proofs.PieceLemmas.{chains_stand}
use Rattle.store_meaning.proofs.WrittenLemmas.{root_is_not_metadata}
use Rattle.kept_meaning.specs.Rows.{RowFits, IsTabletKept}
use Rattle.kept_meaning.proofs.LayerLemmas.{layers_same}
use Rattle.kept_meaning.proofs.LaterLemmas.{IsNew, record_cases, flag_cases, candidate_cases, NamesDrawn, names_after, ids_after, ids_appended, sessions_after}
use Rattle.kept_meaning.proofs.LoggedLemmas.{user_of_catalog, metadata_is_no_user, holder_names, logged_appended}

-- the id of a catalog's table isn't `!0`
pub not_metadata : (catalog : Catalog) (known : Ground) (reading : Reading) (state : PlainState) → StandsAs reading catalog known state → (id : List ℕ) (node : TableNode) → catalog.tables id ≡ Some node → id ≢ metadata_id
not_metadata catalog known reading state is id node there at = metadata_is_no_user (subst IsUserTableId at (user_of_catalog known.nodes catalog is.nodes id node there))

-- a tablet that stands as before is kept as before
pub kept_moves : (known : Ground) (table : List ℕ) (old new : Rows) (tablet : TabletRecord) → effective_prev new tablet ≡ effective_prev old tablet → IsTabletKept known table old tablet → IsTabletKept known table new tablet
kept_moves known table old new tablet prev was = record {
  logged = λ log mutation there past. was.logged log mutation there (record { of = past.of; within = ap (λ low. is_within low tablet.end mutation.row) (sym prev) ∙ past.within; past = past.past });
  removals = was.removals;
}

-- ---- the state

module _ (reading : Reading) (catalog : Catalog) (known : Ground) (state : PlainState) (is : StandsAs reading catalog known state) (write : RowWrite) (writes : WritesUserRow known reading write) where
  abbrev after : Ground
  after = row_written known write

  abbrev old : List ℕ → Rows
  old id = reading.users.records id

  abbrev new : List ℕ → Rows
  new id = user_rows_with reading write id

  at_table : (id : List ℕ) (node : TableNode) (there : Option Table) → (is_online node.state ≡ true → (table : Table) → TableStands known (old id) node table → TableStands after (new id) node table)
      → TableAt known (old id) (Some node) there → TableAt after (new id) (Some node) there
  at_table id node there each = by (is_online node.state) refl
    where
      by : (b : Bool) → is_online node.state ≡ b → MatchBool b (IsTableOf known (old id) node there) (there ≡ None) → MatchBool b (IsTableOf after (new id) node there) (there ≡ None)
      by true e one = record { table = one.table; is = one.is; stands = each e one.table one.stands }
      by false e none = none

  staged_at : (found : Option (List ℕ)) (there : Option PairMap) → StagedAt known found there → StagedAt after found there
  staged_at None there none = none
  staged_at (Some path) there one = record { staged = one.staged; is = one.is; cells = one.cells; told = one.told; pairs = one.pairs }

  pub row_stands : RowFits known write
      → ((id : List ℕ) (node : TableNode) → catalog.tables id ≡ Some node → is_online node.state ≡ true → (table : Table) → TableStands known (old id) node table → TableStands after (new id) node table)
      → StandsAs (user_row_written known reading write) catalog after state
  row_stands fits each = record {
    read = user_read known reading is.read write writes fits.names fits.unsorted;
    nodes = record { tables = is.nodes.tables; staged = is.nodes.staged };
    marked = is.marked;
    tables = λ id. by id (catalog.tables id) refl (is.tables id);
    staged = λ name. staged_at (catalog.staged name) (map_of.get state.staged name) (is.staged name);
    names = is.names;
  }
    where
      by : (id : List ℕ) (found : Option TableNode) → catalog.tables id ≡ found → TableAt known (old id) found (map_of.get state.tables id) → TableAt after (new id) found (map_of.get state.tables id)
      by id None e none = none
      by id (Some node) e there = at_table id node (map_of.get state.tables id) (each id node e) there

  -- a table whose chain is the same
  pub aside_table : (id : List ℕ) (node : TableNode) → catalog.tables id ≡ Some node → ((chain : List TabletRecord) → IsChain (old id) chain → IsChain (new id) chain) → (table : Table) → TableStands known (old id) node table → TableStands after (new id) node table
  aside_table id node there same table was =
      let is_chain = same was.chain was.is_chain in
      let stand = chains_stand (old id) (new id) was.chain was.is_chain is_chain in
      record {
        chain = was.chain;
        is_chain = is_chain;
        cells = was.cells;
        content = user_aside_content known reading is.read.levels is.read.metadata write writes id was.chain (not_metadata catalog known reading state is id node there) was.is_chain is_chain ∙ was.content;
        consistent = λ tablet cells among told. was.consistent tablet cells among (sym (content_stays tablet among (stand.prev tablet among)) ∙ told);
        layers = was.layers;
        brought = layers_same known (old id) (new id) node.mark was.chain stand.prev ∙ was.brought;
        name = was.name;
        points = was.points;
        pairs = was.pairs;
      }
    where
      content_stays : (tablet : TabletRecord) → Contains was.chain tablet → effective_prev (new id) tablet ≡ effective_prev (old id) tablet → tablet_content after (new id) tablet ≡ tablet_content known (old id) tablet
      content_stays tablet among prev =
          let apart : tablet.table ≢ write.mutation.table = λ at. not_metadata catalog known reading state is id node there
          (sym (chain_of_user known reading is.read.levels id was.chain was.is_chain tablet among) ∙ at ∙ writes.table) in
          elsewhere known write.log write.mutation (effective_prev (new id) tablet) tablet (no_table known write.log write.mutation (effective_prev (new id) tablet) tablet apart)
          ∙ ap (λ low. content_of known low tablet) prev

-- ---- kept

module _ (reading : Reading) (catalog : Catalog) (known : Ground) (state : PlainState) (is : IsKeptAs reading catalog known state) where
  -- each tablet of a chain that counts is kept
  pub was_kept : (id : List ℕ) (node : TableNode) → catalog.tables id ≡ Some node → is_deleting node.state ≡ false → (chain : List TabletRecord) → IsChain (reading.users.records id) chain
      → (tablet : TabletRecord) → Contains chain tablet → IsTabletKept known id (reading.users.records id) tablet
  was_kept id node there stays chain is_chain tablet among =
      let of : IsChainTablet reading catalog id (reading.users.records id) tablet = record { of = inr (inr (record { node = node; there = there; stays = stays; is = refl })); chain = chain; is_chain = is_chain; there = among } in
      record {
        logged = λ log mutation in_log past. is.logged id (reading.users.records id) tablet log mutation of in_log past;
        removals = λ file cells cell named told in_it removed. is.removals id (reading.users.records id) tablet file cells cell of named told in_it removed;
      }

  module _ (write : RowWrite) (writes : WritesUserRow known reading write) (fits : RowFits known write) where
    abbrev later : Reading
    later = user_row_written known reading write

    records : (tablet : TabletRecord) → IsRecord later tablet → IsRecord reading tablet ⊎ IsNew known tablet
    records tablet (inl same) = inl (inl same)
    records tablet (inr (inl of)) = inl (inr (inl of))
    records tablet (inr (inr of)) = elim (record_cases known reading.users write.row fits.names fits.drawn tablet of) [ inl was ↦ inl (inr (inr was)) | inr is_new ↦ inr is_new ]

    draws : NamesDrawn known reading later
    draws = record {
      records = records;
      metadata_flags = λ path flagged. inl flagged;
      user_flags = flag_cases known reading.users write.row fits.drawn;
      metadata_candidates = λ path candidate. inl candidate;
      user_candidates = candidate_cases known reading.users write.row fits.drawn;
    }

    -- a chain that is the same is kept
    pub aside_kept : (id : List ℕ) (node : TableNode) → catalog.tables id ≡ Some node → is_deleting node.state ≡ false → (chain : List TabletRecord) → IsChain (reading.users.records id) chain → IsChain (user_rows_with reading write id) chain
        → (tablet : TabletRecord) → Contains chain tablet → IsTabletKept known id (user_rows_with reading write id) tablet
    aside_kept id node there stays chain was_chain is_chain tablet among =
        kept_moves known id (reading.users.records id) (user_rows_with reading write id) tablet ((chains_stand (reading.users.records id) (user_rows_with reading write id) chain was_chain is_chain).prev tablet among)
        (was_kept id node there stays chain was_chain tablet among)

    module _ (kept : (id : List ℕ) (node : TableNode) → catalog.tables id ≡ Some node → is_deleting node.state ≡ false → (chain : List TabletRecord) → IsChain (user_rows_with reading write id) chain
        → (tablet : TabletRecord) → Contains chain tablet → IsTabletKept known id (user_rows_with reading write id) tablet) where
      logged_before : AreLogged later catalog known
      logged_before table rows tablet log mutation of in_log past = by of.of
        where
          by : AreRowsOf later catalog table rows → Contains (logs_of tablet) log
          by (inl root) = is.logged table rows tablet log mutation (record { of = inl root; chain = of.chain; is_chain = of.is_chain; there = of.there }) in_log past
          by (inr (inl metadata)) = is.logged table rows tablet log mutation (record { of = inr (inl metadata); chain = of.chain; is_chain = of.is_chain; there = of.there }) in_log past
          by (inr (inr user)) =
              (kept table user.node user.there user.stays of.chain (subst (λ r. IsChain r of.chain) user.is of.is_chain) tablet of.there).logged log mutation in_log (subst (λ r. IsPastBar table r tablet mutation) user.is past)

      -- the tablet of `!0` that has the mutation's row names its log
      metadata_names : (rows : Rows) (tablet : TabletRecord) → IsChainTablet later catalog write.mutation.table rows tablet → holds_row rows tablet write.mutation.row ≡ true → Contains (logs_of tablet) write.log
      metadata_names rows tablet of holds = by of.of
        where
          by : AreRowsOf later catalog write.mutation.table rows → Contains (logs_of tablet) write.log
          by (inl root) = absurd (root_is_not_metadata (sym root.0 ∙ writes.table))
          by (inr (inl metadata)) =
              let is_chain = subst (λ r. IsChain r of.chain) metadata.1 of.is_chain in
              let one : of.chain ≡ reading.chain = one_chain_from (metadata_rows reading) None of.chain reading.chain is_chain is.stands.read.levels.chain in
              holder_names known (metadata_rows reading) reading.chain is.stands.read.levels.chain write.log write.mutation writes.stands tablet (subst (λ c. Contains c tablet) one of.there) (ap (λ r. holds_row r tablet write.mutation.row) (sym metadata.1) ∙ holds)
          by (inr (inr user)) = absurd (not_metadata catalog known reading state is.stands write.mutation.table user.node user.there writes.table)

      pub row_kept : StandsAs later catalog (row_written known write) state → IsKeptAs later catalog (row_written known write) state
      row_kept stands = record {
        stands = stands;
        names = names_after known reading later catalog draws is.names;
        ids = ids_appended later catalog known write.log write.mutation (λ user. metadata_is_no_user (subst IsUserTableId writes.table user)) (ids_after known reading later catalog draws is.ids);
        sessions = sessions_after known reading later catalog draws is.sessions;
        logged = logged_appended later catalog known write.log write.mutation logged_before metadata_names;
        removals = λ table rows tablet file cells cell of named told there removed. removal_by table rows tablet of of.of file cells cell named told there removed;
      }
        where
          removal_by : (table : List ℕ) (rows : Rows) (tablet : TabletRecord) (of : IsChainTablet later catalog table rows tablet) → AreRowsOf later catalog table rows → (file : FileEntry) (cells : List Cell) (cell : Cell)
              → Contains tablet.files file → file_cells known file ≡ Some cells → Contains cells cell → cell.value ≡ None → cell.time ≤ tablet.time
          removal_by table rows tablet of (inl root) file cells cell named told there removed =
              is.removals table rows tablet file cells cell (record { of = inl root; chain = of.chain; is_chain = of.is_chain; there = of.there }) named told there removed
          removal_by table rows tablet of (inr (inl metadata)) file cells cell named told there removed =
              is.removals table rows tablet file cells cell (record { of = inr (inl metadata); chain = of.chain; is_chain = of.is_chain; there = of.there }) named told there removed
          removal_by table rows tablet of (inr (inr user)) file cells cell named told there removed =
              (kept table user.node user.there user.stays of.chain (subst (λ r. IsChain r of.chain) user.is of.is_chain) tablet of.there).removals file cells cell named told there removed
