-- The node of the root record is set: the state, and what is kept.
use Rattle.std.proofs.Common.{◌≡◌, ◌≢◌, ◌⊎◌, inl, inr, ℕ, ◌≤◌, List, [], ◌∷◌, ◌++◌, codes, Option, Some, None, Contains, refl, ◌∙◌, ap, subst, arith}
use Rattle.std.specs.FinMap as map_of
use Rattle.plain_model.specs.State.{PlainState}
use Rattle.metadata_schema.specs.declared.mutation.Mutation.{Mutation}
use Rattle.metadata_schema.specs.declared.tablet.FileEntry.{FileEntry}
use Rattle.metadata_schema.specs.declared.tablet.TabletRecord.{TabletRecord}
use Rattle.cell_merge.specs.declared.cell.Cell.{Cell}
use Rattle.level_rows.specs.Chain.{Rows, IsChain, IsChainFrom, GoesOn, rows_of, effective_prev}
use Rattle.level_rows.proofs.Membership.{Contains-nil, Contains-here, Contains-cons_cases}
use Rattle.level_rows.proofs.WayLemmas.{one_chain_from}
use Rattle.node_store.specs.Nodes.{Nodes}
use Rattle.store_layout.specs.Nodes.{root_path}
use Rattle.store_layout.specs.Tables.{Catalog, TellsTable, TellsStaged, table_path}
use Rattle.store_layout.specs.declared.tables.TableNode.{TableNode}
use Rattle.store_meaning.specs.Ground.{Ground, with_nodes}
use Rattle.store_meaning.specs.Content.{file_cells, logs_of}
use Rattle.store_meaning.specs.Levels.{Reading, root_id, root_rows}
use Rattle.store_meaning.specs.InUse.{IsRecord}
use Rattle.store_meaning.specs.RowWrites.{root_written}
use Rattle.store_meaning.specs.Stands.{StandsAs}
use Rattle.store_meaning.specs.Kept.{AreRowsOf, IsChainTablet, IsInSomeLog, IsPastBar, IsKeptAs}
use Rattle.store_meaning.proofs.NamingLemmas.{root_read}
use Rattle.store_meaning.proofs.NewState.{second_byte}
use Rattle.kept_meaning.specs.Nodes.{IsNoLower}
use Rattle.kept_meaning.specs.Rows.{IsTabletKept}
use Rattle.kept_meaning.specs.UpperRows.{WritesRootKept}
use Rattle.kept_meaning.proofs.LaterLemmas.{IsNew, NamesDrawn, names_after, ids_after, sessions_after}
use Rattle.kept_meaning.proofs.NodeLemmas.{IsWithin, NodesStay, in_log_before, names_still, ids_still, sessions_still, table_still, staged_still}

-- a tablet alone has no lower bound
pub lone_prev : (rows : Rows) (tablet : TabletRecord) → IsChain rows (tablet ∷ []) → effective_prev rows tablet ≡ None
lone_prev rows tablet is_chain = by (effective_prev rows tablet) is_chain.2
  where
    by : (low : Option (List ℕ)) → GoesOn low None (◌≡◌ {A = List TabletRecord} [] []) (λ row. IsChainFrom rows (Some row) []) → low ≡ None
    by None last = refl
    by (Some row) more = absurd more.1

module _ (reading : Reading) (catalog : Catalog) (known : Ground) (state : PlainState) (nodes : Nodes) (root : TabletRecord) (change : WritesRootKept known reading nodes root) where
  abbrev later : Reading
  later = root_written known reading root

  counter_stays : (path : List ℕ) → path ≢ root_path → IsNoLower path known.nodes nodes
  counter_stays path apart number is = (number, record { node = is.node; there = change.writes.others path apart ∙ is.there; value = is.value }, omega arith)

  stay : NodesStay known.nodes nodes
  stay = record {
    logs = λ session. change.writes.others _ (λ e. (let at : ◌≡◌ {A = ℕ} 108 114 = ap second_byte e in omega (arith, at)));
    sorted = λ log. change.writes.others _ (λ e. (let at : ◌≡◌ {A = ℕ} 115 114 = ap second_byte e in omega (arith, at)));
    candidates = λ name. change.writes.others _ (λ e. (let at : ◌≡◌ {A = ℕ} 103 114 = ap second_byte e in omega (arith, at)));
    servers = λ server. change.writes.others _ (λ e. (let at : ◌≡◌ {A = ℕ} 115 114 = ap second_byte e in omega (arith, at)));
    names = counter_stays _ (λ e. (let at : ◌≡◌ {A = ℕ} 110 114 = ap second_byte e in omega (arith, at)));
    ids = counter_stays _ (λ e. (let at : ◌≡◌ {A = ℕ} 110 114 = ap second_byte e in omega (arith, at)));
    sessions = counter_stays _ (λ e. (let at : ◌≡◌ {A = ℕ} 110 114 = ap second_byte e in omega (arith, at)));
  }

  table_there : (id : List ℕ) (found : Option TableNode) → TellsTable known.nodes id found → TellsTable nodes id found
  table_there id found = by found
    where
      stays : map_of.get nodes (table_path id) ≡ map_of.get known.nodes (table_path id)
      stays = change.writes.others _ (λ e. (let at : ◌≡◌ {A = ℕ} 116 114 = ap second_byte e in omega (arith, at)))

      by : (found : Option TableNode) → TellsTable known.nodes id found → TellsTable nodes id found
      by None none = stays ∙ none
      by (Some table) at = record { node = at.node; there = stays ∙ at.there; value = at.value; id_is = at.id_is; form = at.form }

  staged_there : (name : List ℕ) (found : Option (List ℕ)) → TellsStaged known.nodes name found → TellsStaged nodes name found
  staged_there name found = by found
    where
      stays : map_of.get nodes (codes "/staged/" ++ name) ≡ map_of.get known.nodes (codes "/staged/" ++ name)
      stays = change.writes.others _ (λ e. (let at : ◌≡◌ {A = ℕ} 115 114 = ap second_byte e in omega (arith, at)))

      by : (found : Option (List ℕ)) → TellsStaged known.nodes name found → TellsStaged nodes name found
      by None none = stays ∙ none
      by (Some path) at = record { node = at.node; there = stays ∙ at.there; value = at.value; name_form = at.name_form; path_form = at.path_form }

  pub root_stands : StandsAs reading catalog known state → StandsAs later catalog (with_nodes known nodes) state
  root_stands is = record {
    read = root_read known reading is.read nodes root change.writes change.names;
    nodes = record { tables = λ id. table_there id (catalog.tables id) (is.nodes.tables id); staged = λ name. staged_there name (catalog.staged name) (is.nodes.staged name) };
    marked = is.marked;
    tables = λ id. table_still known nodes (reading.users.records id) (catalog.tables id) (map_of.get state.tables id) (is.tables id);
    staged = λ name. staged_still known nodes (catalog.staged name) (map_of.get state.staged name) (is.staged name);
    names = is.names;
  }

  -- ---- kept

  module _ (is : IsKeptAs reading catalog known state) where
    records : (tablet : TabletRecord) → IsRecord later tablet → IsRecord reading tablet ⊎ IsNew known tablet
    records tablet (inl same) = inr (subst (IsNew known) same (record { names = change.names; drawn = change.drawn }))
    records tablet (inr more) = inl (inr more)

    draws : NamesDrawn known reading later
    draws = record {
      records = records;
      metadata_flags = λ path flagged. inl flagged;
      user_flags = λ path flagged. inl flagged;
      metadata_candidates = λ path candidate. inl candidate;
      user_candidates = λ path candidate. inl candidate;
    }

    within : IsWithin catalog catalog
    within = record { tables = λ id node there. (node, there, λ stays. stays); files = λ path of. of }

    root_was_kept : IsTabletKept known root_id (root_rows reading) reading.root
    root_was_kept =
        let of : IsChainTablet reading catalog root_id (root_rows reading) reading.root = record { of = inl (refl, refl); chain = reading.root ∷ []; is_chain = is.stands.read.levels.root_chain; there = Contains-here reading.root [] } in
        record {
          logged = λ log mutation in_log past. is.logged root_id (root_rows reading) reading.root log mutation of in_log past;
          removals = λ file cells cell named told in_it removed. is.removals root_id (root_rows reading) reading.root file cells cell of named told in_it removed;
        }

    -- the tablet of the new chain of `+r` is kept
    now_kept : (rows : Rows) (tablet : TabletRecord) (tablets : List TabletRecord) → rows ≡ rows_of root_id (root ∷ []) → IsChain rows tablets → Contains tablets tablet → IsTabletKept known root_id (rows_of root_id (root ∷ [])) tablet
    now_kept rows tablet tablets same is_chain among =
        let one : tablets ≡ root ∷ [] = one_chain_from (rows_of root_id (root ∷ [])) None tablets (root ∷ []) (subst (λ r. IsChain r tablets) same is_chain) change.writes.is_chain in
        elim (Contains-cons_cases root tablet [] (subst (λ c. Contains c tablet) one among)) [
          | inl at ↦ subst (IsTabletKept known root_id (rows_of root_id (root ∷ []))) at (change.kept root_was_kept)
          | inr none ↦ absurd (Contains-nil tablet none)
        ]

    before : (table : List ℕ) (rows : Rows) (tablet : TabletRecord) (of : IsChainTablet later catalog table rows tablet) → AreRowsOf reading catalog table rows → IsChainTablet reading catalog table rows tablet
    before table rows tablet of rows_are = record { of = rows_are; chain = of.chain; is_chain = of.is_chain; there = of.there }

    logged_now : (table : List ℕ) (rows : Rows) (tablet : TabletRecord) (of : IsChainTablet later catalog table rows tablet) → AreRowsOf later catalog table rows → (log : List ℕ) (mutation : Mutation) → IsInSomeLog known log mutation → IsPastBar table rows tablet mutation → Contains (logs_of tablet) log
    logged_now table rows tablet of (inl at) log mutation in_log past = (now_kept rows tablet of.chain at.1 of.is_chain of.there).logged log mutation in_log
        (subst (λ t. IsPastBar t (rows_of root_id (root ∷ [])) tablet mutation) at.0 (subst (λ r. IsPastBar table r tablet mutation) at.1 past))
    logged_now table rows tablet of (inr (inl metadata)) log mutation in_log past = is.logged table rows tablet log mutation (before table rows tablet of (inr (inl metadata))) in_log past
    logged_now table rows tablet of (inr (inr user)) log mutation in_log past =
        is.logged table rows tablet log mutation (before table rows tablet of (inr (inr (record { node = user.node; there = user.there; stays = user.stays; is = user.is })))) in_log past

    removals_now : (table : List ℕ) (rows : Rows) (tablet : TabletRecord) (of : IsChainTablet later catalog table rows tablet) → AreRowsOf later catalog table rows → (file : FileEntry) (cells : List Cell) (cell : Cell)
        → Contains tablet.files file → file_cells known file ≡ Some cells → Contains cells cell → cell.value ≡ None → cell.time ≤ tablet.time
    removals_now table rows tablet of (inl at) file cells cell named told there removed = (now_kept rows tablet of.chain at.1 of.is_chain of.there).removals file cells cell named told there removed
    removals_now table rows tablet of (inr (inl metadata)) file cells cell named told there removed = is.removals table rows tablet file cells cell (before table rows tablet of (inr (inl metadata))) named told there removed
    removals_now table rows tablet of (inr (inr user)) file cells cell named told there removed =
        is.removals table rows tablet file cells cell (before table rows tablet of (inr (inr (record { node = user.node; there = user.there; stays = user.stays; is = user.is })))) named told there removed

    pub root_kept : IsKeptAs later catalog (with_nodes known nodes) state
    root_kept = record {
      stands = root_stands is.stands;
      names = names_still known nodes stay later catalog catalog within (names_after known reading later catalog draws is.names);
      ids = ids_still known nodes stay later catalog catalog within (ids_after known reading later catalog draws is.ids);
      sessions = sessions_still known nodes stay later (sessions_after known reading later catalog draws is.sessions);
      logged = λ table rows tablet log mutation of there past. logged_now table rows tablet of of.of log mutation (in_log_before known nodes stay log mutation there) past;
      removals = λ table rows tablet file cells cell of named told there removed. removals_now table rows tablet of of.of file cells cell named told there removed;
    }
