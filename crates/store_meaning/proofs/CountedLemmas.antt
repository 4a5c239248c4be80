-- Grounds that agree on all that counts stand for the same states, and are kept alike.
use Rattle.std.proofs.Common.{◌≡◌, inl, inr, ℕ, Bool, true, false, List, [], ◌∷◌, Option, Some, None, Contains, filter, refl, sym, ◌∙◌, ap, subst, map}
use Rattle.std.specs.Prelude.{MatchBool}
use Rattle.std.specs.FinMap as map_of
use Rattle.std.specs.Option.{option_map}
use Rattle.plain_model.specs.State.{PairMap, Table, PlainState}
use Rattle.metadata_schema.specs.declared.mutation.Mutation.{Mutation}
use Rattle.metadata_schema.specs.declared.tablet.TabletRecord.{TabletRecord}
use Rattle.level_rows.specs.Chain.{Rows, IsChain}
use Rattle.level_rows.proofs.WayLemmas.{row_of}
use Rattle.level_rows.proofs.LookupLemmas.{row-there}
use Rattle.level_rows.proofs.Membership.{Contains-nil, Contains-cons_cases}
use Rattle.store_layout.specs.declared.tables.TableNode.{TableNode}
use Rattle.store_layout.specs.Nodes.{IsNext, next_table_path}
use Rattle.store_layout.specs.Tables.{Catalog, IsCatalogOf}
use Rattle.store_meaning.specs.Ground.{Ground}
use Rattle.store_meaning.specs.Content.{timed}
use Rattle.store_meaning.specs.Levels.{Reading, root_rows, metadata_rows, root_id, metadata_id}
use Rattle.store_meaning.specs.InUse.{IsRecord, IsListedLog}
use Rattle.store_meaning.specs.Readable.{IsTold}
use Rattle.store_meaning.specs.Marked.{mark_paths, is_lacking, cells_within, layer_of, layers_of, IsFileCounted, AgreeWhereCounted}
use Rattle.store_meaning.specs.Stands.{is_online, TableStands, IsTableOf, TableAt, StagedAt, StandsAs}
use Rattle.store_meaning.specs.Kept.{AreNamesDrawn, IsInSomeLog, AreSessionsDrawn, AreRowsOf, IsChainTablet, IsKeptAs}
use Rattle.store_meaning.proofs.UseLemmas.{all_told_same, contents_same, tablets_same, read_same, agree_back}

-- a chain's records are of their level
user_records : (reading : Reading) (id : List ℕ) (chain : List TabletRecord) → IsChain (reading.users.records id) chain → (tablet : TabletRecord) → Contains chain tablet → IsRecord reading tablet
user_records reading id chain is tablet there = inr (inr (record { table = id; end = tablet.end; there = row_of (reading.users.records id) None chain tablet is there }))

-- `+r` has one record
root_of : (reading : Reading) (tablet : TabletRecord) (end : Option (List ℕ)) → root_rows reading end ≡ Some tablet → reading.root ≡ tablet
root_of reading tablet end found = elim (Contains-cons_cases reading.root tablet [] (row-there root_id (reading.root ∷ []) end tablet found).0) [
  | inl is ↦ is
  | inr none ↦ absurd (Contains-nil tablet none)
]

-- a tablet of a chain that counts is a record
pub chain_record : (reading : Reading) (catalog : Catalog) (table : List ℕ) (rows : Rows) (tablet : TabletRecord) → IsChainTablet reading catalog table rows tablet → IsRecord reading tablet
chain_record reading catalog table rows tablet is = by is.of
  where
    at_end : (other : Rows) → rows ≡ other → other tablet.end ≡ Some tablet
    at_end other same = ap (λ r. r tablet.end) (sym same) ∙ row_of rows None is.chain tablet is.is_chain is.there

    by : AreRowsOf reading catalog table rows → IsRecord reading tablet
    by (inl root) = inl (root_of reading tablet tablet.end (at_end (root_rows reading) root.1))
    by (inr (inl metadata)) = inr (inl (record { table = metadata_id; end = tablet.end; there = at_end (metadata_rows reading) metadata.1 }))
    by (inr (inr user)) = inr (inr (record { table = table; end = tablet.end; there = at_end (reading.users.records table) user.is }))

module _ (reading : Reading) (catalog : Catalog) (old new : Ground) (agree : AgreeWhereCounted reading catalog old new) where
  -- ---- the state

  layers_same : (id : List ℕ) (node : TableNode) (rows : Rows) (chain : List TabletRecord) → catalog.tables id ≡ Some node → layers_of new rows chain node.mark ≡ layers_of old rows chain node.mark
  layers_same id node rows chain there =
      let lacking = filter (is_lacking node.mark) chain in
      all_told_same (layer_of old rows lacking) (layer_of new rows lacking) (mark_paths node.mark)
      (λ path marked. ap (option_map (λ cells. cells_within rows lacking cells ∷ [])) (agree.of_nodes path (inl (record { id = id; table = node; there = there; marked = marked }))))

  table_same : (id : List ℕ) (node : TableNode) (table : Table) → catalog.tables id ≡ Some node → TableStands old (reading.users.records id) node table → TableStands new (reading.users.records id) node table
  table_same id node table there is = record {
    chain = is.chain;
    is_chain = is.is_chain;
    cells = is.cells;
    content = contents_same reading old new agree.in_use (reading.users.records id) is.chain (user_records reading id is.chain is.is_chain) ∙ is.content;
    consistent = tablets_same reading old new agree.in_use (reading.users.records id) is.chain (user_records reading id is.chain is.is_chain) is.consistent;
    layers = is.layers;
    brought = layers_same id node (reading.users.records id) is.chain there ∙ is.brought;
    name = is.name;
    points = is.points;
    pairs = is.pairs;
  }

  tables_same : (id : List ℕ) (node : Option TableNode) (table : Option Table) → catalog.tables id ≡ node → TableAt old (reading.users.records id) node table → TableAt new (reading.users.records id) node table
  tables_same id None table there is = is
  tables_same id (Some node) table there is = by (is_online node.state) is
    where
      by : (b : Bool) → MatchBool b (IsTableOf old (reading.users.records id) node table) (table ≡ None) → MatchBool b (IsTableOf new (reading.users.records id) node table) (table ≡ None)
      by true one = record { table = one.table; is = one.is; stands = table_same id node one.table there one.stands }
      by false none = none

  staged_same : (name : List ℕ) (path : Option (List ℕ)) (staged : Option PairMap) → catalog.staged name ≡ path → StagedAt old path staged → StagedAt new path staged
  staged_same name None staged there is = is
  staged_same name (Some path) staged there is = record { staged = is.staged; is = is.is; cells = is.cells; told = agree.of_nodes path (inr (record { name = name; there = there })) ∙ is.told; pairs = is.pairs }

  pub stands_same : (state : PlainState) → StandsAs reading catalog old state → StandsAs reading catalog new state
  stands_same state is = record {
    read = read_same reading old new agree.in_use is.read;
    nodes = subst (λ nodes. IsCatalogOf nodes catalog) (sym agree.in_use.nodes) is.nodes;
    marked = λ path marked. subst IsTold (sym (agree.of_nodes path (inl marked))) (is.marked path marked);
    tables = λ id. tables_same id (catalog.tables id) (map_of.get state.tables id) refl (is.tables id);
    staged = λ name. staged_same name (catalog.staged name) (map_of.get state.staged name) refl (is.staged name);
    names = is.names;
  }

  -- ---- kept

  in_log_before : (log : List ℕ) (mutation : Mutation) → IsInSomeLog new log mutation → IsInSomeLog old log mutation
  in_log_before log mutation is =
      let listed = subst (λ nodes. IsListedLog nodes log) agree.in_use.nodes is.listed in
      record { listed = listed; mutations = is.mutations; told = sym (agree.in_use.mutations log (inr (inl listed))) ∙ is.told; there = is.there }

  pub kept_same : (state : PlainState) → IsKeptAs reading catalog old state → IsKeptAs reading catalog new state
  kept_same state is = record {
    stands = stands_same state is.stands;
    names = subst (AreNamesDrawn reading catalog) (sym agree.in_use.nodes) is.names;
    ids = record {
      next = is.ids.next;
      counter = subst (λ nodes. IsNext nodes next_table_path is.ids.next) (sym agree.in_use.nodes) is.ids.counter;
      tables = is.ids.tables;
      records = is.ids.records;
      mutations = λ log mutation there. is.ids.mutations log mutation (in_log_before log mutation there);
    };
    sessions = subst (AreSessionsDrawn reading) (sym agree.in_use.nodes) is.sessions;
    logged = λ table rows tablet log mutation of there past. is.logged table rows tablet log mutation of (in_log_before log mutation there) past;
    removals = λ table rows tablet file cells cell of named told there removed.
        is.removals table rows tablet file cells cell of named
        (ap (option_map (map (timed file.time))) (sym (agree.in_use.cells file.path (inl (record { tablet = tablet; of = chain_record reading catalog table rows tablet of; file = file; there = named; is = refl })))) ∙ told)
        there removed;
  }

-- they agree the other way round, too
pub counted_back : (reading : Reading) (catalog : Catalog) (old new : Ground) → AgreeWhereCounted reading catalog old new → AgreeWhereCounted reading catalog new old
counted_back reading catalog old new agree = record { in_use = agree_back reading old new agree.in_use; of_nodes = λ path named. sym (agree.of_nodes path named) }

-- every file that counts is told
pub told : (reading : Reading) (catalog : Catalog) (known : Ground) (state : PlainState) (path : List ℕ) → StandsAs reading catalog known state → IsFileCounted reading catalog path → IsTold (known.cells_of path)
told reading catalog known state path is (inl used) = is.read.in_use.files path used
told reading catalog known state path is (inr (inl marked)) = is.marked path marked
told reading catalog known state path is (inr (inr staged)) = of_staged (map_of.get state.staged staged.name) (subst (λ o. StagedAt known o (map_of.get state.staged staged.name)) staged.there (is.staged staged.name))
  where
    of_staged : (there : Option PairMap) → StagedAt known (Some path) there → IsTold (known.cells_of path)
    of_staged there one = record { value = one.cells; is = one.told }
