-- Nodes alone are changed: what is kept, from what the tables stand for.
use Rattle.std.proofs.Common.{◌≡◌, ◌⊎◌, inl, inr, ℕ, Bool, true, false, List, ◌++◌, codes, Option, Some, None, sym, ◌∙◌, arith}
use Rattle.std.specs.Prelude.{MatchBool}
use Rattle.std.specs.FinMap as map_of
use Rattle.plain_model.specs.State.{PairMap, Table, PlainState}
use Rattle.metadata_schema.specs.declared.mutation.Mutation.{Mutation}
use Rattle.metadata_schema.specs.declared.tablet.TabletRecord.{TabletRecord}
use Rattle.level_rows.specs.Chain.{Rows}
use Rattle.node_store.specs.Nodes.{Nodes}
use Rattle.store_layout.specs.Nodes.{next_name_path, next_table_path, next_session_path}
use Rattle.store_layout.specs.Tables.{Catalog, TellsTable, TellsStaged}
use Rattle.store_layout.specs.declared.tables.TableNode.{TableNode}
use Rattle.store_meaning.specs.Ground.{Ground, with_nodes}
use Rattle.store_meaning.specs.Levels.{Reading}
use Rattle.store_meaning.specs.InUse.{IsLogInUse, IsListedLog}
use Rattle.store_meaning.specs.Marked.{IsFileOfNodes, IsFileCounted}
use Rattle.store_meaning.specs.Stands.{is_online, TableStands, IsTableOf, TableAt, StagedAt, StandsAs}
use Rattle.store_meaning.specs.Kept.{is_deleting, AreNamesDrawn, AreIdsDrawn, AreSessionsDrawn, AreRowsOf, IsCandidate, IsInSomeLog, IsChainTablet, IsServerSession, IsLogSession, IsHolderSession, IsKeptAs}
use Rattle.store_meaning.proofs.AsideLemmas.{read_aside}
use Rattle.kept_meaning.specs.Nodes.{IsNoLower, AgreeBeside, DrawsNumber}

-- a later catalog's tables and files are the earlier one's, and none comes back from being deleted
pub record IsWithin (old new : Catalog) : Type 0 where
  pub tables : (id : List ℕ) (node : TableNode) → new.tables id ≡ Some node → (was : TableNode) × (old.tables id ≡ Some was) × (is_deleting node.state ≡ false → is_deleting was.state ≡ false)
  pub files : (path : List ℕ) → IsFileOfNodes new path → IsFileOfNodes old path

-- ---- what is said of a ground doesn't speak of its nodes

module _ (known : Ground) (nodes : Nodes) where
  pub stands_still : (rows : Rows) (node : TableNode) (table : Table) → TableStands known rows node table → TableStands (with_nodes known nodes) rows node table
  stands_still rows node table is = record {
    chain = is.chain;
    is_chain = is.is_chain;
    cells = is.cells;
    content = is.content;
    consistent = is.consistent;
    layers = is.layers;
    brought = is.brought;
    name = is.name;
    points = is.points;
    pairs = is.pairs;
  }

  pub table_still : (rows : Rows) (found : Option TableNode) (there : Option Table) → TableAt known rows found there → TableAt (with_nodes known nodes) rows found there
  table_still rows None there none = none
  table_still rows (Some node) there is = by (is_online node.state) is
    where
      by : (b : Bool) → MatchBool b (IsTableOf known rows node there) (there ≡ None) → MatchBool b (IsTableOf (with_nodes known nodes) rows node there) (there ≡ None)
      by true one = record { table = one.table; is = one.is; stands = stands_still rows node one.table one.stands }
      by false none = none

  pub staged_still : (found : Option (List ℕ)) (there : Option PairMap) → StagedAt known found there → StagedAt (with_nodes known nodes) found there
  staged_still None there none = none
  staged_still (Some path) there one = record { staged = one.staged; is = one.is; cells = one.cells; told = one.told; pairs = one.pairs }

-- ---- kept

-- logs, candidates and servers have the same nodes, and no counter is lower
pub record NodesStay (old new : Nodes) : Type 0 where
  pub logs : (session : List ℕ) → map_of.get new (codes "/logs/" ++ session) ≡ map_of.get old (codes "/logs/" ++ session)
  pub sorted : (log : List ℕ) → map_of.get new (codes "/sorted/" ++ log) ≡ map_of.get old (codes "/sorted/" ++ log)
  pub candidates : (name : List ℕ) → map_of.get new (codes "/gc/" ++ name) ≡ map_of.get old (codes "/gc/" ++ name)
  pub servers : (server : List ℕ) → map_of.get new (codes "/servers/" ++ server) ≡ map_of.get old (codes "/servers/" ++ server)
  pub names : IsNoLower next_name_path old new
  pub ids : IsNoLower next_table_path old new
  pub sessions : IsNoLower next_session_path old new

module _ (known : Ground) (nodes : Nodes) (stay : NodesStay known.nodes nodes) where
  listed_before : (log : List ℕ) → IsListedLog nodes log → IsListedLog known.nodes log
  listed_before log listed = record { session = listed.session; node = listed.node; there = sym (stay.logs listed.session) ∙ listed.there; is = listed.is }

  pub in_log_before : (log : List ℕ) (mutation : Mutation) → IsInSomeLog (with_nodes known nodes) log mutation → IsInSomeLog known log mutation
  in_log_before log mutation there = record { listed = listed_before log there.listed; mutations = there.mutations; told = there.told; there = there.there }

  module _ (reading : Reading) (catalog later : Catalog) (within : IsWithin catalog later) where
    path_before : (path : List ℕ) → IsFileCounted reading later path ⊎ IsCandidate nodes reading path → IsFileCounted reading catalog path ⊎ IsCandidate known.nodes reading path
    path_before path (inl (inl used)) = inl (inl used)
    path_before path (inl (inr of_nodes)) = inl (inr (within.files path of_nodes))
    path_before path (inr (inl candidate)) = inr (inl candidate)
    path_before path (inr (inr (inl candidate))) = inr (inr (inl candidate))
    path_before path (inr (inr (inr listed))) = inr (inr (inr (record { node = listed.node; there = sym (stay.candidates _) ∙ listed.there })))

    pub names_still : AreNamesDrawn reading catalog known.nodes → AreNamesDrawn reading later nodes
    names_still is =
        let counter = stay.names is.next is.counter in
        let no_lower = counter.2 in
        record {
          next = counter.0;
          counter = counter.1;
          files = λ path used form. (let less = is.files path (path_before path used) form in omega (arith, less, no_lower));
          directories = λ tablet of text dir. (let less = is.directories tablet of text dir in omega (arith, less, no_lower));
        }

    pub ids_still : AreIdsDrawn reading catalog known → AreIdsDrawn reading later (with_nodes known nodes)
    ids_still is =
        let counter = stay.ids is.next is.counter in
        let no_lower = counter.2 in
        record {
          next = counter.0;
          counter = counter.1;
          tables = λ id node there. (let was = within.tables id node there in let less = is.tables id was.0 was.1 in omega (arith, less, no_lower));
          records = λ tablet of user. (let less = is.records tablet of user in omega (arith, less, no_lower));
          mutations = λ log mutation there user. (let less = is.mutations log mutation (in_log_before log mutation there) user in omega (arith, less, no_lower));
        }

  module _ (reading : Reading) where
    log_before : (log : List ℕ) → IsLogInUse nodes reading log → IsLogInUse known.nodes reading log
    log_before log (inl named) = inl named
    log_before log (inr (inl listed)) = inr (inl (listed_before log listed))
    log_before log (inr (inr sorted)) = inr (inr (record { node = sorted.node; there = sym (stay.sorted log) ∙ sorted.there }))

    session_before : (session : List ℕ) → IsServerSession nodes session ⊎ IsLogSession nodes session ⊎ IsHolderSession reading session → IsServerSession known.nodes session ⊎ IsLogSession known.nodes session ⊎ IsHolderSession reading session
    session_before session (inl server) = inl (record { server = server.server; node = server.node; there = sym (stay.servers server.server) ∙ server.there; is = server.is })
    session_before session (inr (inl log)) = inr (inl (record { node = log.node; there = sym (stay.logs session) ∙ log.there }))
    session_before session (inr (inr holder)) = inr (inr holder)

    pub sessions_still : AreSessionsDrawn reading known.nodes → AreSessionsDrawn reading nodes
    sessions_still is =
        let counter = stay.sessions is.next is.counter in
        let no_lower = counter.2 in
        record {
          next = counter.0;
          counter = counter.1;
          sessions = λ session used. (let less = is.sessions session (session_before session used) in omega (arith, less, no_lower));
          logs = λ log used form. (let less = is.logs log (log_before log used) form in omega (arith, less, no_lower));
        }

pub stay_beside : (old new : Nodes) → AgreeBeside old new → NodesStay old new
stay_beside old new beside = record {
  logs = beside.aside.logs;
  sorted = beside.aside.sorted;
  candidates = beside.candidates;
  servers = beside.servers;
  names = beside.names;
  ids = beside.ids;
  sessions = beside.sessions;
}

module _ (reading : Reading) (catalog later : Catalog) (known : Ground) (state next : PlainState) (nodes : Nodes) (beside : AgreeBeside known.nodes nodes) (within : IsWithin catalog later) (is : IsKeptAs reading catalog known state) where
  abbrev stay : NodesStay known.nodes nodes
  stay = stay_beside known.nodes nodes beside

  tablet_before : (table : List ℕ) (rows : Rows) (tablet : TabletRecord) → IsChainTablet reading later table rows tablet → IsChainTablet reading catalog table rows tablet
  tablet_before table rows tablet of = record { of = by of.of; chain = of.chain; is_chain = of.is_chain; there = of.there }
    where
      by : AreRowsOf reading later table rows → AreRowsOf reading catalog table rows
      by (inl root) = inl root
      by (inr (inl metadata)) = inr (inl metadata)
      by (inr (inr user)) = (let was = within.tables table user.node user.there in inr (inr (record { node = was.0; there = was.1; stays = was.2 user.stays; is = user.is })))

  pub nodes_kept : StandsAs reading later (with_nodes known nodes) next → IsKeptAs reading later (with_nodes known nodes) next
  nodes_kept stands = record {
    stands = stands;
    names = names_still known nodes stay reading catalog later within is.names;
    ids = ids_still known nodes stay reading catalog later within is.ids;
    sessions = sessions_still known nodes stay reading is.sessions;
    logged = λ table rows tablet log mutation of there past. is.logged table rows tablet log mutation (tablet_before table rows tablet of) (in_log_before known nodes stay log mutation there) past;
    removals = λ table rows tablet file cells cell of named told there removed. is.removals table rows tablet file cells cell (tablet_before table rows tablet of) named told there removed;
  }

-- ---- a number is drawn

module _ (reading : Reading) (catalog : Catalog) (known : Ground) (state : PlainState) (nodes : Nodes) (draws : DrawsNumber known.nodes nodes) where
  table_there : (id : List ℕ) (found : Option TableNode) → TellsTable known.nodes id found → TellsTable nodes id found
  table_there id None none = draws.tables id ∙ none
  table_there id (Some table) at = record { node = at.node; there = draws.tables id ∙ at.there; value = at.value; id_is = at.id_is; form = at.form }

  staged_there : (name : List ℕ) (found : Option (List ℕ)) → TellsStaged known.nodes name found → TellsStaged nodes name found
  staged_there name None none = draws.staged name ∙ none
  staged_there name (Some path) at = record { node = at.node; there = draws.staged name ∙ at.there; value = at.value; name_form = at.name_form; path_form = at.path_form }

  pub drawn_stands : StandsAs reading catalog known state → StandsAs reading catalog (with_nodes known nodes) state
  drawn_stands is = record {
    read = read_aside reading known nodes draws.beside.aside is.read;
    nodes = record { tables = λ id. table_there id (catalog.tables id) (is.nodes.tables id); staged = λ name. staged_there name (catalog.staged name) (is.nodes.staged name) };
    marked = is.marked;
    tables = λ id. table_still known nodes (reading.users.records id) (catalog.tables id) (map_of.get state.tables id) (is.tables id);
    staged = λ name. staged_still known nodes (catalog.staged name) (map_of.get state.staged name) (is.staged name);
    names = is.names;
  }

  pub drawn_kept : IsKeptAs reading catalog known state → IsKeptAs reading catalog (with_nodes known nodes) state
  drawn_kept is = nodes_kept reading catalog catalog known state state nodes draws.beside
      (record { tables = λ id node there. (node, there, λ stays. stays); files = λ path of. of }) is (drawn_stands is.stands)
