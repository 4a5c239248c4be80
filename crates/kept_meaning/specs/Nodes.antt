-- Nodes alone are changed: a number is drawn, or a table comes ONLINE.
use Rattle.std.specs.Prelude.{◌≡◌, ◌≢◌, ℕ, ◌≤◌, false, if◌then◌else◌, List, [], ◌++◌, codes, Some}
use Rattle.std.specs.List.{list_any}
use Rattle.std.specs.FinMap as map
use Rattle.plain_model.specs.State.{Table, PlainState, with_points}
use Rattle.plain_model.specs.Apply.{has_name}
use Rattle.metadata_schema.specs.declared.tablet.TabletRecord.{TabletRecord}
use Rattle.metadata_schema.specs.Bytes.{same}
use Rattle.level_rows.specs.Chain.{Rows, IsChain}
use Rattle.node_store.specs.Nodes.{Nodes}
use Rattle.store_layout.specs.declared.tables.Mark.TheVariants.{Free}
use Rattle.store_layout.specs.declared.tables.TableNode.{TableNode}
use Rattle.store_layout.specs.declared.tables.TableState.TheVariants.{New, Online}
use Rattle.store_layout.specs.Nodes.{IsNext, next_name_path, next_table_path, next_session_path}
use Rattle.store_layout.specs.Tables.{Catalog, table_path, IsTableAt}
use Rattle.store_meaning.specs.Ground.{Ground}
use Rattle.store_meaning.specs.Content.{contents_of}
use Rattle.store_meaning.specs.Levels.{Reading}
use Rattle.store_meaning.specs.NodesAside.{AgreeAside}
use Rattle.store_meaning.specs.Stands.{is_ending, TableStands}

-- ---- nodes beside

-- the counter stands there still, and no lower
abbrev pub IsNoLower : List ℕ → Nodes → Nodes → Type 0
IsNoLower path old new = (number : ℕ) → IsNext old path number → (next : ℕ) × IsNext new path next × (number ≤ next)

-- The same root record, logs, sorted logs, candidates and servers; and no counter is lower.
pub record AgreeBeside (old new : Nodes) : Type 0 where
  pub aside : AgreeAside old new
  pub candidates : (name : List ℕ) → map.get new (codes "/gc/" ++ name) ≡ map.get old (codes "/gc/" ++ name)
  pub servers : (server : List ℕ) → map.get new (codes "/servers/" ++ server) ≡ map.get old (codes "/servers/" ++ server)
  pub names : IsNoLower next_name_path old new
  pub ids : IsNoLower next_table_path old new
  pub sessions : IsNoLower next_session_path old new

-- and no table's and no staged file's node changes, as when a number is drawn
pub record DrawsNumber (old new : Nodes) : Type 0 where
  pub beside : AgreeBeside old new
  pub tables : (id : List ℕ) → map.get new (table_path id) ≡ map.get old (table_path id)
  pub staged : (name : List ℕ) → map.get new (codes "/staged/" ++ name) ≡ map.get old (codes "/staged/" ++ name)

-- the path of a counter
abbrev pub IsCounterPath : List ℕ → Type 0
IsCounterPath path = (rest : List ℕ) × (path ≡ codes "/next/" ++ rest)

-- one counter stands no lower, and no other node changes
pub record RaisesCounter (old new : Nodes) (path : List ℕ) : Type 0 where
  pub of : IsCounterPath path
  pub raised : IsNoLower path old new
  pub others : (other : List ℕ) → other ≢ path → map.get new other ≡ map.get old other

-- ---- a table comes ONLINE

-- the node once the table is ONLINE
abbrev pub online_node : TableNode → TableNode
online_node node = record node { state = Online }

-- the tables with this one ONLINE
abbrev pub catalog_with : Catalog → List ℕ → TableNode → Catalog
catalog_with catalog id node = record catalog { tables = λ other. if same other id then Some (online_node node) else catalog.tables other }

-- the node of a NEW table is set to ONLINE, and no other node changes
pub record SetsOnline (known : Ground) (catalog : Catalog) (nodes : Nodes) (id : List ℕ) (node : TableNode) : Type 0 where
  pub there : catalog.tables id ≡ Some node
  pub new : node.state ≡ New
  pub others : (path : List ℕ) → path ≢ table_path id → map.get nodes path ≡ map.get known.nodes path
  pub set : IsTableAt nodes id (online_node node)

-- Its node is set so. Its rows stand for this table, and no table has its name.
pub record MakesOnline (known : Ground) (reading : Reading) (catalog : Catalog) (state : PlainState) (nodes : Nodes) (id : List ℕ) (node : TableNode) (table : Table) : Type 0 where
  pub sets : SetsOnline known catalog nodes id node
  pub stands : TableStands known (reading.users.records id) (online_node node) table
  pub named : (other : List ℕ) (another : Table) → map.get state.tables other ≡ Some another → another.name ≢ node.name

-- ---- a new table is made

-- the chain ends at these rows, and at no others but the last
abbrev pub EndsAt : List TabletRecord → List (List ℕ) → Type 0
EndsAt chain splits = (row : List ℕ) → list_any (is_ending row) chain ≡ list_any (same row) splits

-- the plain map's new table
abbrev pub new_table : List ℕ → List (List ℕ) → Table
new_table name splits = record { name = name; points = with_points splits map.empty; pairs = map.empty }

-- The rows of a table have a chain that ends at these rows, there are no cells in it, and nothing is marked.
pub record IsEmptyTable (known : Ground) (rows : Rows) (node : TableNode) (splits : List (List ℕ)) : Type 0 where
  pub chain : List TabletRecord
  pub is_chain : IsChain rows chain
  pub ends : EndsAt chain splits
  pub empty : contents_of known rows chain ≡ Some []
  pub free : node.mark ≡ Free

-- Its node is set so. It is empty, and no table has its name.
pub record CreatesTable (known : Ground) (reading : Reading) (catalog : Catalog) (state : PlainState) (nodes : Nodes) (id : List ℕ) (node : TableNode) (splits : List (List ℕ)) : Type 0 where
  pub sets : SetsOnline known catalog nodes id node
  pub empty : IsEmptyTable known (reading.users.records id) node splits
  pub free_name : has_name node.name state ≡ false
