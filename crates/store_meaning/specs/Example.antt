-- A small store, to see the definitions at work: one table with one split, and one insert that is in a log alone.
use Rattle.std.specs.Prelude.{ℕ, false, if◌then◌else◌, List, [], ◌∷◌, ◌++◌, codes, Some, None}
use Rattle.std.specs.FinMap as map
use Rattle.std.specs.Fmt.{decimal}
use Rattle.row_keys.specs.declared.key.Key.{Key}
use Rattle.plain_model.specs.State.{PlainState, Table, with_point}
use Rattle.metadata_schema.specs.declared.mutation.Mutation.{Mutation}
use Rattle.metadata_schema.specs.declared.tablet.Holder.{Holder}
use Rattle.metadata_schema.specs.declared.tablet.TabletRecord.{TabletRecord}
use Rattle.metadata_schema.specs.Bytes.{same}
use Rattle.metadata_schema.specs.Records.{new_tablet}
use Rattle.cell_merge.specs.declared.cell.Cell.{Cell}
use Rattle.level_rows.specs.Chain.{rows_of}
use Rattle.node_store.specs.declared.changes.Node.{Node}
use Rattle.node_store.specs.Nodes.{Nodes}
use Rattle.store_layout.specs.declared.tables.TableState.TheVariants.{Online}
use Rattle.store_layout.specs.declared.tables.Mark.TheVariants.{Free}
use Rattle.store_layout.specs.declared.tables.TableNode.{TableNode}
use Rattle.store_layout.specs.NewStore.{table_info, last_metadata, record_cells}
use Rattle.store_layout.specs.Nodes.{instance_path, instance_value, root_path, root_value, next_table_path, next_transaction_path, next_name_path, next_session_path, next_lock_path}
use Rattle.store_layout.specs.Tables.{Catalog, table_path, table_value}
use Rattle.store_meaning.specs.Ground.{Ground}
use Rattle.store_meaning.specs.Levels.{Reading}

-- ---- the table's tablets, hosted by the server `a`

abbrev pub session : List ℕ
session = codes "0000000000000001"

abbrev pub log : List ℕ
log = codes "log-0000000000000001"

abbrev pub holder : Holder
holder = record { session = session; server = codes "a" }

-- the rows up to `m`
abbrev pub low : TabletRecord
low = record (new_tablet (codes "1") (Some (codes "m")) None (codes "t-0000003")) { loc = Some holder }

-- the rows above it
abbrev pub high : TabletRecord
high = record (new_tablet (codes "1") None (Some (codes "m")) (codes "default_tablet")) { loc = Some holder }

-- ---- one file of the metadata table, and one of the root tablet

abbrev pub tablets_path : List ℕ
tablets_path = codes "!0/table_info/F0000002.rf"

abbrev pub tablets_cells : List Cell
tablets_cells = record_cells low ++ record_cells high

abbrev pub info : TabletRecord
info = record table_info { time = 1; files = record { path = tablets_path; size = 290; entries = 8; time = None } ∷ [] }

abbrev pub levels_path : List ℕ
levels_path = codes "+r/root_tablet/A0000004.rf"

abbrev pub levels_cells : List Cell
levels_cells = record_cells info ++ record_cells last_metadata

abbrev pub root : TabletRecord
root = record (new_tablet (codes "+r") None None (codes "root_tablet")) { time = 1; files = record { path = levels_path; size = 275; entries = 7; time = None } ∷ [] }

-- ---- the insert, and the nodes

abbrev pub key : Key
key = record { row = codes "a"; family = codes "f"; qualifier = codes "q" }

abbrev pub insert : Mutation
insert = record { table = codes "1"; row = codes "a"; time = 1; updates = record { family = codes "f"; qualifier = codes "q"; value = Some (codes "v") } ∷ [] }

abbrev pub node : TableNode
node = record { id = codes "1"; name = codes "t"; state = Online; mark = Free }

-- a path with a value, as it was created
abbrev pub entry : List ℕ → List ℕ → List ℕ × Node
entry path value = (path, record { value = value; version = 0 })

abbrev pub entries : List (List ℕ × Node)
entries =
    entry instance_path instance_value ∷ entry root_path (root_value root)
    ∷ entry next_table_path (decimal 2) ∷ entry next_transaction_path (decimal 2) ∷ entry next_name_path (decimal 5) ∷ entry next_session_path (decimal 2) ∷ entry next_lock_path (decimal 2)
    ∷ entry (codes "/servers/a") session ∷ entry (codes "/logs/" ++ session) log ∷ entry (table_path (codes "1")) (table_value node) ∷ []

abbrev pub nodes : Nodes
nodes = map.from_entries entries

-- ---- the ground, what is read of it, and the state

abbrev pub ground_of_example : Ground
ground_of_example = record {
  nodes = nodes;
  cells_of = λ path. if same path levels_path then Some levels_cells else (if same path tablets_path then Some tablets_cells else None);
  mutations_of = λ name. if same name log then Some (insert ∷ []) else None;
  sorted_of = λ name. None;
}

abbrev pub reading : Reading
reading = record {
  root = root;
  root_cells = levels_cells;
  metadata = record { records = λ table. rows_of table (info ∷ last_metadata ∷ []); is_candidate = λ path. false; flag = λ path. None };
  chain = last_metadata ∷ info ∷ [];
  metadata_cells = tablets_cells;
  users = record { records = λ table. rows_of table (low ∷ high ∷ []); is_candidate = λ path. false; flag = λ path. None };
}

abbrev pub catalog : Catalog
catalog = record { tables = λ id. if same id (codes "1") then Some node else None; staged = λ name. None }

-- one table named `t`, split at `m`, with the one pair
abbrev pub table : Table
table = record { name = codes "t"; points = with_point map.empty (codes "m"); pairs = map.insert map.empty key (codes "v") }

abbrev pub state : PlainState
state = record { tables = map.insert map.empty (codes "1") table; staged = map.empty }
