-- The tables and staged files of nodes, as lists.
use Rattle.std.specs.Prelude.{◌≡◌, ℕ, List, codes, Option, Some, Contains, find}
use Rattle.std.specs.Option.{option_map}
use Rattle.metadata_schema.specs.Bytes.{same}
use Rattle.node_store.specs.Nodes.{Nodes}
use Rattle.store_layout.specs.declared.tables.TableNode.{TableNode}
use Rattle.store_layout.specs.Tables.{Catalog}
use Rattle.store_meaning.specs.Ground.{Ground}
use Rattle.store_meaning.specs.Marked.{mark_paths}
use Rattle.table_names.specs.Marks.{AreByteBounds}
use Rattle.table_names.specs.Tables.{AreTablesAt}
use Rattle.table_names.specs.Staged.{AreStagedAt}
use Rattle.plain_state.specs.Paths.{paths_behind}
use Rattle.plain_state.specs.Records.{ArePathsTold}

-- the nodes under `/tables` are these tables', in byte order of their ids
abbrev pub AreAllTables : Nodes → List TableNode → Type 0
AreAllTables nodes tables = AreTablesAt nodes (paths_behind (codes "/tables/") nodes) tables

-- the nodes under `/staged` are these files', each a name and a path, in byte order of the names
abbrev pub AreAllFiles : Nodes → List (List ℕ × List ℕ) → Type 0
AreAllFiles nodes files = AreStagedAt nodes (paths_behind (codes "/staged/") nodes) files

-- the first of these tables with this id
abbrev pub table_of : List TableNode → List ℕ → Option TableNode
table_of tables id = find (λ table. same table.id id) tables

-- the first of these files with this name
abbrev pub file_of : List (List ℕ × List ℕ) → List ℕ → Option (List ℕ × List ℕ)
file_of files name = find (λ file. same file.0 name) files

-- its path
abbrev pub path_of : List (List ℕ × List ℕ) → List ℕ → Option (List ℕ)
path_of files name = option_map (λ file. file.1) (file_of files name)

-- the catalog of these lists
abbrev pub catalog_of : List TableNode → List (List ℕ × List ℕ) → Catalog
catalog_of tables files = record { tables = table_of tables; staged = path_of files }

-- the bounds of each table's mark are of bytes
pub record HasByteBounds (catalog : Catalog) : Type 0 where
  pub each : (id : List ℕ) (table : TableNode) → catalog.tables id ≡ Some table → AreByteBounds table.mark

-- the files that the marks of these tables name are told
pub record AreMarksTold (known : Ground) (tables : List TableNode) : Type 0 where
  pub each : (table : TableNode) → Contains tables table → ArePathsTold known (mark_paths table.mark)
