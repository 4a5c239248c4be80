-- The plain state for which an image stands.
use Rattle.std.specs.Prelude.{◌≡◌, ℕ, Bool, true, false, List, Option, Some, None, MatchBool}
use Rattle.std.specs.FinMap as map
use Rattle.std.specs.List.{list_any}
use Rattle.host_model.specs.Picture.{Image}
use Rattle.row_keys.specs.declared.key.Key.{Key}
use Rattle.plain_model.specs.State.{PairMap, Table, PlainState, has_point}
use Rattle.plain_model.specs.Laws.{AreNamedApart}
use Rattle.metadata_schema.specs.declared.tablet.TabletRecord.{TabletRecord}
use Rattle.cell_merge.specs.declared.cell.Cell.{Cell}
use Rattle.cell_merge.specs.Newest.{newest_at}
use Rattle.level_rows.specs.Chain.{Rows, IsChain, same_end}
use Rattle.store_layout.specs.declared.tables.TableNode.{TableNode}
use Rattle.store_layout.specs.declared.tables.TableState.{TableState}
use Rattle.store_layout.specs.declared.tables.TableState.TheVariants.{New, Online, Deleting}
use Rattle.store_layout.specs.Tables.{Catalog, IsCatalogOf}
use Rattle.store_meaning.specs.Ground.{Ground, IsGroundOf}
use Rattle.store_meaning.specs.Content.{contents_of}
use Rattle.store_meaning.specs.Levels.{Reading}
use Rattle.store_meaning.specs.Readable.{IsTold, HaveConsistentTablets, IsReadAs}
use Rattle.store_meaning.specs.Marked.{IsMarkedFile, layers_of, layered}

-- ---- tables

-- a user's tables are the ONLINE ones
abbrev pub is_online : TableState → Bool
is_online New = false
is_online Online = true
is_online Deleting = false

-- the tablet ends at this row
abbrev pub is_ending : List ℕ → TabletRecord → Bool
is_ending row tablet = same_end tablet.end (Some row)

-- The table stands so in the state: it has a chain, all of whose files and logs are told, and no two different cells of a
-- tablet agree in key and time. Its split points are the end rows, and each key has the newest of all cells, with the layers of an import mark over it.
pub record TableStands (known : Ground) (rows : Rows) (node : TableNode) (table : Table) : Type 0 where
  pub chain : List TabletRecord
  pub is_chain : IsChain rows chain
  pub cells : List Cell
  pub content : contents_of known rows chain ≡ Some cells
  pub consistent : HaveConsistentTablets known rows chain
  pub layers : List (List Cell)
  pub brought : layers_of known rows chain node.mark ≡ Some layers
  pub name : table.name ≡ node.name
  pub points : (row : List ℕ) → has_point table.points row ≡ list_any (is_ending row) chain
  pub pairs : (key : Key) → map.get table.pairs key ≡ layered layers key (newest_at cells key)

-- the table is in the state, and stands so
pub record IsTableOf (known : Ground) (rows : Rows) (node : TableNode) (there : Option Table) : Type 0 where
  pub table : Table
  pub is : there ≡ Some table
  pub stands : TableStands known rows node table

-- a table is in the state where it has a node and is ONLINE
abbrev pub TableAt : Ground → Rows → Option TableNode → Option Table → Type 0
TableAt known rows None there = there ≡ None
TableAt known rows (Some node) there = MatchBool (is_online node.state) (IsTableOf known rows node there) (there ≡ None)

-- ---- staged files

-- the file is staged in the state, with the newest of its cells
pub record IsStagedOf (known : Ground) (path : List ℕ) (there : Option PairMap) : Type 0 where
  pub staged : PairMap
  pub is : there ≡ Some staged
  pub cells : List Cell
  pub told : known.cells_of path ≡ Some cells
  pub pairs : (key : Key) → map.get staged key ≡ newest_at cells key

-- a file is staged in the state where it has a node
abbrev pub StagedAt : Ground → Option (List ℕ) → Option PairMap → Type 0
StagedAt known None there = there ≡ None
StagedAt known (Some path) there = IsStagedOf known path there

-- ---- the state

-- So read, with these nodes of tables and staged files, the ground stands for the state.
pub record StandsAs (reading : Reading) (catalog : Catalog) (known : Ground) (state : PlainState) : Type 0 where
  pub read : IsReadAs reading known
  pub nodes : IsCatalogOf known.nodes catalog
  pub marked : (path : List ℕ) → IsMarkedFile catalog path → IsTold (known.cells_of path)
  pub tables : (id : List ℕ) → TableAt known (reading.users.records id) (catalog.tables id) (map.get state.tables id)
  pub staged : (name : List ℕ) → StagedAt known (catalog.staged name) (map.get state.staged name)
  pub names : AreNamedApart state

-- a ground of the image stands for the state
pub record StandsFor (image : Image) (state : PlainState) : Type 0 where
  pub known : Ground
  pub of : IsGroundOf image known
  pub reading : Reading
  pub catalog : Catalog
  pub stands : StandsAs reading catalog known state
