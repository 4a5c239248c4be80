-- Cells are put in a row of a user table: an insert or a removal.
use Rattle.std.specs.Prelude.{◌≡◌, ℕ, false, List, [], ◌∷◌, Some}
use Rattle.std.specs.Option.{option_map_or}
use Rattle.std.specs.FinMap as map
use Rattle.plain_model.specs.State.{PairMap, PlainState}
use Rattle.plain_model.specs.Apply.{put_table}
use Rattle.metadata_schema.specs.declared.mutation.Mutation.{Mutation}
use Rattle.metadata_schema.specs.declared.tablet.TabletRecord.{TabletRecord}
use Rattle.cell_merge.specs.declared.cell.Cell.{Cell}
use Rattle.store_layout.specs.declared.tables.TableNode.{TableNode}
use Rattle.store_layout.specs.Tables.{Catalog}
use Rattle.store_meaning.specs.Ground.{Ground}
use Rattle.store_meaning.specs.Levels.{Reading}
use Rattle.store_meaning.specs.Marked.{is_lacking}
use Rattle.store_meaning.specs.ChainWrites.{PutsCells}
use Rattle.store_meaning.specs.Naming.{IsUnsorted}

-- ---- the plain state

-- the cell's value is put at its key; a removal takes away what is there
abbrev pub with_cell : Cell → PairMap → PairMap
with_cell cell pairs = option_map_or (λ value. map.insert pairs cell.key value) cell.value (map.remove pairs cell.key)

-- each of these is put; of several of one key the first counts
abbrev pub with_cells : List Cell → PairMap → PairMap
with_cells [] pairs = pairs
with_cells (cell ∷ more) pairs = with_cell cell (with_cells more pairs)

-- these are put in the table of this id, where there is one
abbrev pub state_with : List ℕ → List Cell → PlainState → PlainState
state_with id cells s = option_map_or (λ table. put_table id (record table { pairs = with_cells cells table.pairs }) s) (map.get s.tables id) s

-- ---- the change

-- Cells of one row of a user table are put, in a log that isn't sorted; the tablet of the row lacks no import mark, whose files would
-- count over them.
pub record PutsPairs (known : Ground) (reading : Reading) (catalog : Catalog) (log : List ℕ) (mutation : Mutation) (chain : List TabletRecord) : Type 0 where
  pub puts : PutsCells known reading log mutation chain
  pub unsorted : IsUnsorted known log
  pub loaded : (node : TableNode) → catalog.tables mutation.table ≡ Some node → is_lacking node.mark puts.stands.holder ≡ false
