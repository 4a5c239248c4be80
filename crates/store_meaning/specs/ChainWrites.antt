-- A row is written, and one piece of a table's chain is replaced: by one record, by two, or by none.
use Rattle.std.specs.Prelude.{◌≡◌, ◌≢◌, ℕ, List, [], ◌∷◌, ◌++◌, Option, Some, IsTrue}
use Rattle.metadata_schema.specs.declared.mutation.Mutation.{Mutation}
use Rattle.metadata_schema.specs.declared.tablet.TabletRecord.{TabletRecord}
use Rattle.metadata_schema.specs.Bytes.{is_rising}
use Rattle.metadata_schema.specs.Columns.{update_cmp}
use Rattle.cell_merge.specs.declared.cell.Cell.{Cell}
use Rattle.cell_merge.specs.Changes.{Covers}
use Rattle.level_rows.specs.Chain.{Rows, IsChain, effective_prev}
use Rattle.level_rows.specs.Changes.{StandAsBefore}
use Rattle.store_meaning.specs.Ground.{Ground}
use Rattle.store_meaning.specs.Content.{both_told, content_of, contents_of}
use Rattle.store_meaning.specs.Levels.{Reading, IsMetadataTable, metadata_id, root_id, root_rows, metadata_rows}
use Rattle.store_meaning.specs.Writes.{StandsIn}
use Rattle.store_meaning.specs.RowWrites.{LevelRow, RecordRow, RowWrite, LeadsRow, with_level_row, WritesUserRow}

-- ---- one piece of a chain

-- from the last tablet down: those above the piece, the piece before and after, and those below it
pub record PieceChange : Type 0 where
  pub above : List TabletRecord
  pub gone : List TabletRecord
  pub come : List TabletRecord
  pub below : List TabletRecord

abbrev pub chain_before : PieceChange → List TabletRecord
chain_before piece = piece.above ++ (piece.gone ++ piece.below)

abbrev pub chain_after : PieceChange → List TabletRecord
chain_after piece = piece.above ++ (piece.come ++ piece.below)

-- each is the chain of its rows, and the tablets above and below stand as before
pub record ReplacesPiece (old new : Rows) (piece : PieceChange) : Type 0 where
  pub before : IsChain old (chain_before piece)
  pub after : IsChain new (chain_after piece)
  pub above : StandAsBefore old new piece.above
  pub below : StandAsBefore old new piece.below

-- the cells of the chain after, of which those of the piece may be others
abbrev pub content_with_piece : Ground → Rows → Rows → PieceChange → Option (List Cell)
content_with_piece known old new piece = both_told (contents_of known old piece.above) (both_told (contents_of known new piece.come) (contents_of known old piece.below))

-- these are told, and leave each key what it had
pub record HasCovered (old : List Cell) (told : Option (List Cell)) : Type 0 where
  pub cells : List Cell
  pub is : told ≡ Some cells
  pub covers : Covers cells old

-- ---- one record in its place

pub record RecordChange : Type 0 where
  pub above : List TabletRecord
  pub old : TabletRecord
  pub new : TabletRecord
  pub below : List TabletRecord

-- the piece that it is
abbrev pub piece_of : RecordChange → PieceChange
piece_of change = record { above = change.above; gone = change.old ∷ []; come = change.new ∷ []; below = change.below }

-- a record of a chain, and another one of the same extent that takes its place
pub record KeepsExtent (rows : Rows) (change : RecordChange) : Type 0 where
  pub chain : IsChain rows (chain_before (piece_of change))
  pub end : change.new.end ≡ change.old.end
  pub prev : effective_prev rows change.new ≡ effective_prev rows change.old

-- the content of a record in that place
abbrev pub content_in_place : Ground → Rows → RecordChange → TabletRecord → Option (List Cell)
content_in_place known rows change tablet = content_of known (effective_prev rows change.old) tablet

-- the row that writes the new record
abbrev pub row_of_change : RecordChange → LevelRow
row_of_change change = RecordRow change.new.table change.new.end (Some change.new)

-- ---- in the metadata table

-- the rows of a table once a row is written
abbrev pub user_rows_with : Reading → RowWrite → List ℕ → Rows
user_rows_with reading write table = (with_level_row reading.users write.row).records table

-- a row of the metadata table is written, and a piece of this user table's chain is replaced
pub record ReplacesUserPiece (known : Ground) (reading : Reading) (write : RowWrite) (table : List ℕ) (piece : PieceChange) : Type 0 where
  pub writes : WritesUserRow known reading write
  pub user : table ≢ metadata_id
  pub replaces : ReplacesPiece (reading.users.records table) (user_rows_with reading write table) piece

-- one record of a user table's chain is written again with its extent, as by a flush or a new holder
pub record RewritesUserTablet (known : Ground) (reading : Reading) (write : RowWrite) (change : RecordChange) : Type 0 where
  pub writes : WritesUserRow known reading write
  pub row : write.row ≡ row_of_change change
  pub user : change.new.table ≢ metadata_id
  pub keeps : KeepsExtent (reading.users.records change.new.table) change

-- ---- in the root tablet

-- One record of the chain of `!0` is written again with its extent, and its cells leave each key what it had.
pub record RewritesMetadataTablet (known : Ground) (reading : Reading) (write : RowWrite) (change : RecordChange) : Type 0 where
  pub table : write.mutation.table ≡ root_id
  pub stands : StandsIn known (root_rows reading) (reading.root ∷ []) write.log write.mutation
  pub leads : LeadsRow IsMetadataTable reading.metadata write
  pub row : write.row ≡ row_of_change change
  pub metadata : change.new.table ≡ metadata_id
  pub keeps : KeepsExtent (metadata_rows reading) change
  pub was : List Cell
  pub content : content_in_place known (metadata_rows reading) change change.old ≡ Some was
  pub covered : HasCovered was (content_in_place known (metadata_rows reading) change change.new)

-- ---- in a user table

-- cells of one row of a user table are put
pub record PutsCells (known : Ground) (reading : Reading) (log : List ℕ) (mutation : Mutation) (chain : List TabletRecord) : Type 0 where
  pub user : mutation.table ≢ metadata_id
  pub not_root : mutation.table ≢ root_id
  pub is_chain : IsChain (reading.users.records mutation.table) chain
  pub stands : StandsIn known (reading.users.records mutation.table) chain log mutation
  pub order : IsTrue (is_rising update_cmp mutation.updates)
