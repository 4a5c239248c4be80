-- What a new data file is, and what it makes of a ground.
use Rattle.std.specs.Prelude.{◌≡◌, ℕ, List, Some, length}
use Rattle.host_model.specs.Picture.{Image}
use Rattle.plain_model.specs.State.{PlainState}
use Rattle.cell_merge.specs.declared.cell.Cell.{Cell}
use Rattle.node_store.specs.Nodes.{Nodes}
use Rattle.data_files.specs.Files.{spelled_file}
use Rattle.store_layout.specs.Tables.{Catalog}
use Rattle.store_meaning.specs.Ground.{Ground, IsGroundOf, with_cells, with_nodes}
use Rattle.store_meaning.specs.Levels.{Reading}
use Rattle.store_meaning.specs.Marked.{IsFileCounted}
use Rattle.store_meaning.specs.Kept.{IsKeptAs}
use Rattle.kept_meaning.specs.Drawn.{IsNewName, IsNameDrawn}
use Rattle.ground_store.specs.Drawing.{HasDrawn}
use Rattle.new_files.specs.declared.kinds.FileKind.{FileKind}
use Rattle.new_files.specs.declared.putting.NewFile.{NewFile}
use Rattle.new_files.specs.Names.{new_path}

-- the number was drawn, the path has it, and the size is that of the cells' file
pub record IsNewFile (table dir : List ℕ) (kind : FileKind) (cells : List Cell) (file : NewFile) (old new : Nodes) : Type 0 where
  pub number : ℕ
  pub drawn : HasDrawn number old new
  pub path : file.path ≡ new_path table dir kind number
  pub size : file.size ≡ length (spelled_file cells)

-- the ground with other nodes, and with a file of these cells
abbrev pub with_file : Ground → Nodes → List ℕ → List Cell → Ground
with_file known nodes path cells = with_cells (with_nodes known nodes) path (Some cells)

-- The number was drawn, and nothing had it: no file that counts, no candidate and no directory. With it drawn and the file told,
-- the ground is one of the image, and kept with the same state; and nothing counts the file yet, whose name was drawn.
pub record IsWrittenIn (reading : Reading) (catalog : Catalog) (known : Ground) (state : PlainState) (table dir : List ℕ) (kind : FileKind) (cells : List Cell) (image : Image) : Type 0 where
  pub number : ℕ
  pub nodes : Nodes
  pub drawn : HasDrawn number known.nodes nodes
  pub fresh : IsNewName reading catalog known.nodes number
  pub of : IsGroundOf image (with_file known nodes (new_path table dir kind number) cells)
  pub kept : IsKeptAs reading catalog (with_file known nodes (new_path table dir kind number) cells) state
  pub uncounted : IsFileCounted reading catalog (new_path table dir kind number) → ⊥
  pub named : IsNameDrawn nodes (new_path table dir kind number)
