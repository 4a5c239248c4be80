-- How a new data file is written: its number is drawn, and then its file is made.
use Rattle.std.specs.Prelude.{◌⊎◌, ℕ, List}
use Rattle.host_model.specs.Picture.{Image}
use Rattle.host_model.specs.declared.fault.Stop.{Stop}
use Rattle.host_model.specs.declared.fault.Stop.TheVariants.{Host, Damaged, Full, NoMemory}
use Rattle.cell_merge.specs.declared.cell.Cell.{Cell}
use Rattle.node_store.specs.Value.{StoreValue}
use Rattle.node_store.specs.Steps.{MayGive, Gives}
use Rattle.data_files.specs.Files.{IsDataFile, spelled_file}
use Rattle.store_layout.specs.Names.{file_of}
use Rattle.store_layout.specs.Nodes.{draw_ops, next_name_path}
use Rattle.ground_store.specs.Drawing.{IsDrawn}
use Rattle.ground_store.specs.Steps.{Stays, MayWrite, Writes}
use Rattle.new_files.specs.declared.kinds.FileKind.{FileKind}
use Rattle.new_files.specs.Names.{new_path}

-- the next number is drawn, and then the file of its path has these cells
pub record PutsNew (table dir : List ℕ) (kind : FileKind) (cells : List Cell) (store : StoreValue) (old new : Image) : Type 0 where
  pub number : ℕ
  pub drawn : IsDrawn store.nodes number
  pub made : Image
  pub gives : Gives (draw_ops next_name_path number) store old made
  pub writes : Writes (file_of (new_path table dir kind number)) (spelled_file cells) made new
  pub file : IsDataFile (spelled_file cells) cells

-- the number is drawn or not, and no file changes
pub record MayDrawFirst (store : StoreValue) (old new : Image) : Type 0 where
  pub number : ℕ
  pub drawn : IsDrawn store.nodes number
  pub gives : MayGive (draw_ops next_name_path number) store old new

-- the number is drawn, and then anything may be in the file of its path
pub record DrawsFirst (table dir : List ℕ) (kind : FileKind) (store : StoreValue) (old new : Image) : Type 0 where
  pub number : ℕ
  pub drawn : IsDrawn store.nodes number
  pub made : Image
  pub gives : Gives (draw_ops next_name_path number) store old made
  pub writes : MayWrite (file_of (new_path table dir kind number)) made new

-- what a stop or a crash on the way leaves
abbrev pub MayPutNew : List ℕ → List ℕ → FileKind → StoreValue → Image → Image → Type 0
MayPutNew table dir kind store old new = Stays old new ⊎ MayDrawFirst store old new ⊎ DrawsFirst table dir kind store old new

-- a stop that says that no number can be drawn
abbrev pub IsUndrawn : Stop → Type 0
IsUndrawn (Host fault) = ⊥
IsUndrawn (Damaged name) = Unit {0}
IsUndrawn Full = Unit {0}
IsUndrawn NoMemory = ⊥
