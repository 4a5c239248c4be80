-- The cells of a tablet's files, as an image has them.
use Rattle.std.specs.Prelude.{◌≡◌, ℕ, List, [], ◌∷◌, ◌++◌, map, Contains, IsTrue}
use Rattle.host_model.specs.Picture.{Image}
use Rattle.host_model.specs.State.{HostState}
use Rattle.host_model.specs.Calls.{IsOfFiles, Faulted}
use Rattle.host_model.specs.declared.fault.Stop.{Stop}
use Rattle.host_model.specs.declared.fault.Stop.TheVariants.{Host, Damaged, Full, NoMemory}
use Rattle.metadata_schema.specs.declared.tablet.FileEntry.{FileEntry}
use Rattle.cell_merge.specs.declared.cell.Cell.{Cell}
use Rattle.data_files.specs.Files.{HoldsCells, IsDamaged}
use Rattle.store_layout.specs.Names.{file_of}
use Rattle.store_meaning.specs.Content.{timed}

-- the file of this column is there, and these are its cells, with the time of the column where that has one
pub record HoldsTimed (image : Image) (file : FileEntry) (cells : List Cell) : Type 0 where
  pub stored : List Cell
  pub holds : HoldsCells (file_of file.path) stored image
  pub are : cells ≡ map (timed file.time) stored

-- each of these files is there, and these are their cells, one file behind the other
abbrev pub HoldAll : Image → List FileEntry → List Cell → Type 0
HoldAll image [] cells = cells ≡ []
HoldAll image (file ∷ more) cells = (front : List Cell) × (back : List Cell) × HoldsTimed image file front × HoldAll image more back × (cells ≡ front ++ back)

-- the file of this column isn't there, or isn't of its grammar
abbrev pub IsBad : Image → FileEntry → Type 0
IsBad image file = IsDamaged (file_of file.path) image

-- the name is that of the first of these files that is bad: those before it hold their cells
pub record IsFirstBad (image : Image) (files : List FileEntry) (name : List ℕ) : Type 0 where
  pub front : List FileEntry
  pub file : FileEntry
  pub back : List FileEntry
  pub are : files ≡ front ++ file ∷ back
  pub cells : List Cell
  pub before : HoldAll image front cells
  pub bad : IsBad image file
  pub named : name ≡ file_of file.path

-- the name is that of one of these files
abbrev pub IsNameOf : List FileEntry → List ℕ → Type 0
IsNameOf files name = (file : FileEntry) × Contains files file × (name ≡ file_of file.path)

-- why these files weren't all read
abbrev pub FilesCause : List FileEntry → Stop → HostState → HostState → Type 0
FilesCause files (Host fault) old new = IsOfFiles fault × Faulted fault old new
FilesCause files (Damaged name) old new = IsNameOf files name × (IsTrue old.is_faithful → IsFirstBad old.files files name)
FilesCause files Full old new = ⊥
FilesCause files NoMemory old new = Unit {0}
