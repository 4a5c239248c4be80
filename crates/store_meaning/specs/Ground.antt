-- A still image as four look-ups. Where one says nothing it claims nothing.
use Rattle.std.specs.Prelude.{◌≡◌, ℕ, List, Option, Some, if◌then◌else◌}
use Rattle.host_model.specs.Picture.{Image, ChangesFile}
use Rattle.row_keys.specs.Forms.{IsLogName}
use Rattle.metadata_schema.specs.declared.mutation.Mutation.{Mutation}
use Rattle.metadata_schema.specs.Bytes.{same}
use Rattle.metadata_schema.specs.Paths.{IsFilePath}
use Rattle.cell_merge.specs.declared.cell.Cell.{Cell}
use Rattle.node_store.specs.Nodes.{Nodes}
use Rattle.node_store.specs.Image.{HasNodes}
use Rattle.data_files.specs.Files.{HoldsCells}
use Rattle.log_files.specs.Logs.{HasLog}
use Rattle.log_files.specs.Sorted.{HasSorted, sorted_name}
use Rattle.store_layout.specs.Names.{nodes_name, file_of}

pub record Ground : Type 0 where
  pub nodes : Nodes
  -- by the path of a data file
  pub cells_of : List ℕ → Option (List Cell)
  -- by the name of a log
  pub mutations_of : List ℕ → Option (List Mutation)
  -- the same mutations in order, by the name of the log
  pub sorted_of : List ℕ → Option (List Mutation)

-- the path is a data file's, and its file holds these cells
pub record HasFile (image : Image) (path : List ℕ) (cells : List Cell) : Type 0 where
  pub form : IsFilePath path
  pub holds : HoldsCells (file_of path) cells image

-- the name is a log's, and its file has these mutations
pub record HasLogFile (image : Image) (log : List ℕ) (mutations : List Mutation) : Type 0 where
  pub form : IsLogName log
  pub holds : HasLog log mutations image

-- the name is a log's, and the file of its sorted log has these mutations
pub record HasSortedFile (image : Image) (log : List ℕ) (mutations : List Mutation) : Type 0 where
  pub form : IsLogName log
  pub holds : HasSorted (sorted_name log) mutations image

-- all that the ground tells is so in the image
pub record IsGroundOf (image : Image) (known : Ground) : Type 0 where
  pub nodes : HasNodes nodes_name image known.nodes
  pub cells : (path : List ℕ) (cells : List Cell) → known.cells_of path ≡ Some cells → HasFile image path cells
  pub mutations : (log : List ℕ) (mutations : List Mutation) → known.mutations_of log ≡ Some mutations → HasLogFile image log mutations
  pub sorted : (log : List ℕ) (mutations : List Mutation) → known.sorted_of log ≡ Some mutations → HasSortedFile image log mutations

-- what both tell is the same
abbrev pub AgreeWhereTold : {V : Type 0} → (List ℕ → Option V) → (List ℕ → Option V) → Type 0
AgreeWhereTold {V} one other = (name : List ℕ) (a b : V) → one name ≡ Some a → other name ≡ Some b → a ≡ b

-- the same nodes, and the same wherever both tell
pub record Agree (one other : Ground) : Type 0 where
  pub nodes : one.nodes ≡ other.nodes
  pub cells : AgreeWhereTold one.cells_of other.cells_of
  pub mutations : AgreeWhereTold one.mutations_of other.mutations_of
  pub sorted : AgreeWhereTold one.sorted_of other.sorted_of

-- what one tells, the other tells too
abbrev pub TellsNoMore : {V : Type 0} → (List ℕ → Option V) → (List ℕ → Option V) → Type 0
TellsNoMore {V} less more = (name : List ℕ) (v : V) → less name ≡ Some v → more name ≡ Some v

-- the same nodes, and nothing told that the other doesn't tell
pub record IsPartOf (less more : Ground) : Type 0 where
  pub nodes : less.nodes ≡ more.nodes
  pub cells : TellsNoMore less.cells_of more.cells_of
  pub mutations : TellsNoMore less.mutations_of more.mutations_of
  pub sorted : TellsNoMore less.sorted_of more.sorted_of

-- this file alone changes, and anything may be in it, or it may be gone
abbrev pub ChangesOnly : List ℕ → Image → Image → Type 0
ChangesOnly name = ChangesFile name (λ old new. Unit {0})

-- ---- grounds that differ in one look-up

-- the look-up with this in place of what it tells of one name
abbrev pub with_told : {V : Type 0} → (List ℕ → Option V) → List ℕ → Option V → List ℕ → Option V
with_told tells name told other = if same other name then told else tells other

abbrev pub with_nodes : Ground → Nodes → Ground
with_nodes known nodes = record known { nodes = nodes }

abbrev pub with_cells : Ground → List ℕ → Option (List Cell) → Ground
with_cells known path told = record known { cells_of = with_told known.cells_of path told }

abbrev pub with_mutations : Ground → List ℕ → Option (List Mutation) → Ground
with_mutations known log told = record known { mutations_of = with_told known.mutations_of log told }

abbrev pub with_sorted : Ground → List ℕ → Option (List Mutation) → Ground
with_sorted known log told = record known { sorted_of = with_told known.sorted_of log told }
