-- The files of a store, by their names.
use Rattle.std.specs.Prelude.{◌≡◌, ◌⊎◌, ℕ, ◌==◌, if◌then◌else◌, List, ◌++◌, map, codes}
use Rattle.row_keys.specs.Forms.{IsSessionId, IsLogName}
use Rattle.metadata_schema.specs.Paths.{IsFilePath}

-- the journal of the nodes
abbrev pub nodes_name : List ℕ
nodes_name = codes "nodes"

-- `,` for `/`
abbrev pub name_byte : ℕ → ℕ
name_byte byte = if byte == 47 then 44 else byte

-- the file of a path: the path with `,` for `/`
abbrev pub file_of : List ℕ → List ℕ
file_of path = map name_byte path

-- the file of some path
pub record IsDataFileName (name : List ℕ) : Type 0 where
  pub path : List ℕ
  pub form : IsFilePath path
  pub is : name ≡ file_of path

-- `sorted-` and a session
pub record IsSortedName (name : List ℕ) : Type 0 where
  pub session : List ℕ
  pub form : IsSessionId session
  pub is : name ≡ codes "sorted-" ++ session

-- a file that a store may be rid of: a data file, a log or a sorted log
abbrev pub IsRemovableName : List ℕ → Type 0
IsRemovableName name = IsDataFileName name ⊎ IsLogName name ⊎ IsSortedName name

-- the file of this name, and no other
abbrev pub IsFile : List ℕ → List ℕ → Type 0
IsFile name other = other ≡ name
