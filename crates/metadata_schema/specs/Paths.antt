-- The directories and paths of data files.
use Rattle.std.specs.Prelude.{◌≡◌, ◌⊎◌, ℕ, ◌<◌, ◌==◌, ◌||◌, Bool, List, ◌∷◌, ◌++◌, length, IsTrue, codes}
use Rattle.row_keys.specs.Forms.{is_between, HasBytes, IsTableId}
use Rattle.metadata_schema.specs.Bytes.{same}

-- a digit of upper-case base 36
abbrev pub is_base36 : ℕ → Bool
is_base36 byte = is_between 48 57 byte || is_between 65 90 byte

-- A drawn number in upper-case base 36, padded with zeros to seven digits: one of more has no zero in front.
pub record IsDrawnText (text : List ℕ) : Type 0 where
  pub form : HasBytes 7 13 is_base36 text
  pub plain : (rest : List ℕ) → text ≡ 48 ∷ rest → length rest < 7

-- `root_tablet`, `table_info` or `default_tablet`, as a test
abbrev pub is_fixed : List ℕ → Bool
is_fixed dir = same dir (codes "root_tablet") || same dir (codes "table_info") || same dir (codes "default_tablet")

-- `root_tablet`, `table_info`, `default_tablet`, or `t-` and a drawn number
abbrev pub IsDirectory : List ℕ → Type 0
IsDirectory dir = (dir ≡ codes "root_tablet") ⊎ (dir ≡ codes "table_info") ⊎ (dir ≡ codes "default_tablet") ⊎ ((text : List ℕ) × (dir ≡ codes "t-" ++ text) × IsDrawnText text)

-- F of a flush, C or A of a compaction of some or of all files, I of a bulk import and of a staged file
abbrev pub is_file_kind : ℕ → Bool
is_file_kind byte = byte == 70 || byte == 67 || byte == 65 || byte == 73

abbrev pub file_name : ℕ → List ℕ → List ℕ
file_name kind text = kind ∷ text ++ codes ".rf"

-- a kind, a drawn number and `.rf`
pub record IsFileName (name : List ℕ) : Type 0 where
  pub kind : ℕ
  pub text : List ℕ
  pub is_kind : IsTrue (is_file_kind kind)
  pub drawn : IsDrawnText text
  pub is : name ≡ file_name kind text

abbrev pub file_path : List ℕ → List ℕ → List ℕ → List ℕ
file_path id dir name = id ++ 47 ∷ (dir ++ 47 ∷ name)

-- the parts of a file's path; the id of staged files' paths is `stage`
pub record AreParts (id dir name : List ℕ) : Type 0 where
  pub is_id : IsTableId id
  pub is_dir : IsDirectory dir
  pub is_name : IsFileName name

-- `ID/DIR/NAME`
pub record IsFilePath (path : List ℕ) : Type 0 where
  pub id : List ℕ
  pub dir : List ℕ
  pub name : List ℕ
  pub parts : AreParts id dir name
  pub is : path ≡ file_path id dir name
