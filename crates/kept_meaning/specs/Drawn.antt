-- Numbers that were drawn, and those that weren't: nothing that counts has one of these.
use Rattle.std.specs.Prelude.{◌≡◌, ◌≢◌, ◌⊎◌, ℕ, ◌<◌, true, List, ◌++◌, codes, Some, None, IfSome, Contains}
use Rattle.row_keys.specs.Forms.{IsUserTableId}
use Rattle.metadata_schema.specs.declared.mutation.Mutation.{Mutation}
use Rattle.metadata_schema.specs.declared.tablet.FileEntry.{FileEntry}
use Rattle.metadata_schema.specs.declared.tablet.Holder.{Holder}
use Rattle.metadata_schema.specs.declared.tablet.TabletRecord.{TabletRecord}
use Rattle.metadata_schema.specs.Paths.{IsFilePath}
use Rattle.node_store.specs.Nodes.{Nodes}
use Rattle.store_layout.specs.Nodes.{IsNext, next_name_path, next_table_path, next_session_path}
use Rattle.store_layout.specs.Numbers.{base36_number, base16_number, name_number, IsDirectoryBelow}
use Rattle.store_layout.specs.Tables.{Catalog}
use Rattle.store_meaning.specs.Ground.{Ground}
use Rattle.store_meaning.specs.Levels.{Reading}
use Rattle.store_meaning.specs.InUse.{IsRecord, IsLogInUse}
use Rattle.store_meaning.specs.Marked.{IsFileCounted}
use Rattle.store_meaning.specs.RowWrites.{LevelRow, RecordRow, CandidateRow, FlagRow}
use Rattle.store_meaning.specs.Kept.{IsCandidate, IsInSomeLog, IsServerSession, IsLogSession, IsHolderSession}

-- ---- numbers that weren't drawn

-- no file that counts, no candidate and no directory of a record has the number
pub record IsNewName (reading : Reading) (catalog : Catalog) (nodes : Nodes) (number : ℕ) : Type 0 where
  pub files : (path : List ℕ) → IsFileCounted reading catalog path ⊎ IsCandidate nodes reading path → (form : IsFilePath path) → name_number form ≢ number
  pub directories : (tablet : TabletRecord) (text : List ℕ) → IsRecord reading tablet → tablet.dir ≡ codes "t-" ++ text → base36_number text ≢ number

-- the id is no table's, and no record and no mutation of a log is of it
pub record IsNewId (reading : Reading) (catalog : Catalog) (known : Ground) (id : List ℕ) : Type 0 where
  pub table : catalog.tables id ≡ None
  pub records : (tablet : TabletRecord) → IsRecord reading tablet → tablet.table ≢ id
  pub mutations : (log : List ℕ) (mutation : Mutation) → IsInSomeLog known log mutation → mutation.table ≢ id

-- the session is no server's, no holder's and no log's, and its log isn't in use
pub record IsNewSession (reading : Reading) (nodes : Nodes) (session : List ℕ) : Type 0 where
  pub server : IsServerSession nodes session → ⊥
  pub holder : IsHolderSession reading session → ⊥
  pub log : IsLogSession nodes session → ⊥
  pub in_use : IsLogInUse nodes reading (codes "log-" ++ session) → ⊥

-- ---- numbers that were drawn

-- the number of the file's name was drawn
abbrev pub IsNameDrawn : Nodes → List ℕ → Type 0
IsNameDrawn nodes path = (form : IsFilePath path) (next : ℕ) → IsNext nodes next_name_path next → name_number form < next

-- so was that of a directory, where it has one
abbrev pub IsDirectoryDrawn : Nodes → List ℕ → Type 0
IsDirectoryDrawn nodes dir = (next : ℕ) → IsNext nodes next_name_path next → IsDirectoryBelow next dir

-- the number of a user table's id was drawn
abbrev pub IsIdDrawn : Nodes → List ℕ → Type 0
IsIdDrawn nodes id = (next : ℕ) → IsNext nodes next_table_path next → base36_number id < next

-- the number of a session was drawn
abbrev pub IsSessionDrawn : Nodes → List ℕ → Type 0
IsSessionDrawn nodes session = (next : ℕ) → IsNext nodes next_session_path next → base16_number session < next

-- the numbers in a record were drawn
pub record IsRecordDrawn (nodes : Nodes) (tablet : TabletRecord) : Type 0 where
  pub files : (file : FileEntry) → Contains tablet.files file → IsNameDrawn nodes file.path
  pub directory : IsDirectoryDrawn nodes tablet.dir
  pub table : IsUserTableId tablet.table → IsIdDrawn nodes tablet.table
  pub holders : (holder : Holder) → (tablet.loc ≡ Some holder) ⊎ (tablet.future ≡ Some holder) → IsSessionDrawn nodes holder.session

-- so it is with a row's record, and with the path of a candidate or of a flag
abbrev pub IsRowDrawn : Nodes → LevelRow → Type 0
IsRowDrawn nodes (RecordRow table end tablet) = IfSome tablet (IsRecordDrawn nodes)
IsRowDrawn nodes (CandidateRow path is_there) = is_there ≡ true → IsNameDrawn nodes path
IsRowDrawn nodes (FlagRow path flag) = IfSome flag (λ is. IsNameDrawn nodes path)
