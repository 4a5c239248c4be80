-- The candidates and flags of all levels.
use Rattle.std.specs.Prelude.{◌≡◌, ◌⊎◌, ◌↔◌, ℕ, if◌then◌else◌, ◌==◌, List, ◌++◌, codes, Some, IsTrue, Contains}
use Rattle.std.specs.List.Sorted.{IsSorted}
use Rattle.std.specs.declared.cmp.Ordering.{Ordering}
use Rattle.row_keys.specs.RowOrder.{bytes_cmp}
use Rattle.metadata_schema.specs.Bytes.{is_rising}
use Rattle.metadata_schema.specs.Paths.{IsFilePath}
use Rattle.node_store.specs.Nodes.{Nodes}
use Rattle.store_layout.specs.Names.{file_of}
use Rattle.store_meaning.specs.Levels.{Reading}
use Rattle.store_meaning.specs.Kept.{IsListedCandidate, IsCandidate}
use Rattle.state_reader.specs.declared.level.LoadFlag.{LoadFlag}
use Rattle.state_reader.specs.LevelRows.{flag_of}

-- ---- candidates of the nodes

-- `/` for `,`
abbrev pub path_byte : ℕ → ℕ
path_byte byte = if byte == 44 then 47 else byte

-- the node is that of the candidate of this file's path
pub record IsCandidateNode (node path : List ℕ) : Type 0 where
  pub form : IsFilePath path
  pub is : node ≡ codes "/gc/" ++ file_of path

-- the path is a file's, and a node names it
pub record IsListedFile (nodes : Nodes) (path : List ℕ) : Type 0 where
  pub form : IsFilePath path
  pub listed : IsListedCandidate nodes path

-- ---- all levels

-- these are the paths of files that are candidates on either level or among the nodes, each once, in their order
pub record AreCandidatesIn (nodes : Nodes) (reading : Reading) (paths : List (List ℕ)) : Type 0 where
  pub each : (path : List ℕ) → Contains paths path ↔ (IsFilePath path × IsCandidate nodes reading path)
  pub order : IsTrue (is_rising bytes_cmp paths)

-- by their paths
abbrev pub flag_cmp : LoadFlag → LoadFlag → Ordering
flag_cmp one other = bytes_cmp one.path other.path

-- these are the flags of both levels, in the order of their paths
pub record AreFlagsIn (reading : Reading) (flags : List LoadFlag) : Type 0 where
  pub each : (flag : LoadFlag) → Contains flags flag ↔ ((reading.metadata.flag flag.path ≡ Some (flag_of flag)) ⊎ (reading.users.flag flag.path ≡ Some (flag_of flag)))
  pub order : IsSorted flag_cmp flags
