-- Nodes of servers and of logs come and go, as where a server starts or has expired, and the state stays: the guard.
use Rattle.std.specs.Prelude.{◌≡◌, ◌⊎◌, ℕ, ◌<◌, List, [], ◌++◌, codes, Some}
use Rattle.std.specs.FinMap as map
use Rattle.row_keys.specs.Forms.{IsLogName}
use Rattle.node_store.specs.Nodes.{Nodes}
use Rattle.store_layout.specs.Nodes.{IsNext, next_session_path}
use Rattle.store_layout.specs.Numbers.{log_number}
use Rattle.store_layout.specs.Tables.{table_path, staged_path}
use Rattle.store_meaning.specs.Ground.{Ground}
use Rattle.store_meaning.specs.Levels.{Reading}
use Rattle.store_meaning.specs.InUse.{IsListedLog, IsListedSorted}
use Rattle.store_meaning.specs.Naming.{NodesFit}
use Rattle.store_meaning.specs.Kept.{IsServerSession, IsLogSession}
use Rattle.kept_meaning.specs.Drawn.{IsSessionDrawn}
use Rattle.kept_meaning.specs.Nodes.{IsCounterPath}

-- the number of the session in a log's name was drawn
abbrev pub IsLogDrawn : Nodes → List ℕ → Type 0
IsLogDrawn nodes log = (form : IsLogName log) (next : ℕ) → IsNext nodes next_session_path next → log_number form < next

-- The nodes fit what is read. Each log that comes to be listed has no mutation yet, and the sessions and logs that come were drawn. No
-- node of a table, a staged file, a candidate or a counter changes.
pub record ChangesServers (known : Ground) (reading : Reading) (nodes : Nodes) : Type 0 where
  pub fit : NodesFit known reading nodes
  pub empty : (log : List ℕ) → IsListedLog nodes log → IsListedLog known.nodes log ⊎ (known.mutations_of log ≡ Some [])
  pub sessions : (session : List ℕ) → IsServerSession nodes session ⊎ IsLogSession nodes session → (IsServerSession known.nodes session ⊎ IsLogSession known.nodes session) ⊎ IsSessionDrawn known.nodes session
  pub logs : (log : List ℕ) → IsListedLog nodes log ⊎ IsListedSorted nodes log → (IsListedLog known.nodes log ⊎ IsListedSorted known.nodes log) ⊎ IsLogDrawn known.nodes log
  pub tables : (id : List ℕ) → map.get nodes (table_path id) ≡ map.get known.nodes (table_path id)
  pub staged : (name : List ℕ) → map.get nodes (staged_path name) ≡ map.get known.nodes (staged_path name)
  pub candidates : (name : List ℕ) → map.get nodes (codes "/gc/" ++ name) ≡ map.get known.nodes (codes "/gc/" ++ name)
  pub counters : (path : List ℕ) → IsCounterPath path → map.get nodes path ≡ map.get known.nodes path
