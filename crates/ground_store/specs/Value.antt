-- What contracts see of a ground.
use Rattle.std.specs.Prelude.{◌≡◌, ℕ, List, Option, Some, IsTrue, unwrap_or}
use Rattle.std.specs.Ordering.{nat_cmp}
use Rattle.std.specs.Cmp.Lexicographic.{slice_cmp}
use Rattle.std.specs.FinMap as map
use Rattle.host_model.specs.State.{HostState}
use Rattle.host_model.specs.Leaves.{AllSettled}
use Rattle.host_model.specs.declared.fault.Stop.{Stop}
use Rattle.row_keys.specs.Forms.{IsLogName}
use Rattle.journal_core.specs.Journal.{IsOpen}
use Rattle.log_files.specs.Value.{LogValue}
use Rattle.node_store.specs.Value.{StoreValue}
use Rattle.node_store.specs.Image.{IsStored}
use Rattle.store_layout.specs.Names.{nodes_name}

-- the logs that were made, by their names
abbrev pub Logs : Type 0
Logs = map.FinMap (slice_cmp nat_cmp) LogValue

-- the log of this name, which is there
abbrev pub log_at : Logs → List ℕ → LogValue
log_at logs name = unwrap_or (map.get logs name) (record { name = name; end = 0 })

pub record GroundValue (H : Type 0) : Type 0 where
  pub host : H
  pub nodes : StoreValue
  pub logs : Logs
  -- what it has answered, and answers from then on
  pub stopped : Option Stop

-- each log has a log's name, and its file is there and goes on where it is said
pub record AreOpen (logs : Logs) (state : HostState) : Type 0 where
  pub named : (name : List ℕ) (log : LogValue) → map.get logs name ≡ Some log → IsLogName name × (log.name ≡ name)
  pub open_at : IsTrue state.is_faithful → (name : List ℕ) (log : LogValue) → map.get logs name ≡ Some log → IsOpen log.name log.end state.files

-- the host's files are as known, and no write is pending
pub record IsAtRest (nodes : StoreValue) (logs : Logs) (state : HostState) : Type 0 where
  pub named : nodes.name ≡ nodes_name
  pub stored : IsTrue state.is_faithful → IsStored nodes state.files
  pub open_logs : AreOpen logs state
  pub settled : IsTrue state.is_honest → AllSettled state
