-- Logs of servers stay open where other nodes change.
use Rattle.std.proofs.Common.{◌≡◌, ◌≢◌, ℕ, get_or, List, ◌++◌, codes, sym, ◌∙◌, ap, arith}
use Rattle.std.specs.FinMap as map
use Rattle.node_store.specs.Nodes.{Nodes}
use Rattle.server_nodes.specs.Sessions.{log_of, log_path, server_path}
use Rattle.server_nodes.specs.Started.{HasValue}
use Rattle.cluster_state.specs.Station.{HasOpenLog}

abbrev second : List ℕ → ℕ
second path = get_or path 1 0

abbrev third : List ℕ → ℕ
third path = get_or path 2 0

-- the path at which a sorted log would be listed
abbrev pub sorted_path : List ℕ → List ℕ
sorted_path log = codes "/sorted/" ++ log

pub log_no_counter : (session rest : List ℕ) → log_path session ≢ codes "/next/" ++ rest
log_no_counter session rest at = let n : 108 ≡ 110 = ap second at in omega (arith, n)

pub server_no_counter : (name rest : List ℕ) → server_path name ≢ codes "/next/" ++ rest
server_no_counter name rest at = let n : 115 ≡ 110 = ap second at in omega (arith, n)

pub sorted_no_counter : (log rest : List ℕ) → sorted_path log ≢ codes "/next/" ++ rest
sorted_no_counter log rest at = let n : 115 ≡ 110 = ap second at in omega (arith, n)

pub log_no_server : (session name : List ℕ) → log_path session ≢ server_path name
log_no_server session name at = let n : 108 ≡ 115 = ap second at in omega (arith, n)

pub sorted_no_log : (log session : List ℕ) → sorted_path log ≢ log_path session
sorted_no_log log session at = let n : 115 ≡ 108 = ap second at in omega (arith, n)

pub sorted_no_server : (log name : List ℕ) → sorted_path log ≢ server_path name
sorted_no_server log name at = let n : 111 ≡ 101 = ap third at in omega (arith, n)

-- the value of a path that stays
pub still_has : (old new : Nodes) (path value : List ℕ) → map.get new path ≡ map.get old path → HasValue old path value → HasValue new path value
still_has old new path value stays has = record { node = has.node; there = stays ∙ has.there; is = has.is }

-- a log is open still where its nodes stay
pub still_open : (old new : Nodes) (session : List ℕ) → map.get new (log_path session) ≡ map.get old (log_path session) → map.get new (sorted_path (log_of session)) ≡ map.get old (sorted_path (log_of session))
    → HasOpenLog old session → HasOpenLog new session
still_open old new session listed sorted is = record {
  listed = still_has old new (log_path session) (log_of session) listed is.listed;
  unsorted = λ now. is.unsorted (record { node = now.node; there = sym sorted ∙ now.there });
}
