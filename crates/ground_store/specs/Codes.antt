-- How the value that contracts see of a ground is stored.
use Rattle.std.specs.Prelude.{◌≡◌, ◌⊎◌, ℕ, Bool, true, false, List, Option, refl}
use mathlib.Core.Logic.{inl, inr}
use Rattle.std.specs.Coded.{Coded, code_by, coded×, coded⊎, coded_ℕ, coded_bool, coded_list, coded_option}
use Rattle.std.specs.FinMap as map
use Rattle.host_model.specs.declared.fault.HostFault.{HostFault}
use Rattle.host_model.specs.declared.fault.HostFault.TheVariants.{Disk, Source as FromSource, Sink, Memory}
use Rattle.host_model.specs.declared.fault.Stop.{Stop}
use Rattle.host_model.specs.declared.fault.Stop.TheVariants.{Host, Damaged, Full, NoMemory}
use Rattle.log_files.specs.Value.{LogValue}
use Rattle.node_store.specs.Value.{StoreValue, store_code}
use Rattle.ground_store.specs.Value.{Logs, GroundValue}

abbrev pub fault_parts : HostFault → Bool × Bool
fault_parts Disk = (false, false)
fault_parts FromSource = (false, true)
fault_parts Sink = (true, false)
fault_parts Memory = (true, true)

abbrev pub fault_from : Bool → Bool → HostFault
fault_from false false = Disk
fault_from false true = FromSource
fault_from true false = Sink
fault_from true true = Memory

pub fault_back : (fault : HostFault) → fault_from (fault_parts fault).0 (fault_parts fault).1 ≡ fault
fault_back Disk = refl
fault_back FromSource = refl
fault_back Sink = refl
fault_back Memory = refl

abbrev fault_code : Coded HostFault
fault_code = code_by (Bool × Bool) (coded× coded_bool coded_bool) fault_parts (λ p. fault_from p.0 p.1) fault_back

abbrev pub stop_part : Stop → HostFault ⊎ (List ℕ ⊎ Bool)
stop_part (Host fault) = inl fault
stop_part (Damaged named) = inr (inl named)
stop_part Full = inr (inr false)
stop_part NoMemory = inr (inr true)

abbrev pub stop_from : HostFault ⊎ (List ℕ ⊎ Bool) → Stop
stop_from (inl fault) = Host fault
stop_from (inr (inl named)) = Damaged named
stop_from (inr (inr false)) = Full
stop_from (inr (inr true)) = NoMemory

pub stop_back : (stop : Stop) → stop_from (stop_part stop) ≡ stop
stop_back (Host fault) = refl
stop_back (Damaged named) = refl
stop_back Full = refl
stop_back NoMemory = refl

abbrev stop_code : Coded Stop
stop_code = code_by (HostFault ⊎ (List ℕ ⊎ Bool)) (coded⊎ fault_code (coded⊎ (coded_list coded_ℕ) coded_bool)) stop_part stop_from stop_back

abbrev log_code : Coded LogValue
log_code = code_by (List ℕ × ℕ) (coded× (coded_list coded_ℕ) coded_ℕ) (λ log. (log.name, log.end)) (λ p. record { name = p.0; end = p.1 }) (λ _. refl)

abbrev pub logs_code : Coded Logs
logs_code = map.code (coded_list coded_ℕ) log_code

-- a ground's value as the pairs of its fields
abbrev pub ground_code : {H : Type 0} → Coded H → Coded (GroundValue H)
ground_code {H} host =
    code_by (H × (StoreValue × (Logs × Option Stop))) (coded× host (coded× store_code (coded× logs_code (coded_option stop_code)))) (λ g. (g.host, (g.nodes, (g.logs, g.stopped))))
    (λ p. record { host = p.0; nodes = p.1.0; logs = p.1.1.0; stopped = p.1.1.1 }) (λ _. refl)
