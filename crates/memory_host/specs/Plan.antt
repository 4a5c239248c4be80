-- Which calls fail, and what is counted.
use Rattle.std.specs.Prelude.{◌≡◌, ◌⊎◌, ℕ, ◌+◌, ◌-◌, ◌^◌, ◌==◌, nat_eq, nat_lt, min, Bool, true, false, List, Option, Some, None, if◌then◌else◌, Result, Ok, Err}
use Rattle.std.specs.declared.alloc.AllocError.{AllocError}
use Rattle.std.specs.List.{list_any}
use Rattle.std.specs.Ordering.{nat_cmp}
use Rattle.std.specs.BTreeSet.{contains}
use Rattle.host_model.specs.State.{Faults}
use Rattle.host_model.specs.Calls.{NoneFalls}
use Rattle.host_model.specs.declared.call.HostCall.{HostCall}
use Rattle.host_model.specs.declared.fault.HostFault.{HostFault}
use Rattle.host_model.specs.declared.fault.HostFault.TheVariants.{Disk, Source, Sink, Memory}
use Rattle.memory_host.specs.declared.plan.FaultCounts.{FaultCounts}
use Rattle.memory_host.specs.declared.plan.Plan.{Plan}
use Rattle.memory_host.specs.declared.plan.Turn.{Turn}
use Rattle.memory_host.specs.declared.plan.Turn.TheVariants.{Works, Fails, Stops, Down}

-- one more, or the same at the last value
abbrev pub next_count : ℕ → ℕ
next_count count = min (count + 1) (2 ^ 64 - 1)

abbrev pub raised : HostFault → FaultCounts → FaultCounts
raised Disk counts = record counts { disk = next_count counts.disk }
raised Source counts = record counts { source = next_count counts.source }
raised Sink counts = record counts { sink = next_count counts.sink }
raised Memory counts = record counts { memory = next_count counts.memory }

abbrev pub works_unless : Bool → Turn
works_unless fails = if fails then Fails else Works

-- what becomes of the call of this number
abbrev pub turn_at : Option ℕ → ℕ → Bool → Turn
turn_at None call fails = works_unless fails
turn_at (Some stop) call fails = if nat_lt stop call then Down else (if stop == call then Stops else works_unless fails)

-- what becomes of the newest call
abbrev pub turn_of : Plan → Turn
turn_of plan = turn_at plan.stop plan.calls (contains nat_cmp plan.failing plan.calls)

-- the counts after the call
abbrev pub counted : HostFault → Turn → FaultCounts → FaultCounts
counted fault Works counts = counts
counted fault Fails counts = raised fault counts
counted fault Stops counts = raised fault counts
counted fault Down counts = raised fault counts

abbrev pub faults_of : FaultCounts → Faults
faults_of counts = record { disk = counts.disk; source = counts.source; sink = counts.sink; memory = counts.memory }

-- how often a call has failed in this way
abbrev pub count_of : HostFault → Faults → ℕ
count_of Disk counts = counts.disk
count_of Source counts = counts.source
count_of Sink counts = counts.sink
count_of Memory counts = counts.memory

-- The call has the next number, and its kind and the counts that it finds are kept. Exactly where it doesn't work, this one count rises.
pub record Plans (call : HostCall) (fault : HostFault) (turn : Turn) (old new : Plan) : Type 0 where
  pub failing : new.failing ≡ old.failing
  pub stop : new.stop ≡ old.stop
  pub calls : new.calls ≡ next_count old.calls
  pub is : turn ≡ turn_of new
  pub found : new.found ≡ old.faults
  pub last : new.last ≡ Some call
  pub faults : new.faults ≡ counted fault turn old.faults
  pub falls : NoneFalls (faults_of old.faults) (faults_of new.faults)

-- the call has the next number, and works or not
abbrev pub NextFails : HostCall → HostFault → Bool → Plan → Plan → Type 0
NextFails call fault true old new = Plans call fault Fails old new ⊎ Plans call fault Stops old new ⊎ Plans call fault Down old new
NextFails call fault false old new = Plans call fault Works old new

-- no call was made, and these are to fail
pub record IsNewPlan (failing : List ℕ) (stop : Option ℕ) (plan : Plan) : Type 0 where
  pub fails : (call : ℕ) → contains nat_cmp plan.failing call ≡ list_any (nat_eq call) failing
  pub stops : plan.stop ≡ stop
  pub calls : plan.calls ≡ 0
  pub faults : plan.faults ≡ record { disk = 0; source = 0; sink = 0; memory = 0 }
  pub found : plan.found ≡ record { disk = 0; source = 0; sink = 0; memory = 0 }
  pub last : plan.last ≡ None

-- the plan after a want of memory was counted
pub record OutOfMemory (old new : Plan) : Type 0 where
  pub is : new ≡ record old { faults = raised Memory old.faults }
  pub falls : NoneFalls (faults_of old.faults) (faults_of new.faults)

-- done, or a memory fault that is counted
abbrev pub Checks : Result (Unit {0}) AllocError → Result (Unit {0}) HostFault → Plan → Plan → Type 0
Checks (Ok u) result old new = (result ≡ Ok u) × (new ≡ old)
Checks (Err e) result old new = (result ≡ Err Memory) × OutOfMemory old new
