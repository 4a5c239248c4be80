-- What is counted.
use Rattle.std.proofs.Common.{◌≡◌, ◌⊎◌, inl, inr, ⊎_elim, ap, subst, ◌∙◌, arith, Some, true}
use Rattle.host_model.specs.Calls.{NoneFalls, Counted}
use Rattle.host_model.specs.declared.call.HostCall.{HostCall}
use Rattle.host_model.specs.declared.fault.HostFault.{HostFault}
use Rattle.host_model.specs.declared.fault.HostFault.TheVariants.{Disk, Source, Sink, Memory}
use Rattle.host_model.proofs.CallsLemmas.{none_falls-then, counted-then}
use Rattle.memory_host.specs.declared.plan.FaultCounts.{FaultCounts}
use Rattle.memory_host.specs.declared.plan.Plan.{Plan}
use Rattle.memory_host.specs.declared.plan.Turn.{Turn}
use Rattle.memory_host.specs.declared.plan.Turn.TheVariants.{Fails, Stops, Down}
use Rattle.memory_host.specs.Plan.{Plans, NextFails, OutOfMemory, faults_of, raised}

rose_by : (fault : HostFault) (old new : FaultCounts) → new ≡ raised fault old → Counted fault (faults_of old) (faults_of new)
rose_by Disk old new is = omega (arith, ap (λ (c : FaultCounts). c.disk) is)
rose_by Source old new is = omega (arith, ap (λ (c : FaultCounts). c.source) is)
rose_by Sink old new is = omega (arith, ap (λ (c : FaultCounts). c.sink) is)
rose_by Memory old new is = omega (arith, ap (λ (c : FaultCounts). c.memory) is)

-- the fault of a call is counted
pub rose_in_stops : {kind : HostCall} (fault : HostFault) (old new : Plan) → Plans kind fault Stops old new → Counted fault (faults_of old.faults) (faults_of new.faults)
rose_in_stops fault old new plans = rose_by fault old.faults new.faults plans.faults

pub rose_in_fails : {kind : HostCall} (fault : HostFault) (old new : Plan) → Plans kind fault Fails old new → Counted fault (faults_of old.faults) (faults_of new.faults)
rose_in_fails fault old new plans = rose_by fault old.faults new.faults plans.faults

pub rose_in_down : {kind : HostCall} (fault : HostFault) (old new : Plan) → Plans kind fault Down old new → Counted fault (faults_of old.faults) (faults_of new.faults)
rose_in_down fault old new plans = rose_by fault old.faults new.faults plans.faults

pub rose_either : {kind : HostCall} (fault : HostFault) (turn first second : Turn) (old new : Plan) → ((old new : Plan) → Plans kind fault first old new → Counted fault (faults_of old.faults) (faults_of new.faults)) → ((old new : Plan) → Plans kind fault second old new → Counted fault (faults_of old.faults) (faults_of new.faults))
    → (turn ≡ first) ⊎ (turn ≡ second) → Plans kind fault turn old new → Counted fault (faults_of old.faults) (faults_of new.faults)
rose_either {kind} fault turn first second old new one two is plans = ⊎_elim (λ e. one old new (subst (λ t. Plans kind fault t old new) e plans)) (λ e. two old new (subst (λ t. Plans kind fault t old new) e plans)) is

-- the same, where it doesn't matter how it failed
pub rose_at_all : {kind : HostCall} (fault : HostFault) (old new : Plan) → NextFails kind fault true old new → Counted fault (faults_of old.faults) (faults_of new.faults)
rose_at_all fault old new (inl plans) = rose_in_fails fault old new plans
rose_at_all fault old new (inr (inl plans)) = rose_in_stops fault old new plans
rose_at_all fault old new (inr (inr plans)) = rose_in_down fault old new plans

-- the newest call kept its kind and the counts that it found, and none fell in it
pub record Called (kind : HostCall) (old new : Plan) : Type 0 where
  pub found : faults_of new.found ≡ faults_of old.faults
  pub last : new.last ≡ Some kind
  pub falls : NoneFalls (faults_of old.faults) (faults_of new.faults)

pub called : {kind : HostCall} {fault : HostFault} {turn : Turn} {old new : Plan} → Plans kind fault turn old new → Called kind old new
called plans = record { found = ap (λ (c : FaultCounts). faults_of c) plans.found; last = plans.last; falls = plans.falls }

pub called_at_all : {kind : HostCall} (fault : HostFault) (old new : Plan) → NextFails kind fault true old new → Called kind old new
called_at_all fault old new (inl plans) = called plans
called_at_all fault old new (inr (inl plans)) = called plans
called_at_all fault old new (inr (inr plans)) = called plans

-- a want of memory is counted
pub memory_called : {kind : HostCall} (old mid new : Plan) → Called kind old mid → OutOfMemory mid new → Called kind old new
memory_called old mid new call out = record { found = ap (λ (p : Plan). faults_of p.found) out.is ∙ call.found; last = ap (λ (p : Plan). p.last) out.is ∙ call.last; falls = none_falls-then call.falls out.falls }

pub memory_rose : {kind : HostCall} (old mid new : Plan) → Called kind old mid → OutOfMemory mid new → Counted Memory (faults_of old.faults) (faults_of new.faults)
memory_rose old mid new call out = counted-then Memory (faults_of old.faults) (faults_of mid.faults) (faults_of new.faults) call.falls (rose_by Memory mid.faults new.faults (ap (λ (p : Plan). p.faults) out.is))
