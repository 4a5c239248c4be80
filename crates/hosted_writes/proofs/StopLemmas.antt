-- A write that stopped before its mutation was logged.
use Rattle.std.proofs.Common.{ℕ, List, Some}
use Rattle.host_model.specs.State.{HostState}
use Rattle.host_model.specs.Calls.{IsSound}
use Rattle.host_model.specs.declared.fault.Stop.{Stop}
use Rattle.metadata_schema.specs.declared.mutation.Mutation.{Mutation}
use Rattle.ground_store.specs.Value.{GroundValue}
use Rattle.ground_store.specs.Acts.{Acts}
use Rattle.ground_store.specs.Steps.{Stays}
use Rattle.log_writes.specs.Logging.{MayLogMutation, LogsMutation}
use Rattle.log_writes.proofs.ActLemmas.{still}
use Rattle.log_writes.proofs.LogLemmas.{may_stay}

pub unlogged : {H : Type 0} (state : H → HostState) (log : List ℕ) (mutation : Mutation) {stop : Stop} {x y : GroundValue H} → IsSound (state x.host) → Acts state Stays Stays (Some stop) x y
    → Acts state (MayLogMutation log mutation) (LogsMutation log mutation) (Some stop) x y
unlogged state log mutation sound acts = still state (MayLogMutation log mutation) (LogsMutation log mutation) sound (may_stay log mutation) acts
