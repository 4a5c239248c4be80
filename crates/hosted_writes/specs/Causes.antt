-- Why nothing is put.
use Rattle.std.specs.Prelude.{◌⊎◌, ◌≤◌, ◌^◌, ℕ, List}
use Rattle.host_model.specs.State.{HostState}
use Rattle.host_model.specs.declared.fault.Stop.{Stop}
use Rattle.host_model.specs.declared.fault.Stop.TheVariants.{Host, Damaged, Full, NoMemory}
use Rattle.journal_core.specs.Journal.{IsCounted}
use Rattle.metadata_schema.specs.declared.mutation.Mutation.{Mutation}
use Rattle.ground_store.specs.Value.{Logs}
use Rattle.log_writes.specs.Logging.{IsLogFull}

-- its time would reach the end of times, or the log has no room for it
abbrev pub IsPutFull : Logs → List ℕ → Mutation → Type 0
IsPutFull logs log mutation = (2 ^ 63 ≤ mutation.time) ⊎ IsLogFull logs log mutation

-- why a mutation isn't put; want of memory is free
abbrev pub PutCause : Logs → List ℕ → Mutation → Stop → HostState → HostState → Type 0
PutCause logs log mutation (Host fault) old new = IsCounted fault old new
PutCause logs log mutation (Damaged name) old new = ⊥
PutCause logs log mutation Full old new = IsPutFull logs log mutation
PutCause logs log mutation NoMemory old new = Unit {0}
