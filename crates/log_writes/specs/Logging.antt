-- How a mutation is added to a log.
use Rattle.std.specs.Prelude.{ℕ, ◌+◌, List, [], ◌∷◌, ◌++◌, length}
use Rattle.std.specs.FinMap as map
use Rattle.host_model.specs.Picture.{Image}
use Rattle.host_model.specs.State.{HostState}
use Rattle.host_model.specs.declared.fault.Stop.{Stop}
use Rattle.host_model.specs.declared.fault.Stop.TheVariants.{Host, Damaged, Full, NoMemory}
use Rattle.journal_core.specs.Journal.{IsFull, IsCounted}
use Rattle.metadata_schema.specs.declared.mutation.Mutation.{Mutation}
use Rattle.log_files.specs.Mutations.{spelled_mutation}
use Rattle.log_files.specs.Logs.{HasLog, HasLogEither}
use Rattle.store_meaning.specs.Ground.{ChangesOnly}
use Rattle.ground_store.specs.Value.{Logs, log_at}

-- ---- the files

-- this log alone changes, and has the mutations that it had, or this one more
pub record MayLogMutation (log : List ℕ) (mutation : Mutation) (old new : Image) : Type 0 where
  pub only : ChangesOnly log old new
  pub either : (mutations : List Mutation) → HasLog log mutations old → HasLogEither log mutations mutation new

-- it has this one more
pub record LogsMutation (log : List ℕ) (mutation : Mutation) (old new : Image) : Type 0 where
  pub only : ChangesOnly log old new
  pub gains : (mutations : List Mutation) → HasLog log mutations old → HasLog log (mutations ++ mutation ∷ []) new

-- ---- where the log goes on

-- behind the mutation's bytes
abbrev pub with_logged : Logs → List ℕ → Mutation → Logs
with_logged logs log mutation = map.insert logs log (record (log_at logs log) { end = (log_at logs log).end + 5 + length (spelled_mutation mutation) })

-- the mutation has too many bytes, or the log has no room for them
abbrev pub IsLogFull : Logs → List ℕ → Mutation → Type 0
IsLogFull logs log mutation = IsFull (log_at logs log).end (spelled_mutation mutation)

-- why a mutation isn't logged; want of memory is free
abbrev pub LogCause : Logs → List ℕ → Mutation → Stop → HostState → HostState → Type 0
LogCause logs log mutation (Host fault) old new = IsCounted fault old new
LogCause logs log mutation (Damaged name) old new = ⊥
LogCause logs log mutation Full old new = IsLogFull logs log mutation
LogCause logs log mutation NoMemory old new = Unit {0}
