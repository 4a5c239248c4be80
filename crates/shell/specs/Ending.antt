-- The status that tells an ending, and the outcome of a run that began nothing.
use Rattle.std.specs.Prelude.{ℕ, List, [], Option, Some, None, Result, Ok, Err}
use Rattle.host_model.specs.declared.fault.HostFault.TheVariants.{Disk, Source, Sink, Memory}
use Rattle.host_model.specs.declared.fault.Stop.{Stop}
use Rattle.host_model.specs.declared.fault.Stop.TheVariants.{Host, Damaged, Full, NoMemory}
use Rattle.ground_store.specs.declared.stop.GroundStop.{GroundStop}
use Rattle.ground_store.specs.declared.stop.GroundStop.TheVariants.{NotInit, NotBlank, Stop as Stopped}
use Rattle.shell.specs.declared.outcomes.Outcome.{Outcome}
use Rattle.shell.specs.declared.ending.Ending.{Ending}
use Rattle.shell.specs.declared.ending.Ending.TheVariants.{ScriptEnd, NoLine}

abbrev pub status_for : Result Ending Stop → ℕ
status_for (Ok ScriptEnd) = 0
status_for (Ok NoLine) = 3
status_for (Err (Host Disk)) = 4
status_for (Err (Host Source)) = 5
status_for (Err (Host Sink)) = 6
status_for (Err (Host Memory)) = 7
status_for (Err NoMemory) = 7
status_for (Err (Damaged name)) = 9
status_for (Err Full) = 10

-- the file that is damaged
abbrev pub damaged_for : Result Ending Stop → Option (List ℕ)
damaged_for (Ok ending) = None
damaged_for (Err (Host fault)) = None
damaged_for (Err (Damaged name)) = Some name
damaged_for (Err Full) = None
damaged_for (Err NoMemory) = None

-- nothing was begun, and this is the status
abbrev pub unbegun : ℕ → Option (List ℕ) → Outcome
unbegun status damaged = record { status = status; lines = 0; history = []; doubt = None; damaged = damaged }

abbrev pub stopped_with : Stop → Outcome
stopped_with stop = unbegun (status_for (Err stop)) (damaged_for (Err stop))

-- there is no store
abbrev pub without_store : GroundStop → Outcome
without_store NotInit = unbegun 8 None
without_store NotBlank = unbegun 8 None
without_store (Stopped stop) = stopped_with stop
