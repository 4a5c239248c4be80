-- Why the actions stop.
use Rattle.host_model.specs.State.{HostState}
use Rattle.host_model.specs.Calls.{IsOfFiles, IsOfSink, IsOfSource, Faulted}
use Rattle.host_model.specs.declared.fault.Stop.{Stop}
use Rattle.host_model.specs.declared.fault.Stop.TheVariants.{Host, Damaged, Full, NoMemory}

-- a fault of a call on files, which is counted, or want of memory
abbrev pub FileCause : Stop → HostState → HostState → Type 0
FileCause (Host fault) old new = IsOfFiles fault × Faulted fault old new
FileCause (Damaged name) old new = ⊥
FileCause Full old new = ⊥
FileCause NoMemory old new = Unit {0}

-- a fault while bytes are said
abbrev pub IsSayStop : Stop → Type 0
IsSayStop (Host fault) = IsOfSink fault
IsSayStop (Damaged name) = ⊥
IsSayStop Full = ⊥
IsSayStop NoMemory = ⊥

-- a fault while bytes are heard
abbrev pub IsHearStop : Stop → Type 0
IsHearStop (Host fault) = IsOfSource fault
IsHearStop (Damaged name) = ⊥
IsHearStop Full = ⊥
IsHearStop NoMemory = ⊥
