-- What each call of a host ensures.
use Rattle.std.specs.Prelude.{◌≡◌, ℕ, Vec, ◌+◌, ◌-◌, ◌^◌, ◌≤◌, min, max, List, [], ◌++◌, length, take, drop, Option, Some, Result, IsTrue, IfOk, IfErr, OnOk}
use Rattle.host_model.specs.Picture.{Image, Picture, file_at, ChangesFile, OnBytes, Becomes, MayBecome, FileStep, Same, file_names}
use Rattle.host_model.specs.State.{Faults, HostState, picture_now}
use Rattle.host_model.specs.Moves.{Moves}
use Rattle.host_model.specs.declared.call.HostCall.{HostCall}
use Rattle.host_model.specs.declared.call.HostCall.TheVariants as call
use Rattle.host_model.specs.declared.fault.HostFault.{HostFault}
use Rattle.host_model.specs.declared.fault.Stop.{Stop}
use Rattle.host_model.specs.declared.fault.Stop.TheVariants.{Host, Damaged, Full, NoMemory}
use Rattle.std.specs.declared.alloc.Global.{Global}
use Rattle.host_model.specs.declared.fault.HostFault.TheVariants.{Disk, Source, Sink, Memory}

-- the count rose, or stands at its last value
abbrev pub Rose : ℕ → ℕ → Type 0
Rose old new = min (old + 1) (2 ^ 64 - 1) ≤ new

pub record NoneFalls (old new : Faults) : Type 0 where
  pub disk : old.disk ≤ new.disk
  pub source : old.source ≤ new.source
  pub sink : old.sink ≤ new.sink
  pub memory : old.memory ≤ new.memory

-- the fault is counted
abbrev pub Counted : HostFault → Faults → Faults → Type 0
Counted Disk old new = Rose old.disk new.disk
Counted Source old new = Rose old.source new.source
Counted Sink old new = Rose old.sink new.sink
Counted Memory old new = Rose old.memory new.memory

-- the fault is counted, and the last call is the one that counted it
pub record Faulted (fault : HostFault) (old new : HostState) : Type 0 where
  pub counted : Counted fault old.faults new.faults
  pub last : Counted fault new.before new.faults

-- a call on files answers these two alone
abbrev pub IsOfFiles : HostFault → Type 0
IsOfFiles Disk = Unit {0}
IsOfFiles Source = ⊥
IsOfFiles Sink = ⊥
IsOfFiles Memory = Unit {0}

abbrev pub IsOfSource : HostFault → Type 0
IsOfSource Disk = ⊥
IsOfSource Source = Unit {0}
IsOfSource Sink = ⊥
IsOfSource Memory = Unit {0}

abbrev pub IsOfSink : HostFault → Type 0
IsOfSink Disk = ⊥
IsOfSink Source = ⊥
IsOfSink Sink = Unit {0}
IsOfSink Memory = Unit {0}

-- each call keeps what kind of host it is, and no count falls
pub record Keeps (old new : HostState) : Type 0 where
  pub faithful : new.is_faithful ≡ old.is_faithful
  pub honest : new.is_honest ≡ old.is_honest
  pub counts : NoneFalls old.faults new.faults

-- nothing is said or heard
pub record IsQuiet (old new : HostState) : Type 0 where
  pub keeps : Keeps old new
  pub said : IsTrue old.is_faithful → new.said ≡ old.said
  pub script : IsTrue old.is_faithful → new.script ≡ old.script

-- a fault of a call on files is the disk's or for memory, and is counted
pub record HasCause {T : Type 0} (result : Result T HostFault) (old new : HostState) : Type 0 where
  pub caused : IfErr result (λ fault. IsOfFiles fault × Faulted fault old new)

-- a file with other bytes from this offset on
abbrev pub overlaid : List ℕ → ℕ → List ℕ → List ℕ
overlaid file at bytes = take at file ++ bytes ++ drop (at + length bytes) file

-- these bytes stand at this offset, which was in the file or at its end
pub record Puts (at : ℕ) (bytes old new : List ℕ) : Type 0 where
  pub within : at ≤ length old
  pub is : new ≡ overlaid old at bytes

-- a write of n bytes that a crash cuts short: any bytes in the range and past the old end, the same elsewhere
pub record Torn (at n : ℕ) (old new : List ℕ) : Type 0 where
  pub before : take at new ≡ take at old
  pub after : drop (at + n) new ≡ drop (at + n) old
  pub no_shorter : length old ≤ length new
  pub no_longer : length new ≤ max (length old) (at + n)

-- the file is there, and has at least so many bytes
pub record Reaches (image : Image) (name : List ℕ) (at : ℕ) : Type 0 where
  pub file : List ℕ
  pub is : file_at image name ≡ Some file
  pub within : at ≤ length file

abbrev pub TearsFile : List ℕ → ℕ → ℕ → Picture → Picture → Type 0
TearsFile name at n = FileStep name (OnBytes (Torn at n))

pub record Writes (name : List ℕ) (at : ℕ) (bytes : List ℕ) {T : Type 0} (result : Result T HostFault) (old new : HostState) : Type 0 where
  pub quiet : IsQuiet old new
  pub began : new.before ≡ old.faults
  pub last : new.last ≡ Some call.Write
  pub cause : HasCause result old new
  pub done : IsTrue old.is_faithful → OnOk result (ChangesFile name (OnBytes (Puts at bytes)) old.files new.files)
  pub tried : IsTrue old.is_faithful → ChangesFile name (OnBytes (Torn at (length bytes))) old.files new.files
  pub moves : IsTrue old.is_honest → Moves (TearsFile name at (length bytes)) (TearsFile name at (length bytes)) old new

-- a crash leaves of this file what a read gives
pub record IsSettled (name : List ℕ) (state : HostState) : Type 0 where
  pub each : (p : Picture) → state.may_leave p → file_at p.image name ≡ file_at state.files name

pub record Syncs (name : List ℕ) {T : Type 0} (result : Result T HostFault) (old new : HostState) : Type 0 where
  pub quiet : IsQuiet old new
  pub began : new.before ≡ old.faults
  pub last : new.last ≡ Some call.Sync
  pub cause : HasCause result old new
  pub same : IsTrue old.is_faithful → new.files ≡ old.files
  pub moves : IsTrue old.is_honest → Moves Same Same old new
  pub settled : IsTrue old.is_honest → OnOk result (IsSettled name new)

-- by a call of this kind the file is made this one, whole or not at all, and lasting on return
pub record Replaces (kind : HostCall) (name : List ℕ) (file : Option (List ℕ)) {T : Type 0} (result : Result T HostFault) (old new : HostState) : Type 0 where
  pub quiet : IsQuiet old new
  pub began : new.before ≡ old.faults
  pub last : new.last ≡ Some kind
  pub cause : HasCause result old new
  pub done : IsTrue old.is_faithful → OnOk result (ChangesFile name (Becomes file) old.files new.files)
  pub tried : IsTrue old.is_faithful → ChangesFile name (MayBecome file) old.files new.files
  pub moves : IsTrue old.is_honest → Moves (FileStep name (MayBecome file)) (FileStep name (MayBecome file)) old new
  pub lasting : IsTrue old.is_honest → OnOk result (Moves (FileStep name (MayBecome file)) (FileStep name (Becomes file)) old new)

-- a call of this kind, which only asks of the files
pub record Asks (kind : HostCall) {T : Type 0} (result : Result T HostFault) (old new : HostState) : Type 0 where
  pub quiet : IsQuiet old new
  pub began : new.before ≡ old.faults
  pub last : new.last ≡ Some kind
  pub cause : HasCause result old new
  pub same : IsTrue old.is_faithful → new.files ≡ old.files
  pub moves : IsTrue old.is_honest → Moves Same Same old new

-- calls that only ask of the files
pub record Looks (old new : HostState) : Type 0 where
  pub quiet : IsQuiet old new
  pub same : IsTrue old.is_faithful → new.files ≡ old.files
  pub moves : IsTrue old.is_honest → Moves Same Same old new

-- these bytes stand in the file
abbrev pub IsPart : List ℕ → ℕ → List ℕ → Type 0
IsPart file at bytes = take (length bytes) (drop at file) ≡ bytes

pub record Reads (name : List ℕ) (at : ℕ) (into : List ℕ) {T : Type 0} (result : Result T HostFault) (old new : HostState) : Type 0 where
  pub asks : Asks call.Read result old new
  pub bytes : IsTrue old.is_faithful → OnOk result ((file : List ℕ) → file_at old.files name ≡ Some file → IsPart file at into)

-- the said bytes gain a front of these
pub record SaysFront (bytes : List ℕ) (old new : Picture) : Type 0 where
  pub image : new.image ≡ old.image
  pub count : ℕ
  pub said : new.said ≡ old.said ++ take count bytes

pub record Says (bytes : List ℕ) {T : Type 0} (result : Result T HostFault) (old new : HostState) : Type 0 where
  pub keeps : Keeps old new
  pub same : IsTrue old.is_faithful → (new.files ≡ old.files) × (new.script ≡ old.script)
  pub done : IsTrue old.is_faithful → OnOk result (new.said ≡ old.said ++ bytes)
  pub tried : IsTrue old.is_faithful → SaysFront bytes (picture_now old) (picture_now new)
  pub moves : IsTrue old.is_honest → Moves (SaysFront bytes) (SaysFront bytes) old new
  pub began : new.before ≡ old.faults
  pub last : new.last ≡ Some call.Say
  pub counted : IfErr result (λ fault. IsOfSink fault × Faulted fault old new)

-- so many bytes of the script are heard, and some unless it is at its end
pub record HearsFront (room count : ℕ) (into script rest : List ℕ) : Type 0 where
  pub within : count ≤ room
  pub front : take count into ++ rest ≡ script
  pub some : count ≡ 0 → script ≡ []

pub record Hears (into : List ℕ) (result : Result ℕ HostFault) (old new : HostState) : Type 0 where
  pub keeps : Keeps old new
  -- of every host, so that what was heard can be cut off safely
  pub room : IfOk result (λ count. count ≤ length into)
  pub same : IsTrue old.is_faithful → (new.files ≡ old.files) × (new.said ≡ old.said)
  pub done : IsTrue old.is_faithful → IfOk result (λ count. HearsFront (length into) count into old.script new.script)
  pub failed : IsTrue old.is_faithful → IfErr result (λ _. new.script ≡ old.script)
  pub moves : IsTrue old.is_honest → Moves Same Same old new
  pub began : new.before ≡ old.faults
  pub last : new.last ≡ Some call.Hear
  pub counted : IfErr result (λ fault. IsOfSource fault × Faulted fault old new)

-- what holds of every host
pub record IsSound (state : HostState) : Type 0 where
  pub faithful : IsTrue state.is_honest → IsTrue state.is_faithful
  -- what an honest host reads now may stay
  pub stays : IsTrue state.is_honest → state.may_leave (picture_now state)
  pub said : IsTrue state.is_honest → (p : Picture) → state.may_leave p → p.said ≡ state.said
  -- this moment is one of those since an earlier one
  pub counts_now : IsTrue state.is_honest → (t : ℕ) (p : Picture) → t ≤ state.moment → state.may_leave p → state.left_since t p
  -- since this moment there is no other
  pub only_now : IsTrue state.is_honest → (p : Picture) → state.left_since state.moment p → state.may_leave p

-- `names` answers these two alone
abbrev pub NamesCause : Stop → HostState → HostState → Type 0
NamesCause (Host Disk) old new = Faulted Disk old new
NamesCause (Host Source) old new = ⊥
NamesCause (Host Sink) old new = ⊥
NamesCause (Host Memory) old new = ⊥
NamesCause (Damaged name) old new = ⊥
NamesCause Full old new = ⊥
NamesCause NoMemory old new = Unit {0}

pub record Names (result : Result (Vec (List ℕ) Global) Stop) (old new : HostState) : Type 0 where
  pub quiet : IsQuiet old new
  pub began : new.before ≡ old.faults
  pub last : new.last ≡ Some call.Names
  pub cause : IfErr result (λ stop. NamesCause stop old new)
  pub same : IsTrue old.is_faithful → new.files ≡ old.files
  pub moves : IsTrue old.is_honest → Moves Same Same old new
  pub names : IsTrue old.is_faithful → IfOk result (λ names. names.items ≡ file_names old.files)
