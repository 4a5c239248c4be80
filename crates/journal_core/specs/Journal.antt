-- What the calls of a journal ensure.
use Rattle.std.specs.Prelude.{◌≡◌, ◌⊎◌, ℕ, ◌+◌, ◌^◌, ◌<◌, ◌≤◌, List, [], ◌∷◌, ◌++◌, length, Some, Result, OnOk, IsTrue}
use Rattle.host_model.specs.Picture.{Image, Picture, file_at}
use Rattle.host_model.specs.State.{HostState}
use Rattle.host_model.specs.Calls.{IsOfFiles, Faulted, IsSettled}
use Rattle.host_model.specs.Kinds.{IsLook}
use Rattle.host_model.specs.Leaves.{LeavesOnly}
use Rattle.host_model.specs.declared.fault.HostFault.{HostFault}
use Rattle.host_model.specs.declared.fault.Stop.{Stop}
use Rattle.host_model.specs.declared.fault.Stop.TheVariants.{Host, Damaged, Full, NoMemory}
use Rattle.journal_core.specs.Records.{HasRecords, EndsAt}

-- the file is there with these records, and its closed gate stands at this offset
pub record Holds (name : List ℕ) (end : ℕ) (records : List (List ℕ)) (image : Image) : Type 0 where
  pub file : List ℕ
  pub is : file_at image name ≡ Some file
  pub ends : EndsAt end file records

-- the file is there with some records, and its closed gate stands at this offset
pub record IsOpen (name : List ℕ) (end : ℕ) (image : Image) : Type 0 where
  pub records : List (List ℕ)
  pub holds : Holds name end records image

-- the file isn't there, or no list of records is its own
pub record IsDamaged (name : List ℕ) (image : Image) : Type 0 where
  pub none : (end : ℕ) (records : List (List ℕ)) → Holds name end records image → ⊥

-- the payload has 2^32 bytes or more, or the file, up to and with the new closed gate, would have more than 2^40
abbrev pub IsFull : ℕ → List ℕ → Type 0
IsFull end payload = (2 ^ 32 ≤ length payload) ⊎ (2 ^ 40 < end + 5 + length payload + 1)

-- a fault of a call on files, counted in this call by the last call of the host
abbrev pub IsCounted : HostFault → HostState → HostState → Type 0
IsCounted fault old new = IsOfFiles fault × Faulted fault old new

-- why a call on files that takes memory may stop
abbrev pub FileCause : Stop → HostState → HostState → Type 0
FileCause (Host fault) old new = IsCounted fault old new
FileCause (Damaged name) old new = ⊥
FileCause Full old new = ⊥
FileCause NoMemory old new = Unit {0}

-- Why an opening may stop. Where the file is damaged, the last call only asked.
abbrev pub OpenCause : List ℕ → Stop → HostState → HostState → Type 0
OpenCause name (Host fault) old new = IsCounted fault old new
OpenCause name (Damaged damaged) old new = (damaged ≡ name) × (IsTrue old.is_faithful → IsDamaged name old.files) × IsLook new.last
OpenCause name Full old new = ⊥
OpenCause name NoMemory old new = Unit {0}

-- why an append may stop
abbrev pub AppendCause : ℕ → List ℕ → Stop → HostState → HostState → Type 0
AppendCause end payload (Host fault) old new = IsCounted fault old new
AppendCause end payload (Damaged name) old new = ⊥
AppendCause end payload Full old new = IsFull end payload
AppendCause end payload NoMemory old new = ⊥

-- the file is there, with these records
pub record HasThere (name : List ℕ) (records : List (List ℕ)) (image : Image) : Type 0 where
  pub file : List ℕ
  pub is : file_at image name ≡ Some file
  pub has : HasRecords file records

-- the file is there, with these records or with this one more
abbrev pub HasEither : List ℕ → List (List ℕ) → List ℕ → Image → Type 0
HasEither name records payload image = HasThere name records image ⊎ HasThere name (records ++ payload ∷ []) image

-- What an append does to a file with these records. The promises on crashes hold where no write to the file was pending.
pub record Appends (name : List ℕ) (end : ℕ) (records : List (List ℕ)) (payload : List ℕ) {T E : Type 0} (result : Result T E) (old new : HostState) : Type 0 where
  pub done : IsTrue old.is_faithful → OnOk result (Holds name (end + 5 + length payload) (records ++ payload ∷ []) new.files)
  -- after a fault it is whole or absent
  pub tried : IsTrue old.is_faithful → HasEither name records payload new.files
  -- in each crash since the call began it is whole or absent
  pub crash : IsTrue old.is_honest → IsSettled name old → LeavesOnly (λ p. HasEither name records payload p.image) old new
  -- in each crash after an Ok it is whole
  pub lasts : IsTrue old.is_honest → OnOk result ((p : Picture) → new.may_leave p → HasThere name (records ++ payload ∷ []) p.image)
