-- The grammar of logs, and what the calls on them ensure.
use Rattle.std.specs.Prelude.{◌≡◌, ◌⊎◌, ℕ, ◌+◌, List, [], ◌∷◌, ◌++◌, length, map, All, Some, Result, OnOk, IsTrue}
use Rattle.host_model.specs.Picture.{Image, Picture, file_at}
use Rattle.host_model.specs.State.{HostState}
use Rattle.host_model.specs.Calls.{IsSettled}
use Rattle.host_model.specs.Leaves.{LeavesOnly}
use Rattle.host_model.specs.declared.fault.Stop.{Stop}
use Rattle.host_model.specs.declared.fault.Stop.TheVariants.{Host, Damaged, Full, NoMemory}
use Rattle.journal_core.specs.Records.{HasRecords}
use Rattle.journal_core.specs.Journal.{Holds, IsCounted}
use Rattle.metadata_schema.specs.declared.mutation.Mutation.{Mutation}
use Rattle.log_files.specs.Mutations.{Bytes, spelled_mutation, IsSpelled}

-- the file is a journal, and its records are these mutations
pub record IsLog (bytes : Bytes) (mutations : List Mutation) : Type 0 where
  pub records : HasRecords bytes (map spelled_mutation mutations)
  pub each : All IsSpelled mutations

-- the log is there, with these mutations
pub record HasLog (log : Bytes) (mutations : List Mutation) (image : Image) : Type 0 where
  pub bytes : Bytes
  pub there : file_at image log ≡ Some bytes
  pub is_log : IsLog bytes mutations

-- the log is there with these mutations, and its closed gate stands at this offset
pub record HoldsLog (log : Bytes) (end : ℕ) (mutations : List Mutation) (image : Image) : Type 0 where
  pub holds : Holds log end (map spelled_mutation mutations) image
  pub each : All IsSpelled mutations

-- the log isn't there, or no list of mutations is its own
pub record IsNoLog (log : Bytes) (image : Image) : Type 0 where
  pub none : (mutations : List Mutation) → HasLog log mutations image → ⊥

-- the log is there, with these mutations or with this one more
abbrev pub HasLogEither : Bytes → List Mutation → Mutation → Image → Type 0
HasLogEither log mutations mutation image = HasLog log mutations image ⊎ HasLog log (mutations ++ mutation ∷ []) image

-- What an append of a mutation does to a log of these. The promises on crashes hold where no write to the file was pending.
pub record AppendsMutation (log : Bytes) (end : ℕ) (mutations : List Mutation) (mutation : Mutation) {T E : Type 0} (result : Result T E) (old new : HostState) : Type 0 where
  pub done : IsTrue old.is_faithful → OnOk result (HoldsLog log (end + 5 + length (spelled_mutation mutation)) (mutations ++ mutation ∷ []) new.files)
  -- after a fault it is whole or absent
  pub tried : IsTrue old.is_faithful → HasLogEither log mutations mutation new.files
  -- in each crash since the call began it is whole or absent
  pub crash : IsTrue old.is_honest → IsSettled log old → LeavesOnly (λ p. HasLogEither log mutations mutation p.image) old new
  -- in each crash after an Ok it is whole
  pub lasts : IsTrue old.is_honest → OnOk result ((p : Picture) → new.may_leave p → HasLog log (mutations ++ mutation ∷ []) p.image)

-- why a file of this name may not be read, where only one that is damaged so may be called so
abbrev pub ReadCause : Bytes → Type 0 → Stop → HostState → HostState → Type 0
ReadCause name damage (Host fault) old new = IsCounted fault old new
ReadCause name damage (Damaged damaged) old new = (damaged ≡ name) × (IsTrue old.is_faithful → damage)
ReadCause name damage Full old new = ⊥
ReadCause name damage NoMemory old new = Unit {0}
