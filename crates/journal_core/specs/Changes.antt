-- How a call changes a file of records, as bytes.
use Rattle.std.specs.Prelude.{◌≡◌, ◌⊎◌, ℕ, ◌+◌, ◌≤◌, List, [], ◌∷◌, ◌++◌, length, Option, Some}
use Rattle.journal_core.specs.Records.{HasRecords, EndsAt}

-- the file is there, with at most so many bytes
pub record IsShort (most : ℕ) (file : Option (List ℕ)) : Type 0 where
  pub bytes : List ℕ
  pub is : file ≡ Some bytes
  pub short : length bytes ≤ most

-- the file stays as it was, or is there with at most so many bytes
abbrev pub MayMake : ℕ → Option (List ℕ) → Option (List ℕ) → Type 0
MayMake most old new = (new ≡ old) ⊎ IsShort most new

-- a file whose closed gate stands at this offset keeps its records, or has this one more
pub record MayGain (end : ℕ) (payload old new : List ℕ) : Type 0 where
  pub each : (records : List (List ℕ)) → EndsAt end old records → HasRecords new records ⊎ HasRecords new (records ++ payload ∷ [])

-- a file whose closed gate stands at this offset has this record more, and its new closed gate right behind it
pub record Gains (end : ℕ) (payload old new : List ℕ) : Type 0 where
  pub each : (records : List (List ℕ)) → EndsAt end old records → EndsAt (end + 5 + length payload) new (records ++ payload ∷ [])
