-- What the private functions ensure.
use Rattle.std.specs.Prelude.{◌≡◌, ℕ, ◌^◌, ◌<◌, ◌≤◌, List, ◌∷◌, ◌++◌, length, take}
use Rattle.journal_core.specs.Records.{body}

-- the first so many bytes stay, and the file gets no shorter
pub record KeepsFront (count : ℕ) (old new : List ℕ) : Type 0 where
  pub front : take count new ≡ take count old
  pub no_shorter : length old ≤ length new

-- the bytes are a whole record, and this rest
pub record IsRecord (bytes payload rest : List ℕ) : Type 0 where
  pub is : bytes ≡ 1 ∷ body payload ++ rest
  pub short : length payload < 2 ^ 32

-- no whole record stands at the front
pub record HasNoRecord (bytes : List ℕ) : Type 0 where
  pub none : (payload rest : List ℕ) → IsRecord bytes payload rest → ⊥
