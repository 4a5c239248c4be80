-- What records a file has.
use Rattle.std.specs.Prelude.{◌≡◌, ◌≢◌, ℕ, ◌^◌, ◌<◌, List, [], ◌∷◌, ◌++◌, length, All}
use Rattle.std.specs.Int.{w32, to_be_bytes}

-- a payload behind its length
abbrev pub body : List ℕ → List ℕ
body payload = to_be_bytes w32 (length payload) ++ payload

-- records, each behind an open gate
abbrev pub spelled : List (List ℕ) → List ℕ
spelled [] = []
spelled (payload ∷ more) = 1 ∷ body payload ++ spelled more

-- the file is these records, a closed gate, and anything behind it
pub record HasRecords (file : List ℕ) (records : List (List ℕ)) : Type 0 where
  pub gate : ℕ
  pub rest : List ℕ
  pub shut : gate ≢ 1
  pub is : file ≡ spelled records ++ gate ∷ rest
  pub short : All (λ payload. length payload < 2 ^ 32) records

-- the file has these records, and its closed gate stands at this offset
pub record EndsAt (end : ℕ) (file : List ℕ) (records : List (List ℕ)) : Type 0 where
  pub has : HasRecords file records
  pub counts : end ≡ length (spelled records)

-- no list of records is the file's
pub record HasNone (file : List ℕ) : Type 0 where
  pub none : (records : List (List ℕ)) → HasRecords file records → ⊥
