-- What the private functions that read bytes ensure.
use Rattle.std.specs.Prelude.{◌≡◌, ℕ, ◌^◌, ◌<◌, codes, List, ◌++◌, length, All, map}
use Rattle.std.specs.Int.{w64}
use Rattle.std.specs.List.{flat_map}
use Rattle.bytes_form.specs.Fields.{number_field}
use Rattle.metadata_schema.specs.declared.mutation.Mutation.{Mutation}
use Rattle.log_files.specs.Mutations.{Bytes, spelled_mutation, IsMutation, IsLogged}
use Rattle.log_files.specs.Sorted.{IsSortedLog}

-- a value that fits stands in front, and this behind it
pub record Starts {V : Type 0} (fits : V → Type 0) (spelling : V → Bytes) (bytes : Bytes) (value : V) (rest : Bytes) : Type 0 where
  pub is : bytes ≡ spelling value ++ rest
  pub value_fits : fits value

-- none stands in front
pub record StartsNone {V : Type 0} (fits : V → Type 0) (spelling : V → Bytes) (bytes : Bytes) : Type 0 where
  pub none : (value : V) (rest : Bytes) → Starts fits spelling bytes value rest → ⊥

-- so many values that fit stand in front, in order, and this behind them
pub record StartsMany {V : Type 0} (fits : V → Type 0) (ordered : List V → Type 0) (spelling : V → Bytes) (count : ℕ) (bytes : Bytes) (values : List V) (rest : Bytes) : Type 0 where
  pub is : bytes ≡ flat_map spelling values ++ rest
  pub counts : length values ≡ count
  pub each : All fits values
  pub in_order : ordered values

-- not so many stand in front in order
pub record StartsFewer {V : Type 0} (fits : V → Type 0) (ordered : List V → Type 0) (spelling : V → Bytes) (count : ℕ) (bytes : Bytes) : Type 0 where
  pub none : (values : List V) (rest : Bytes) → StartsMany fits ordered spelling count bytes values rest → ⊥

-- the bytes are no mutation's
pub record IsNoMutation (bytes : Bytes) : Type 0 where
  pub none : (mutation : Mutation) → IsMutation bytes mutation → ⊥

-- the records are not all mutations that a log can hold
pub record AreNoMutations (records : List Bytes) : Type 0 where
  pub none : (mutations : List Mutation) → records ≡ map spelled_mutation mutations → All IsLogged mutations → ⊥

-- the records are these mutations
pub record AreMutations (records : List Bytes) (mutations : List Mutation) : Type 0 where
  pub is : records ≡ map spelled_mutation mutations
  pub each : All IsLogged mutations

-- the bytes are no sorted log's
pub record HasNoSorted (bytes : Bytes) : Type 0 where
  pub none : (mutations : List Mutation) → IsSortedLog bytes mutations → ⊥

-- the magic and a number stand in front, and this behind them
pub record StartsHead (bytes : Bytes) (count : ℕ) (rest : Bytes) : Type 0 where
  pub is : bytes ≡ codes "ACMLOG01" ++ number_field w64 count ++ rest
  pub count_fits : count < 2 ^ 64

pub record StartsNoHead (bytes : Bytes) : Type 0 where
  pub none : (count : ℕ) (rest : Bytes) → StartsHead bytes count rest → ⊥

-- the bytes are this mutation, which a record can hold
pub record IsEntry (bytes : Bytes) (mutation : Mutation) : Type 0 where
  pub is : bytes ≡ spelled_mutation mutation
  pub logged : IsLogged mutation

-- the bytes are none that a record can hold
pub record IsNoEntry (bytes : Bytes) : Type 0 where
  pub none : (mutation : Mutation) → IsEntry bytes mutation → ⊥
