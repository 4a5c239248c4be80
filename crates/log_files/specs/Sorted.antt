-- The grammar of sorted logs, and what the calls on them ensure.
use Rattle.std.specs.Prelude.{◌≡◌, ◌^◌, ◌<◌, codes, List, ◌++◌, length, drop, All, Option, Some, Result, OnOk, IsTrue}
use Rattle.std.specs.Int.{w64}
use Rattle.std.specs.List.{flat_map}
use Rattle.std.specs.List.Sorted.{IsPermutation, IsSorted, IsStable}
use Rattle.std.specs.Ordering.{ordering_then, nat_cmp}
use Rattle.std.specs.declared.cmp.Ordering.{Ordering}
use Rattle.host_model.specs.Picture.{Image, Picture, file_at}
use Rattle.host_model.specs.State.{HostState}
use Rattle.row_keys.specs.RowOrder.{bytes_cmp}
use Rattle.bytes_form.specs.Fields.{number_field, sized_field}
use Rattle.metadata_schema.specs.declared.mutation.Mutation.{Mutation}
use Rattle.log_files.specs.Mutations.{Bytes, spelled_mutation, IsLogged}

-- `sorted-` and the session, for `log-` and the session
abbrev pub sorted_name : Bytes → Bytes
sorted_name log = codes "sorted-" ++ drop 4 log

-- by table, then by row, then by time
abbrev pub mutation_cmp : Mutation → Mutation → Ordering
mutation_cmp a b = ordering_then (ordering_then (bytes_cmp a.table b.table) (bytes_cmp a.row b.row)) (nat_cmp a.time b.time)

-- none is below the one before it
abbrev pub AreInOrder : List Mutation → Type 0
AreInOrder mutations = IsSorted mutation_cmp mutations

-- The same mutations in order. Those of one table, row and time stand in the order that they had.
pub record IsStableSortOf (mutations sorted : List Mutation) : Type 0 where
  pub same : IsPermutation mutations sorted
  pub in_order : AreInOrder sorted
  pub stable : IsStable mutation_cmp mutations sorted

-- a mutation behind its length, in four bytes
unfoldable pub spelled_entry : Mutation → Bytes
spelled_entry mutation = sized_field (spelled_mutation mutation)

-- the magic, how many mutations there are, and one behind the other
unfoldable pub spelled_sorted : List Mutation → Bytes
spelled_sorted mutations = codes "ACMLOG01" ++ number_field w64 (length mutations) ++ flat_map spelled_entry mutations

-- the file is the sorted log of these mutations, and nothing follows
pub record IsSortedLog (bytes : Bytes) (mutations : List Mutation) : Type 0 where
  pub is : bytes ≡ spelled_sorted mutations
  pub each : All IsLogged mutations
  pub in_order : AreInOrder mutations
  pub short : length bytes < 2 ^ 64

-- the file is there, and is the sorted log of these mutations
pub record HasSorted (name : Bytes) (mutations : List Mutation) (image : Image) : Type 0 where
  pub bytes : Bytes
  pub there : file_at image name ≡ Some bytes
  pub is_sorted : IsSortedLog bytes mutations

-- the file isn't there, or is no sorted log
pub record IsNoSorted (name : Bytes) (image : Image) : Type 0 where
  pub none : (mutations : List Mutation) → HasSorted name mutations image → ⊥

-- the file is the sorted log of these mutations, sorted
pub record IsSortOf (mutations : List Mutation) (file : Option Bytes) : Type 0 where
  pub sorted : List Mutation
  pub bytes : Bytes
  pub sorts : IsStableSortOf mutations sorted
  pub there : file ≡ Some bytes
  pub is_sorted : IsSortedLog bytes sorted

-- whatever the file was, it becomes that
abbrev pub BecomesSortOf : List Mutation → Option Bytes → Option Bytes → Type 0
BecomesSortOf mutations old new = IsSortOf mutations new

-- At Ok the file is the sorted log of these mutations, sorted, and so it is in each crash from then on until it is changed.
pub record WritesSorted (name : Bytes) (mutations : List Mutation) {T E : Type 0} (result : Result T E) (old new : HostState) : Type 0 where
  pub done : IsTrue old.is_faithful → OnOk result (IsSortOf mutations (file_at new.files name))
  pub lasts : IsTrue old.is_honest → OnOk result ((p : Picture) → new.may_leave p → IsSortOf mutations (file_at p.image name))
