-- When columns are no record's. Of several refusals the first in this order is answered.
use Rattle.std.specs.Prelude.{ℕ, ◌≤◌, List, Option, length, IsTrue, IsSome, codes}
use Rattle.std.specs.List.{All, filter}
use Rattle.row_keys.specs.MetadataRow.{IsMetadataRow}
use Rattle.metadata_schema.specs.declared.mutation.Update.{Update}
use Rattle.metadata_schema.specs.declared.fault.SchemaFault.{SchemaFault}
use Rattle.metadata_schema.specs.declared.fault.SchemaFault.TheVariants.{NoPrev, BadColumn, BadValue, NoMemory}
use Rattle.metadata_schema.specs.Bytes.{same, is_rising}
use Rattle.metadata_schema.specs.Kinds.{IsColumn, IsValued}
use Rattle.metadata_schema.specs.Columns.{update_cmp, column_at}

-- the row of a tablet
pub record IsTabletRow (row : List ℕ) : Type 0 where
  pub table : List ℕ
  pub end : Option (List ℕ)
  pub is : IsMetadataRow table end row

-- columns as a scan of one row gives them: none removed, strictly increasing
pub record AreColumns (updates : List Update) : Type 0 where
  pub written : All (λ update. IsSome update.value) updates
  pub order : IsTrue (is_rising update_cmp updates)

abbrev pub of_family : List ℕ → List Update → List Update
of_family family updates = filter (λ update. same update.family family) updates

-- `~tab:~pr` is there; else it is NoPrev
pub record HasPrev (updates : List Update) : Type 0 where
  pub prev : IsSome (column_at updates (codes "~tab") (codes "~pr"))

-- each column is of the table, and there is no second `loc` or `future`; else it is BadColumn
pub record HasColumns (updates : List Update) : Type 0 where
  pub columns : All (λ update. IsColumn update.family update.qualifier) updates
  pub one_loc : length (of_family (codes "loc") updates) ≤ 1
  pub one_future : length (of_family (codes "future") updates) ≤ 1

-- each value is of its form, and `srv:dir` and `srv:time` are there; else it is BadValue
pub record HasValues (updates : List Update) : Type 0 where
  pub values : All IsValued updates
  pub dir : IsSome (column_at updates (codes "srv") (codes "dir"))
  pub time : IsSome (column_at updates (codes "srv") (codes "time"))

-- a text is refused as a value only where it isn't of the form; want of memory is free
abbrev pub Refuses : Type 0 → SchemaFault → Type 0
Refuses Form NoPrev = ⊥
Refuses Form BadColumn = ⊥
Refuses Form BadValue = Form → ⊥
Refuses Form NoMemory = Unit {0}
