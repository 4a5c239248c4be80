-- The updates that lead from some columns to others.
use Rattle.std.specs.Prelude.{◌≡◌, ℕ, List, Option, Some, None, IsTrue}
use Rattle.std.specs.Option.{option_map_or}
use Rattle.metadata_schema.specs.declared.mutation.Update.{Update}
use Rattle.metadata_schema.specs.Bytes.{is_rising}
use Rattle.metadata_schema.specs.Columns.{update_cmp, update_at, column_at}

-- An update for each column whose value differs, to its new value or removed, and for no other; in order.
pub record LeadsBetween (old new updates : List Update) : Type 0 where
  pub order : IsTrue (is_rising update_cmp updates)
  pub kept : (family qualifier : List ℕ) → column_at old family qualifier ≡ column_at new family qualifier → update_at updates family qualifier ≡ None
  pub changed : (family qualifier : List ℕ) → (column_at old family qualifier ≡ column_at new family qualifier → ⊥) → update_at updates family qualifier ≡ Some (column_at new family qualifier)

-- the value of a column after updates of these columns
abbrev pub column_after : List Update → List Update → List ℕ → List ℕ → Option (List ℕ)
column_after updates old family qualifier = option_map_or (λ value. value) (update_at updates family qualifier) (column_at old family qualifier)
