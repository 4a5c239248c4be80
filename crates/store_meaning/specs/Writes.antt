-- What one mutation more in a log does to the cells of tablets.
use Rattle.std.specs.Prelude.{◌≡◌, ◌⊎◌, ◌↔◌, ℕ, ◌<◌, ◌&&◌, Bool, true, List, [], ◌∷◌, ◌++◌, Option, Some, Contains}
use Rattle.std.specs.Option.{option_map}
use Rattle.row_keys.specs.RowOrder.{is_within}
use Rattle.metadata_schema.specs.declared.mutation.Mutation.{Mutation}
use Rattle.metadata_schema.specs.declared.tablet.TabletRecord.{TabletRecord}
use Rattle.cell_merge.specs.declared.cell.Cell.{Cell}
use Rattle.cell_merge.specs.Changes.{Gains}
use Rattle.level_rows.specs.Chain.{Rows, effective_prev}
use Rattle.store_meaning.specs.Ground.{Ground, with_mutations}
use Rattle.store_meaning.specs.Content.{cells_of_mutation, counts_for, logs_of, tablet_content}

-- the ground with this mutation at the end of a log, where that log is told
abbrev pub appended : Ground → List ℕ → Mutation → Ground
appended known log mutation = with_mutations known log (option_map (λ mutations. mutations ++ mutation ∷ []) (known.mutations_of log))

-- the mutation is of the tablet's table, past its bar, and its row lies above this lower bound and up to the end row
abbrev pub counts_in : Option (List ℕ) → TabletRecord → Mutation → Bool
counts_in low tablet mutation = counts_for tablet mutation && is_within low tablet.end mutation.row

-- these are told: the cells that were there, those of the mutation, and no others
pub record HasGrown (mutation : Mutation) (old : List Cell) (told : Option (List Cell)) : Type 0 where
  pub cells : List Cell
  pub is : told ≡ Some cells
  pub each : (cell : Cell) → Contains cells cell ↔ (Contains old cell ⊎ Contains (cells_of_mutation mutation) cell)

-- these are told: the cells that were there, and later than those of their keys the mutation's
pub record HasGained (mutation : Mutation) (old : List Cell) (told : Option (List Cell)) : Type 0 where
  pub cells : List Cell
  pub is : told ≡ Some cells
  pub gains : Gains (cells_of_mutation mutation) old cells

-- the mutation is later than each of these cells in its row
pub record IsPast (cells : List Cell) (mutation : Mutation) : Type 0 where
  pub later : (cell : Cell) → Contains cells cell → cell.key.row ≡ mutation.row → cell.time < mutation.time

-- It stands in a log of the tablet of a chain whose extent has its row, past the bar, and later than all cells of the row there.
pub record StandsIn (known : Ground) (rows : Rows) (chain : List TabletRecord) (log : List ℕ) (mutation : Mutation) : Type 0 where
  pub holder : TabletRecord
  pub there : Contains chain holder
  pub named : Contains (logs_of holder) log
  pub counts : counts_in (effective_prev rows holder) holder mutation ≡ true
  pub past : (cells : List Cell) → tablet_content known rows holder ≡ Some cells → IsPast cells mutation
