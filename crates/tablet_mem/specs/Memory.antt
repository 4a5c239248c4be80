-- What is kept of a tablet beside its files: the cells that are in no file yet, and the clock.
use Rattle.std.specs.Prelude.{ℕ, ◌+◌, max, List, [], ◌++◌, map}
use Rattle.std.specs.List.{fold}
use Rattle.metadata_schema.specs.declared.mutation.Mutation.{Mutation}
use Rattle.metadata_schema.specs.declared.mutation.Update.{Update}
use Rattle.cell_merge.specs.declared.cell.Cell.{Cell}

pub record Memory : Type 0 where
  -- the cells, in the order in which they were put
  pub cells : List Cell
  -- the greatest time that is known of
  pub clock : ℕ

-- what an update writes at this row and time
abbrev pub cell_of : List ℕ → ℕ → Update → Cell
cell_of row time update = record { key = record { row = row; family = update.family; qualifier = update.qualifier }; time = time; value = update.value }

-- what a mutation writes, update after update
abbrev pub cells_of_mutation : Mutation → List Cell
cells_of_mutation mutation = map (cell_of mutation.row mutation.time) mutation.updates

-- no cells, and the clock at the greater of the tablet's bar and the greatest time of its files
abbrev pub started : ℕ → ℕ → Memory
started bar greatest = record { cells = []; clock = max bar greatest }

-- the cells of the mutation behind those that were there, and the clock at its time where that is greater
abbrev pub put : Memory → Mutation → Memory
put memory mutation = record { cells = memory.cells ++ cells_of_mutation mutation; clock = max memory.clock mutation.time }

-- these mutations put one after another
abbrev pub put_all : Memory → List Mutation → Memory
put_all memory mutations = fold put memory mutations

-- the same cells, and the clock at this time where that is greater
abbrev pub passed : Memory → ℕ → Memory
passed memory time = record memory { clock = max memory.clock time }

-- no cells, and the same clock
abbrev pub cleared : Memory → Memory
cleared memory = record memory { cells = [] }

-- the time of the next mutation
abbrev pub next_time : Memory → ℕ
next_time memory = memory.clock + 1

-- a memory before and after a mutation for which all memory has been taken
pub record PreparedPut : Type 0 where
  pub before : Memory
  pub after : Memory
