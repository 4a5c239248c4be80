-- What contracts see of the memory of a tablet, and what is true of each.
use Rattle.std.specs.Prelude.{◌≤◌, ◌<◌, ◌^◌, ◌++◌, ℕ, max, List, refl}
use Rattle.std.specs.List.{All}
use Rattle.std.specs.Coded.{Coded, code_by, coded×, coded_list, coded_ℕ}
use Rattle.cell_merge.specs.declared.cell.Cell.{Cell}
use Rattle.tablet_mem.specs.declared.unflushed.Unflushed.{Unflushed}
use Rattle.tablet_mem.specs.declared.ready.Ready.{Ready}
use Rattle.tablet_mem.specs.Index.{IsIndexOf}
use Rattle.tablet_mem.specs.Memory.{Memory, PreparedPut}
use Rattle.tablet_mem.specs.Room.{HasRoom, cells_of}

-- how it is stored
abbrev pub memory_code : Coded Cell → Coded Memory
memory_code cell = code_by (List Cell × ℕ) (coded× (coded_list cell) coded_ℕ) (λ m. (m.cells, m.clock)) (λ p. record { cells = p.0; clock = p.1 }) (λ _. refl)

-- the cells are found by their keys, and none is later than the clock
pub record IsMemory (unflushed : Unflushed) (clock : ℕ) : Type 0 where
  pub index : IsIndexOf unflushed.cells.items unflushed.places
  pub known : All (λ cell. cell.time ≤ clock) unflushed.cells.items
  pub fits : clock < 2 ^ 63

-- how a prepared mutation is stored
abbrev pub prepared_code : Coded Cell → Coded PreparedPut
prepared_code cell = code_by (Memory × Memory) (coded× (memory_code cell) (memory_code cell)) (λ p. (p.before, p.after)) (λ p. record { before = p.0; after = p.1 }) (λ _. refl)

-- there is room for the cells that are ready, and they are of this time
pub record IsPrepared (unflushed : Unflushed) (clock : ℕ) (ready : List Ready) (time : ℕ) : Type 0 where
  pub memory : IsMemory unflushed clock
  pub room : HasRoom unflushed ready
  pub timed : All (λ cell. cell.time ≤ time) (cells_of ready)
  pub fits : time < 2 ^ 63

-- a memory, and what it becomes once the cells that are ready are put
abbrev pub prepared : Memory → List Ready → ℕ → PreparedPut
prepared memory ready time = record { before = memory; after = record { cells = memory.cells ++ cells_of ready; clock = max memory.clock time } }
