-- A memory, as mutations are made ready and put.
use Rattle.std.proofs.Common.{◌≡◌, ℕ, ◌≤◌, List, ◌++◌, All, sym, subst, arith}
use Rattle.std.specs.Prelude.{max}
use Rattle.std.proofs.Math.Nat.{le-max_left, le-max_right}
use Rattle.std.proofs.lemmas.List.Elements.{All-append, All-map, All-weaker}
use Rattle.metadata_schema.specs.declared.mutation.Mutation.{Mutation}
use Rattle.cell_merge.specs.declared.cell.Cell.{Cell}
use Rattle.tablet_mem.specs.declared.spot.Spot.{Spot}
use Rattle.tablet_mem.specs.declared.unflushed.Unflushed.{Unflushed}
use Rattle.tablet_mem.specs.Index.{place_at, IsIndexOf}
use Rattle.tablet_mem.specs.Memory.{cell_of, cells_of_mutation}
use Rattle.tablet_mem.specs.Value.{IsMemory}
use Rattle.tablet_mem.proofs.IndexLemmas.{index_same}

-- no cell of a mutation is later than it
pub timed-put : (mutation : Mutation) → All (λ (c : Cell). c.time ≤ mutation.time) (cells_of_mutation mutation)
timed-put mutation =
    let Timed : Cell → Type 0 = λ c. c.time ≤ mutation.time in
    All-map Timed (cell_of mutation.row mutation.time) mutation.updates (λ k d lt. omega arith)

-- no cell is later than a clock that has been moved on
pub known-later : (cells : List Cell) (clock time : ℕ) → All (λ (c : Cell). c.time ≤ clock) cells → All (λ (c : Cell). c.time ≤ max clock time) cells
known-later cells clock time known =
    let Known : ℕ → Cell → Type 0 = λ t c. c.time ≤ t in
    let left = le-max_left clock time in
    All-weaker (Known clock) (Known (max clock time)) (λ c le. omega (arith, le, left)) cells known

-- no cell is later than the clock, also when a mutation has been put
pub known-put : (cells : List Cell) (clock : ℕ) (mutation : Mutation) → All (λ (c : Cell). c.time ≤ clock) cells → All (λ (c : Cell). c.time ≤ max clock mutation.time) (cells ++ cells_of_mutation mutation)
known-put cells clock mutation known =
    let Known : ℕ → Cell → Type 0 = λ t c. c.time ≤ t in
    let later = max clock mutation.time in
    let right = le-max_right clock mutation.time in
    All-append (Known later) cells (cells_of_mutation mutation)
    (known-later cells clock mutation.time known)
    (All-weaker (Known mutation.time) (Known later) (λ c le. omega (arith, le, right)) (cells_of_mutation mutation) (timed-put mutation))

-- room alone changes nothing
pub memory-made : (was made : Unflushed) (clock : ℕ) → made.cells.items ≡ was.cells.items → ((spot : Spot) → place_at made.places spot ≡ place_at was.places spot) → IsMemory was clock → IsMemory made clock
memory-made was made clock cells places memory = record {
  index = subst (λ (l : List Cell). IsIndexOf l made.places) (sym cells) (index_same was.cells.items was.places made.places places memory.index);
  known = subst (All (λ (c : Cell). c.time ≤ clock)) (sym cells) memory.known;
  fits = memory.fits;
}
