-- The history of a run, the entry that is offered, and where transactions come from.
use Rattle.std.specs.Prelude.{ℕ, ◌+◌, ◌≤◌, List, [], ◌∷◌, ◌++◌, Option, Some, None}
use Rattle.std.specs.Ordering.{nat_cmp}
use Rattle.std.specs.FinMap as map
use Rattle.plain_model.specs.declared.operation.Entry.{Entry}
use Rattle.plain_model.specs.declared.operation.Source.{Source}
use Rattle.plain_model.specs.declared.operation.Source.TheVariants.{Line, Carried}

-- the line that each transaction comes from, where it was noted
abbrev pub Notes : Type 0
Notes = map.FinMap nat_cmp ℕ

pub record Book : Type 0 where
  -- the entries that have committed, in order
  pub history : List Entry
  -- the one whose action of the host was not seen to end
  pub offered : Option Entry
  -- the current line
  pub line : ℕ
  pub noted : Notes

-- there is at the most one entry beside those that have committed
pub record HasAtMostOneMore (committed all : ℕ) : Type 0 where
  pub within : committed ≤ all
  pub one : all ≤ committed + 1

-- nothing has committed, and nothing is offered
abbrev pub empty_book : Book
empty_book = record { history = []; offered = None; line = 0; noted = map.empty }

-- the entry is offered
abbrev pub offers : Entry → Book → Book
offers entry book = record book { offered = Some entry }

abbrev pub listed : Option Entry → List Entry
listed None = []
listed (Some entry) = entry ∷ []

-- the offered entry stands last in the history
abbrev pub committed : Book → Book
committed book = record book { history = book.history ++ listed book.offered; offered = None }

-- no entry is offered
abbrev pub withdrawn : Book → Book
withdrawn book = record book { offered = None }

abbrev pub at_line : ℕ → Book → Book
at_line number book = record book { line = number }

-- the current line is noted as the source of this transaction
abbrev pub notes : ℕ → Book → Book
notes tid book = record book { noted = map.insert book.noted tid book.line }

abbrev pub source_at : ℕ → Option ℕ → Source
source_at tid (Some line) = Line line
source_at tid None = Carried tid

-- the noted line; where none was noted, an earlier run
abbrev pub source_of : ℕ → Book → Source
source_of tid book = source_at tid (map.get book.noted tid)
