-- What contracts see of a journal.
use Rattle.std.specs.Prelude.{ℕ, List}

pub record JournalValue : Type 0 where
  -- of its file
  pub name : List ℕ
  -- the offset of the closed gate
  pub end : ℕ
  -- those that it opened with, until it forgets them
  pub records : List (List ℕ)
