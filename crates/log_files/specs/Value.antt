-- What contracts see of a log.
use Rattle.std.specs.Prelude.{ℕ, List}

pub record LogValue : Type 0 where
  -- of its file
  pub name : List ℕ
  -- the offset of the closed gate
  pub end : ℕ
