-- The times that the next one is past.
use Rattle.std.specs.Prelude.{ℕ, ◌≤◌, List, ◌∷◌, map, Contains}
use Rattle.std.specs.List.{All}
use Rattle.metadata_schema.specs.declared.mutation.Mutation.{Mutation}

-- the bar, the greatest time of the files, and the times of the mutations that were put
abbrev pub times_of : ℕ → ℕ → List Mutation → List ℕ
times_of bar greatest mutations = bar ∷ greatest ∷ map (λ mutation. mutation.time) mutations

-- one of these times, and none is later
pub record IsGreatestOf (times : List ℕ) (time : ℕ) : Type 0 where
  pub there : Contains times time
  pub last : All (λ other. other ≤ time) times
