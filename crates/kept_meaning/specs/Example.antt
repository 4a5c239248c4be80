-- A change of the small store: its one pair is removed.
use Rattle.std.specs.Prelude.{[], ◌∷◌, codes, None}
use Rattle.metadata_schema.specs.declared.mutation.Mutation.{Mutation}

-- the removal, in the log of the session that hosts the tablet
abbrev pub removal : Mutation
removal = record { table = codes "1"; row = codes "a"; time = 2; updates = record { family = codes "f"; qualifier = codes "q"; value = None } ∷ [] }
