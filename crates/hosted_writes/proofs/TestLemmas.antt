-- What the writes of the tests owe.
use Rattle.std.proofs.Common.{◌≡◌, ℕ, Bool, true, false, List, [], ◌∷◌, ◌++◌, Option, Some, None, refl, ◌∙◌, ap, arith}
use Rattle.std.specs.Prelude.{if◌then◌else◌}
use Rattle.std.specs.Option.{option_map_or, option_flatten}
use Rattle.std.proofs.lemmas.Bool.{false≢true}
use Rattle.metadata_schema.specs.declared.mutation.Update.{Update}
use Rattle.metadata_schema.specs.Between.{column_after}
use Rattle.metadata_schema.specs.Columns.{is_named}
use Rattle.store_meaning.specs.Levels.{candidate_row, candidate_columns}
use Rattle.store_meaning.specs.RowWrites.{CandidateRow}
use Rattle.level_index.specs.Entries.{LevelMap, level_of}
use Rattle.hosted_writes.specs.Rows.{MakesSome}

-- the update that takes a candidate's column out
abbrev pub no_value : Update
no_value = record { family = []; qualifier = []; value = None }

-- what was pushed where nothing was, with no family, no qualifier and no value, is that update alone
pub lone_removal : (updates old : List Update) (family qualifier : List ℕ) → old ≡ [] → family ≡ [] → qualifier ≡ [] → updates ≡ old ++ (record { family = family; qualifier = qualifier; value = None } ∷ []) → updates ≡ no_value ∷ []
lone_removal updates old family qualifier none unnamed unqualified is = grind (arith, none, unnamed, unqualified, is)

abbrev keeps : Option (List ℕ) → Option (List ℕ)
keeps value = value

taken_out : (named : Bool) → option_map_or keeps (if named then Some None else None) (option_flatten (if named then Some (Some []) else None)) ≡ None
taken_out true = refl
taken_out false = refl

not_there : (named : Bool) → option_map_or keeps (if named then Some None else None) None ≡ None
not_there true = refl
not_there false = refl

no_column : (there : Bool) (family qualifier : List ℕ) → column_after (no_value ∷ []) (candidate_columns there) family qualifier ≡ None
no_column true family qualifier = taken_out (is_named family qualifier no_value)
no_column false family qualifier = not_there (is_named family qualifier no_value)

pub candidate_goes : (index : LevelMap) (path row : List ℕ) (updates : List Update) → row ≡ candidate_row path → updates ≡ no_value ∷ [] → MakesSome index row updates
candidate_goes index path row updates place is = (
  CandidateRow path false,
  record {
    place = place;
    gives = λ family qualifier. ap (λ (l : List Update). column_after l (candidate_columns ((level_of index).is_candidate path)) family qualifier) is ∙ no_column ((level_of index).is_candidate path) family qualifier;
    form = λ wrong. absurd (false≢true wrong);
  },
)
