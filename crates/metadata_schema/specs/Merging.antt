-- How two lists of columns in order are gone through side by side.
use Rattle.std.specs.Prelude.{ℕ, List, [], ◌∷◌, ◌++◌, Bool, true, false, Option, Some, None, if◌then◌else◌}
use Rattle.std.specs.declared.cmp.Ordering.{Ordering}
use Rattle.std.specs.declared.cmp.Ordering.TheVariants.{Less, Equal, Greater}
use Rattle.metadata_schema.specs.declared.mutation.Update.{Update}
use Rattle.metadata_schema.specs.Bytes.{same}
use Rattle.metadata_schema.specs.Columns.{update_cmp}

abbrev pub removal_of : Update → Update
removal_of update = record update { value = None }

abbrev pub same_value : Option (List ℕ) → Option (List ℕ) → Bool
same_value None None = true
same_value None (Some other) = false
same_value (Some one) None = false
same_value (Some one) (Some other) = same one other

-- what is to be said of a column that both have
abbrev pub changed_columns : Update → Update → List Update
changed_columns old new = if same_value old.value new.value then [] else new ∷ []

-- what comes of the first columns, by their order: `more` goes on behind the old one, `on` past the new one
abbrev pub first_between : Ordering → Update → Update → List Update → (List Update → List Update) → List Update → List Update
first_between Less old new news more on = removal_of old ∷ more (new ∷ news)
first_between Equal old new news more on = changed_columns old new ++ more news
first_between Greater old new news more on = new ∷ on

-- the new columns, with one old one in front of the rest of the old
abbrev pub between_first : Update → (List Update → List Update) → List Update → List Update
between_first old more [] = removal_of old ∷ more []
between_first old more (new ∷ news) = first_between (update_cmp old new) old new news more (between_first old more news)

abbrev pub between : List Update → List Update → List Update
between [] news = news
between (old ∷ olds) news = between_first old (between olds) news
