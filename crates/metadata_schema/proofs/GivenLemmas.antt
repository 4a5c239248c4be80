-- Columns of which none is removed, as are a record's.
use Rattle.std.proofs.Common.{ℕ, Bool, true, false, cond, List, [], ◌∷◌, ◌++◌, map, Option, Some, None}
use Rattle.std.specs.Prelude.{codes}
use Rattle.std.specs.Option.{option_map}
use Rattle.metadata_schema.specs.declared.mutation.Update.{Update}
use Rattle.metadata_schema.specs.Columns.{is_named, update_at, at_most_one, file_column, loaded_column, log_column, holder_columns, columns_of}
use Rattle.std.specs.Fmt.{decimal}
use Rattle.row_keys.specs.MetadataRow.{prev_value}
use Rattle.metadata_schema.specs.declared.tablet.Holder.{Holder}
use Rattle.metadata_schema.specs.declared.tablet.TabletRecord.{TabletRecord}
use Rattle.metadata_schema.specs.Values.{chopped_value}

abbrev pub IsGiven : Option (Option (List ℕ)) → Type 0
IsGiven None = Unit {0}
IsGiven (Some None) = ⊥
IsGiven (Some (Some value)) = Unit {0}

abbrev pub AreGiven : List Update → Type 0
AreGiven [] = Unit {0}
AreGiven (u ∷ us) = IsGiven (Some u.value) × AreGiven us

pub given_at : (us : List Update) (f q : List ℕ) → AreGiven us → IsGiven (update_at us f q)
given_at [] f q given = tt
given_at (u ∷ us) f q given = at (is_named f q u) (given_at us f q given.1)
  where
    at : (b : Bool) → IsGiven (update_at us f q) → IsGiven (cond b (Some u.value) (update_at us f q))
    at true rest = given.0
    at false rest = rest

-- ---- none is removed

given-append : (xs ys : List Update) → AreGiven xs → AreGiven ys → AreGiven (xs ++ ys)
given-append [] ys one two = two
given-append (x ∷ xs) ys one two = (one.0, given-append xs ys one.1 two)

given-map : {X : Type 0} (column : X → Update) (each : (x : X) → IsGiven (Some (column x).value)) (xs : List X) → AreGiven (map column xs)
given-map column each [] = tt
given-map column each (x ∷ xs) = (each x, given-map column each xs)

one_given : (family qualifier : List ℕ) (o : Option (List ℕ)) → AreGiven (at_most_one family qualifier o)
one_given family qualifier None = tt
one_given family qualifier (Some value) = (tt, tt)

holder_given : (family : List ℕ) (o : Option Holder) → AreGiven (holder_columns family o)
holder_given family None = tt
holder_given family (Some holder) = (tt, tt)

pub columns_given : (t : TabletRecord) → AreGiven (columns_of t)
columns_given t =
    given-append _ _ (one_given (codes "chopped") (codes "chopped") (chopped_value t.chopped))
    (given-append _ _ (given-map file_column (λ file. tt) t.files)
    (given-append _ _ (holder_given (codes "future") t.future)
    (given-append _ _ (given-map loaded_column (λ entry. tt) t.loaded)
    (given-append _ _ (holder_given (codes "loc") t.loc)
    (given-append _ _ (given-map log_column (λ log. tt) t.logs) (
      tt,
      (
        tt,
        given-append _ _ (one_given (codes "~tab") (codes "merged") (option_map decimal t.merged))
            (given-append _ _ (one_given (codes "~tab") (codes "oldprevrow") (option_map prev_value t.old_prev)) (tt, tt)),
      ),
    ))))))
