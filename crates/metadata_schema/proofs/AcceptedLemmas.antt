-- The columns of a well-formed record are those of the table, with values of their forms.
use Rattle.std.proofs.Common.{◌≡◌, ℕ, ◌≤◌, Bool, true, false, ◌&&◌, cond, List, [], ◌∷◌, ◌++◌, length, map, Option, Some, None, Result, Ok, Err, refl, sym, ap, ◌∙◌, subst, arith}
use Rattle.std.specs.Prelude.{codes, IsSome, OnOk, MatchResult}
use Rattle.std.specs.List.{All}
use Rattle.std.specs.Option.{option_map, option_flatten}
use Rattle.std.specs.Fmt.{decimal}
use Rattle.std.proofs.lemmas.List.Elements.{All-nil, All-cons}
use Rattle.row_keys.specs.MetadataRow.{prev_value}
use Rattle.metadata_schema.specs.declared.mutation.Update.{Update}
use Rattle.metadata_schema.specs.declared.tablet.Holder.{Holder}
use Rattle.metadata_schema.specs.declared.tablet.TabletRecord.{TabletRecord}
use Rattle.metadata_schema.specs.declared.fault.SchemaFault.{SchemaFault}
use Rattle.metadata_schema.specs.Bytes.{same}
use Rattle.metadata_schema.specs.Values.{bar_value, chopped_value}
use Rattle.metadata_schema.specs.Kinds.{IsColumn, IsValued}
use Rattle.metadata_schema.specs.Columns.{written, at_most_one, update_at, column_at, file_column, loaded_column, log_column, holder_columns, fixed_columns, columns_of}
use Rattle.metadata_schema.specs.Records.{IsInOrder, IsWellFormed, IsRecordOf}
use Rattle.metadata_schema.specs.Refusals.{AreColumns, HasPrev, HasColumns, HasValues, of_family}
use Rattle.metadata_schema.proofs.GivenLemmas.{IsGiven, AreGiven}
use Rattle.metadata_schema.proofs.RisingLemmas.{InFamily, one_within, holder_within, mapped_within, from_logs, from_loc, from_loaded, from_future, columns_rise}
use Rattle.metadata_schema.proofs.GivenLemmas.{columns_given}
use Rattle.metadata_schema.proofs.FormLemmas.{all_columns, each_named, each_valued}

-- ---- columns of other families

none_of : (f g : List ℕ) (us ws : List Update) → InFamily g us → same g f ≡ false → of_family f (us ++ ws) ≡ of_family f ws
none_of f g [] ws within other = refl
none_of f g (u ∷ us) ws within other =
    ap (λ (b : Bool). cond b (u ∷ of_family f (us ++ ws)) (of_family f (us ++ ws))) (ap (λ (l : List ℕ). same l f) within.0 ∙ other) ∙ none_of f g us ws within.1 other

not_there : (f q g : List ℕ) (us ws : List Update) → InFamily g us → same g f ≡ false → update_at (us ++ ws) f q ≡ update_at ws f q
not_there f q g [] ws within other = refl
not_there f q g (u ∷ us) ws within other =
    ap (λ (b : Bool). cond (b && same u.qualifier q) (Some u.value) (update_at (us ++ ws) f q)) (ap (λ (l : List ℕ). same l f) within.0 ∙ other) ∙ not_there f q g us ws within.1 other

none_fixed : (f : List ℕ) (m o : Option (List ℕ)) (d b p : List ℕ) → same (codes "srv") f ≡ false → same (codes "~tab") f ≡ false
    → of_family f (at_most_one (codes "srv") (codes "dir") (Some d) ++ (at_most_one (codes "srv") (codes "time") (Some b) ++ (at_most_one (codes "~tab") (codes "merged") m ++ (at_most_one (codes "~tab") (codes "oldprevrow") o ++ at_most_one (codes "~tab") (codes "~pr") (Some p)))))
    ≡ []
none_fixed f m o d b p srv tab =
    let last : List Update = at_most_one (codes "~tab") (codes "~pr") (Some p) in
    let old : List Update = at_most_one (codes "~tab") (codes "oldprevrow") o in
    let merged : List Update = at_most_one (codes "~tab") (codes "merged") m in
    none_of f (codes "srv") (at_most_one (codes "srv") (codes "dir") (Some d)) (at_most_one (codes "srv") (codes "time") (Some b) ++ (merged ++ (old ++ last))) (one_within (codes "srv") (codes "dir") (Some d)) srv
    ∙ none_of f (codes "srv") (at_most_one (codes "srv") (codes "time") (Some b)) (merged ++ (old ++ last)) (one_within (codes "srv") (codes "time") (Some b)) srv
    ∙ none_of f (codes "~tab") merged (old ++ last) (one_within (codes "~tab") (codes "merged") m) tab
    ∙ none_of f (codes "~tab") old last (one_within (codes "~tab") (codes "oldprevrow") o) tab
    ∙ none_of f (codes "~tab") last [] (one_within (codes "~tab") (codes "~pr") (Some p)) tab

one_holder : (f : List ℕ) (o : Option Holder) (us : List Update) → of_family f us ≡ [] → length (of_family f (holder_columns f o ++ us)) ≤ 1
one_holder f None us none = let n : length (of_family f us) ≡ 0 = ap length none in omega arith
one_holder f (Some holder) us none = at (same f f)
  where
    n : length (of_family f us) ≡ 0
    n = ap length none

    at : (b : Bool) → length (cond b (written f holder.session holder.server ∷ of_family f us) (of_family f us)) ≤ 1
    at true = omega (arith, n)
    at false = omega (arith, n)

no_more : (f : List ℕ) (t : TabletRecord) → same (codes "log") f ≡ false → same (codes "srv") f ≡ false → same (codes "~tab") f ≡ false → of_family f (from_logs t) ≡ []
no_more f t log srv tab =
    none_of f (codes "log") (map log_column t.logs) _ (mapped_within (codes "log") log_column (λ x. refl) t.logs) log
    ∙ none_fixed f (option_map decimal t.merged) (option_map prev_value t.old_prev) t.dir (bar_value t.time) (prev_value t.prev) srv tab

-- `chopped` and the files stand before both families of holders
past_files : (f : List ℕ) (t : TabletRecord) → same (codes "chopped") f ≡ false → same (codes "file") f ≡ false → of_family f (columns_of t) ≡ of_family f (from_future t)
past_files f t chopped file =
    none_of f (codes "chopped") (at_most_one (codes "chopped") (codes "chopped") (chopped_value t.chopped)) _ (one_within _ _ _) chopped
    ∙ none_of f (codes "file") (map file_column t.files) _ (mapped_within (codes "file") file_column (λ x. refl) t.files) file

pub one_loc : (t : TabletRecord) → length (of_family (codes "loc") (columns_of t)) ≤ 1
one_loc t =
    let before : of_family (codes "loc") (columns_of t) ≡ of_family (codes "loc") (from_loc t) = past_files (codes "loc") t refl refl
    ∙ none_of (codes "loc") (codes "future") (holder_columns (codes "future") t.future) _ (holder_within _ _) refl
    ∙ none_of (codes "loc") (codes "loaded") (map loaded_column t.loaded) _ (mapped_within (codes "loaded") loaded_column (λ x. refl) t.loaded) refl in
    subst (λ (l : List Update). length l ≤ 1) (sym before) (one_holder (codes "loc") t.loc (from_logs t) (no_more (codes "loc") t refl refl refl))

pub one_future : (t : TabletRecord) → length (of_family (codes "future") (columns_of t)) ≤ 1
one_future t =
    let none : of_family (codes "future") (from_loaded t) ≡ [] =
    none_of (codes "future") (codes "loaded") (map loaded_column t.loaded) _ (mapped_within (codes "loaded") loaded_column (λ x. refl) t.loaded) refl
    ∙ none_of (codes "future") (codes "loc") (holder_columns (codes "loc") t.loc) _ (holder_within _ _) refl ∙ no_more (codes "future") t refl refl refl in
    subst (λ (l : List Update). length l ≤ 1) (sym (past_files (codes "future") t refl refl)) (one_holder (codes "future") t.future (from_loaded t) none)

-- ---- the columns that are always there

past_logs : (f q : List ℕ) (t : TabletRecord) → same (codes "chopped") f ≡ false → same (codes "file") f ≡ false → same (codes "future") f ≡ false → same (codes "loaded") f ≡ false → same (codes "loc") f ≡ false → same (codes "log") f ≡ false
    → update_at (columns_of t) f q ≡ update_at (fixed_columns t) f q
past_logs f q t chopped file future loaded loc log =
    not_there f q (codes "chopped") (at_most_one (codes "chopped") (codes "chopped") (chopped_value t.chopped)) _ (one_within _ _ _) chopped
    ∙ not_there f q (codes "file") (map file_column t.files) _ (mapped_within (codes "file") file_column (λ x. refl) t.files) file
    ∙ not_there f q (codes "future") (holder_columns (codes "future") t.future) _ (holder_within _ _) future
    ∙ not_there f q (codes "loaded") (map loaded_column t.loaded) _ (mapped_within (codes "loaded") loaded_column (λ x. refl) t.loaded) loaded
    ∙ not_there f q (codes "loc") (holder_columns (codes "loc") t.loc) _ (holder_within _ _) loc
    ∙ not_there f q (codes "log") (map log_column t.logs) _ (mapped_within (codes "log") log_column (λ x. refl) t.logs) log

prev_stands : (m o : Option (List ℕ)) (p : List ℕ) → update_at (at_most_one (codes "~tab") (codes "merged") m ++ (at_most_one (codes "~tab") (codes "oldprevrow") o ++ at_most_one (codes "~tab") (codes "~pr") (Some p))) (codes "~tab") (codes "~pr") ≡ Some (Some p)
prev_stands None None p = refl
prev_stands None (Some o) p = refl
prev_stands (Some m) None p = refl
prev_stands (Some m) (Some o) p = refl

given_all : (us : List Update) → AreGiven us → All (λ u. IsSome u.value) us
given_all [] given = All-nil (λ u. IsSome u.value)
given_all (u ∷ us) given = All-cons (λ u. IsSome u.value) u us (some u.value given.0) (given_all us given.1)
  where
    some : (o : Option (List ℕ)) → IsGiven (Some o) → IsSome o
    some None is = absurd is
    some (Some value) is = refl

there : (us : List Update) (f q value : List ℕ) → update_at us f q ≡ Some (Some value) → IsSome (column_at us f q)
there us f q value is = subst (λ (o : Option (Option (List ℕ))). IsSome (option_flatten o)) (sym is) refl

pub are_columns : (t : TabletRecord) → IsInOrder t → AreColumns (columns_of t)
are_columns t order = record { written = given_all (columns_of t) (columns_given t); order = columns_rise t order }

pub prev_there : (t : TabletRecord) → HasPrev (columns_of t)
prev_there t = record {
  prev = there (columns_of t) (codes "~tab") (codes "~pr") (prev_value t.prev)
      (past_logs (codes "~tab") (codes "~pr") t refl refl refl refl refl refl ∙ prev_stands (option_map decimal t.merged) (option_map prev_value t.old_prev) (prev_value t.prev));
}

pub columns_named : (t : TabletRecord) → IsWellFormed t → HasColumns (columns_of t)
columns_named t form = record { columns = all_columns (λ u. IsColumn u.family u.qualifier) t (each_named t form); one_loc = one_loc t; one_future = one_future t }

pub values_formed : (t : TabletRecord) → IsWellFormed t → HasValues (columns_of t)
values_formed t form = record {
  values = all_columns IsValued t (each_valued t form);
  dir = there (columns_of t) (codes "srv") (codes "dir") t.dir (past_logs (codes "srv") (codes "dir") t refl refl refl refl refl refl);
  time = there (columns_of t) (codes "srv") (codes "time") (bar_value t.time) (past_logs (codes "srv") (codes "time") t refl refl refl refl refl refl);
}

-- the columns of a record are read as one's
pub are_read : (row : List ℕ) (us : List Update) (t : TabletRecord) → IsRecordOf row us t → HasPrev us × HasColumns us × HasValues us
are_read row us t is =
    let back = sym is.spelled in
    (subst HasPrev back (prev_there t), subst HasColumns back (columns_named t is.form), subst HasValues back (values_formed t is.form))

pub read_where_ok : (row : List ℕ) (us : List Update) (r : Result TabletRecord SchemaFault) (Q : SchemaFault → Type 0) → MatchResult r (IsRecordOf row us) Q → OnOk r (HasPrev us × HasColumns us × HasValues us)
read_where_ok row us (Ok t) Q is = are_read row us t is
read_where_ok row us (Err fault) Q is = tt
