-- The columns of a record stand in order.
use Rattle.std.proofs.Common.{◌≡◌, ℕ, Bool, true, List, [], ◌∷◌, ◌++◌, map, Option, Some, None, Ordering, Less, IsTrue, refl, sym, ap, ◌∙◌, subst}
use Rattle.std.specs.Prelude.{codes}
use Rattle.std.specs.Ordering.{is_lt, ordering_then}
use Rattle.std.specs.List.{list_all}
use Rattle.std.specs.Option.{option_map}
use Rattle.std.specs.Fmt.{decimal}
use Rattle.std.proofs.lemmas.Bool.{and_parts, and_from}
use Rattle.std.proofs.lemmas.Cmp.{nat_list_cmp_total}
use Rattle.row_keys.specs.RowOrder.{bytes_cmp}
use Rattle.row_keys.specs.MetadataRow.{prev_value}
use Rattle.metadata_schema.specs.declared.mutation.Update.{Update}
use Rattle.metadata_schema.specs.declared.tablet.FileEntry.{FileEntry}
use Rattle.metadata_schema.specs.declared.tablet.LoadedEntry.{LoadedEntry}
use Rattle.metadata_schema.specs.declared.tablet.Holder.{Holder}
use Rattle.metadata_schema.specs.declared.tablet.TabletRecord.{TabletRecord}
use Rattle.metadata_schema.specs.Bytes.{is_rising}
use Rattle.metadata_schema.specs.Values.{bar_value, chopped_value}
use Rattle.metadata_schema.specs.Columns.{written, at_most_one, file_column, loaded_column, log_column, holder_columns, fixed_columns, columns_of, update_cmp}
use Rattle.metadata_schema.specs.Records.{IsInOrder}
use Rattle.metadata_schema.proofs.OrderLemmas.{Above, less_is}

-- all are of later families
abbrev pub Behind : List ℕ → List Update → Type 0
Behind family us = IsTrue (list_all (λ u. is_lt (bytes_cmp family u.family)) us)

abbrev pub InFamily : List ℕ → List Update → Type 0
InFamily family [] = Unit {0}
InFamily family (u ∷ us) = (u.family ≡ family) × InFamily family us

all-append : (test : Update → Bool) (xs ys : List Update) → IsTrue (list_all test xs) → IsTrue (list_all test ys) → IsTrue (list_all test (xs ++ ys))
all-append test [] ys one two = two
all-append test (x ∷ xs) ys one two =
    let parts = and_parts (test x) (list_all test xs) one in
    and_from (test x) (list_all test (xs ++ ys)) parts.0 (all-append test xs ys parts.1 two)

behind_family : (low family : List ℕ) (us : List Update) → is_lt (bytes_cmp low family) ≡ true → InFamily family us → Behind low us
behind_family low family [] less within = refl
behind_family low family (u ∷ us) less within =
    and_from (is_lt (bytes_cmp low u.family)) (list_all (λ (v : Update). is_lt (bytes_cmp low v.family)) us)
    (ap (λ (f : List ℕ). is_lt (bytes_cmp low f)) within.0 ∙ less) (behind_family low family us less within.1)

behind_more : (low family : List ℕ) (us : List Update) → is_lt (bytes_cmp low family) ≡ true → Behind family us → Behind low us
behind_more low family [] less behind = refl
behind_more low family (u ∷ us) less behind =
    let parts = and_parts (is_lt (bytes_cmp family u.family)) (list_all (λ (v : Update). is_lt (bytes_cmp family v.family)) us) behind in
    and_from (is_lt (bytes_cmp low u.family)) (list_all (λ (v : Update). is_lt (bytes_cmp low v.family)) us)
    (ap is_lt (nat_list_cmp_total.trans low family u.family (less_is (bytes_cmp low family) less) (less_is (bytes_cmp family u.family) parts.0))) (behind_more low family us less parts.1)

above_behind : (family : List ℕ) (x : Update) (us : List Update) → x.family ≡ family → Behind family us → Above x us
above_behind family x [] is behind = refl
above_behind family x (u ∷ us) is behind =
    let parts = and_parts (is_lt (bytes_cmp family u.family)) (list_all (λ (v : Update). is_lt (bytes_cmp family v.family)) us) behind in
    let less : bytes_cmp x.family u.family ≡ Less = ap (λ (f : List ℕ). bytes_cmp f u.family) is ∙ less_is (bytes_cmp family u.family) parts.0 in
    and_from (is_lt (update_cmp x u)) (list_all (λ other. is_lt (update_cmp x other)) us)
    (ap (λ (o : Ordering). is_lt (ordering_then o (bytes_cmp x.qualifier u.qualifier))) less) (above_behind family x us is parts.1)

part_rises : (family : List ℕ) (xs ys : List Update) → InFamily family xs → IsTrue (is_rising update_cmp xs) → Behind family ys → IsTrue (is_rising update_cmp ys) → IsTrue (is_rising update_cmp (xs ++ ys))
part_rises family [] ys within one behind two = two
part_rises family (x ∷ xs) ys within one behind two =
    let parts = and_parts (list_all (λ other. is_lt (update_cmp x other)) xs) (is_rising update_cmp xs) one in
    and_from (list_all (λ other. is_lt (update_cmp x other)) (xs ++ ys)) (is_rising update_cmp (xs ++ ys))
    (all-append (λ other. is_lt (update_cmp x other)) xs ys parts.0 (above_behind family x ys within.0 behind)) (part_rises family xs ys within.1 parts.1 behind two)

-- columns in order, all of later families
pub record Tail (family : List ℕ) (us : List Update) : Type 0 where
  pub behind : Behind family us
  pub rising : IsTrue (is_rising update_cmp us)

longer : (low family : List ℕ) (xs ys : List Update) → is_lt (bytes_cmp low family) ≡ true → InFamily family xs → IsTrue (is_rising update_cmp xs) → Tail family ys → Tail low (xs ++ ys)
longer low family xs ys less within rising tail = record {
  behind = all-append (λ (v : Update). is_lt (bytes_cmp low v.family)) xs ys (behind_family low family xs less within) (behind_more low family ys less tail.behind);
  rising = part_rises family xs ys within rising tail.behind tail.rising;
}

-- ---- the parts

tablet_rising : (m o : Option (List ℕ)) (p : List ℕ) → IsTrue (is_rising update_cmp (at_most_one (codes "~tab") (codes "merged") m ++ (at_most_one (codes "~tab") (codes "oldprevrow") o ++ at_most_one (codes "~tab") (codes "~pr") (Some p))))
tablet_rising None None p = refl
tablet_rising None (Some o) p = refl
tablet_rising (Some m) None p = refl
tablet_rising (Some m) (Some o) p = refl

tablet_within : (m o : Option (List ℕ)) (p : List ℕ) → InFamily (codes "~tab") (at_most_one (codes "~tab") (codes "merged") m ++ (at_most_one (codes "~tab") (codes "oldprevrow") o ++ at_most_one (codes "~tab") (codes "~pr") (Some p)))
tablet_within None None p = (refl, tt)
tablet_within None (Some o) p = (refl, (refl, tt))
tablet_within (Some m) None p = (refl, (refl, tt))
tablet_within (Some m) (Some o) p = (refl, (refl, (refl, tt)))

pub one_within : (family qualifier : List ℕ) (o : Option (List ℕ)) → InFamily family (at_most_one family qualifier o)
one_within family qualifier None = tt
one_within family qualifier (Some value) = (refl, tt)

one_rising : (family qualifier : List ℕ) (o : Option (List ℕ)) → IsTrue (is_rising update_cmp (at_most_one family qualifier o))
one_rising family qualifier None = refl
one_rising family qualifier (Some value) = refl

pub holder_within : (family : List ℕ) (o : Option Holder) → InFamily family (holder_columns family o)
holder_within family None = tt
holder_within family (Some holder) = (refl, tt)

holder_rising : (family : List ℕ) (o : Option Holder) → IsTrue (is_rising update_cmp (holder_columns family o))
holder_rising family None = refl
holder_rising family (Some holder) = refl

pub mapped_within : {X : Type 0} (family : List ℕ) (column : X → Update) (same : (x : X) → (column x).family ≡ family) (xs : List X) → InFamily family (map column xs)
mapped_within family column same [] = tt
mapped_within family column same (x ∷ xs) = (same x, mapped_within family column same xs)

mapped_above : {X : Type 0} (column : X → Update) (key : X → List ℕ) (alike : (x y : X) → update_cmp (column x) (column y) ≡ bytes_cmp (key x) (key y)) (x : X) (xs : List X)
    → IsTrue (list_all (λ other. is_lt (bytes_cmp (key x) other)) (map key xs)) → Above (column x) (map column xs)
mapped_above column key alike x [] above = refl
mapped_above column key alike x (y ∷ ys) above =
    let parts = and_parts (is_lt (bytes_cmp (key x) (key y))) (list_all (λ other. is_lt (bytes_cmp (key x) other)) (map key ys)) above in
    and_from (is_lt (update_cmp (column x) (column y))) (list_all (λ other. is_lt (update_cmp (column x) other)) (map column ys))
    (ap is_lt (alike x y) ∙ parts.0) (mapped_above column key alike x ys parts.1)

mapped_rising : {X : Type 0} (column : X → Update) (key : X → List ℕ) (alike : (x y : X) → update_cmp (column x) (column y) ≡ bytes_cmp (key x) (key y)) (xs : List X)
    → IsTrue (is_rising bytes_cmp (map key xs)) → IsTrue (is_rising update_cmp (map column xs))
mapped_rising column key alike [] rising = refl
mapped_rising column key alike (x ∷ xs) rising =
    let parts = and_parts (list_all (λ other. is_lt (bytes_cmp (key x) other)) (map key xs)) (is_rising bytes_cmp (map key xs)) rising in
    and_from (list_all (λ other. is_lt (update_cmp (column x) other)) (map column xs)) (is_rising update_cmp (map column xs))
    (mapped_above column key alike x xs parts.0) (mapped_rising column key alike xs parts.1)

pub logs_alike : (logs : List (List ℕ)) → map (λ (log : List ℕ). log) logs ≡ logs
logs_alike [] = refl
logs_alike (log ∷ logs) = ap (λ (more : List (List ℕ)). log ∷ more) (logs_alike logs)

-- ---- all of them

pub fixed_tail : (t : TabletRecord) → Tail (codes "log") (fixed_columns t)
fixed_tail t =
    let m = option_map decimal t.merged in
    let o = option_map prev_value t.old_prev in
    let p = prev_value t.prev in
    longer (codes "log") (codes "srv") (written (codes "srv") (codes "dir") t.dir ∷ written (codes "srv") (codes "time") (bar_value t.time) ∷ [])
    (at_most_one (codes "~tab") (codes "merged") m ++ (at_most_one (codes "~tab") (codes "oldprevrow") o ++ at_most_one (codes "~tab") (codes "~pr") (Some p)))
    refl (refl, (refl, tt)) refl (record { behind = behind_family (codes "srv") (codes "~tab") _ refl (tablet_within m o p); rising = tablet_rising m o p })

abbrev pub from_logs : TabletRecord → List Update
from_logs t = map log_column t.logs ++ fixed_columns t

abbrev pub from_loc : TabletRecord → List Update
from_loc t = holder_columns (codes "loc") t.loc ++ from_logs t

abbrev pub from_loaded : TabletRecord → List Update
from_loaded t = map loaded_column t.loaded ++ from_loc t

abbrev pub from_future : TabletRecord → List Update
from_future t = holder_columns (codes "future") t.future ++ from_loaded t

abbrev pub from_files : TabletRecord → List Update
from_files t = map file_column t.files ++ from_future t

pub logs_tail : (t : TabletRecord) → IsInOrder t → Tail (codes "loc") (from_logs t)
logs_tail t order =
    longer (codes "loc") (codes "log") (map log_column t.logs) _ refl (mapped_within (codes "log") log_column (λ log. refl) t.logs)
    (mapped_rising log_column (λ (log : List ℕ). log) (λ one other. refl) t.logs (subst (λ (l : List (List ℕ)). IsTrue (is_rising bytes_cmp l)) (sym (logs_alike t.logs)) order.logs)) (fixed_tail t)

pub loc_tail : (t : TabletRecord) → IsInOrder t → Tail (codes "loaded") (from_loc t)
loc_tail t order = longer (codes "loaded") (codes "loc") (holder_columns (codes "loc") t.loc) _ refl (holder_within (codes "loc") t.loc) (holder_rising (codes "loc") t.loc) (logs_tail t order)

pub loaded_tail : (t : TabletRecord) → IsInOrder t → Tail (codes "future") (from_loaded t)
loaded_tail t order =
    longer (codes "future") (codes "loaded") (map loaded_column t.loaded) _ refl (mapped_within (codes "loaded") loaded_column (λ entry. refl) t.loaded)
    (mapped_rising loaded_column (λ (entry : LoadedEntry). entry.path) (λ one other. refl) t.loaded order.loaded) (loc_tail t order)

pub future_tail : (t : TabletRecord) → IsInOrder t → Tail (codes "file") (from_future t)
future_tail t order = longer (codes "file") (codes "future") (holder_columns (codes "future") t.future) _ refl (holder_within (codes "future") t.future) (holder_rising (codes "future") t.future) (loaded_tail t order)

pub files_tail : (t : TabletRecord) → IsInOrder t → Tail (codes "chopped") (from_files t)
files_tail t order =
    longer (codes "chopped") (codes "file") (map file_column t.files) _ refl (mapped_within (codes "file") file_column (λ file. refl) t.files)
    (mapped_rising file_column (λ (file : FileEntry). file.path) (λ one other. refl) t.files order.files) (future_tail t order)

pub columns_rise : (t : TabletRecord) → IsInOrder t → IsTrue (is_rising update_cmp (columns_of t))
columns_rise t order =
    let files = files_tail t order in
    part_rises (codes "chopped") (at_most_one (codes "chopped") (codes "chopped") (chopped_value t.chopped)) _ (one_within (codes "chopped") (codes "chopped") (chopped_value t.chopped))
    (one_rising (codes "chopped") (codes "chopped") (chopped_value t.chopped)) files.behind files.rising
