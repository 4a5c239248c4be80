-- The columns of a well-formed record fit the fields of updates, and a value of `/root` spells one record.
use Rattle.std.proofs.Common.{◌≡◌, ℕ, ◌+◌, ◌<◌, ◌≤◌, ◌^◌, Bool, true, false, List, [], ◌∷◌, ◌++◌, length, map, drop, All, Option, Some, None, IsTrue, refl, sym, ◌∙◌, ap, subst, arith, lit<, lit≤, length-append, length-drop}
use Rattle.std.specs.Prelude.{codes, IfSome}
use Rattle.std.specs.Int.{w32}
use Rattle.std.specs.List.{flat_map}
use Rattle.std.specs.Option.{option_map}
use Rattle.std.specs.Fmt.{decimal}
use Rattle.std.proofs.lemmas.Fmt.{length-decimal-le}
use Rattle.std.proofs.lemmas.List.Elements.{All-head, All-tail, All-weaker}
use Rattle.row_keys.specs.Forms.{IsLogName}
use Rattle.row_keys.specs.MetadataRow.{prev_value}
use Rattle.bytes_form.specs.Fields.{number_field}
use Rattle.bytes_form.proofs.FieldsLemmas.{length-number_field, parted}
use Rattle.metadata_schema.specs.declared.mutation.Update.{Update}
use Rattle.metadata_schema.specs.declared.tablet.FileEntry.{FileEntry}
use Rattle.metadata_schema.specs.declared.tablet.LoadedEntry.{LoadedEntry}
use Rattle.metadata_schema.specs.declared.tablet.Holder.{Holder}
use Rattle.metadata_schema.specs.declared.tablet.TabletRecord.{TabletRecord}
use Rattle.metadata_schema.specs.Paths.{IsFilePath}
use Rattle.metadata_schema.specs.Values.{file_value, time_part, bar_value, chopped_value}
use Rattle.metadata_schema.specs.Columns.{written, file_column, loaded_column, log_column, fixed_columns, columns_of, column_at}
use Rattle.metadata_schema.specs.Records.{IsFile, IsLoaded, IsHolder, IsWellFormed}
use Rattle.metadata_schema.proofs.FormLemmas.{Each, all_columns}
use Rattle.metadata_schema.proofs.OneToOne.{same_columns}
use Rattle.metadata_schema.proofs.RisingLemmas.{from_logs, from_loc, from_loaded, from_future, from_files, columns_rise}
use Rattle.log_files.specs.Mutations.{FitsUpdate, AreUpdates, spelled_update, spelled_updates}
use Rattle.log_files.proofs.UpdateLemmas.{IsPrefixFree-update}
use Rattle.store_layout.specs.Nodes.{root_value}
use Rattle.store_layout.specs.Names.{name_byte, file_of}
use Rattle.store_layout.proofs.NameLemmas.{dir_short, file_form}
use Rattle.store_layout.proofs.RootLemmas.{written_fits}
use Rattle.store_layout.proofs.RoomLemmas.{length-update}

short_decimal : (n : ℕ) → n < 2 ^ 64 → length (decimal n) ≤ 20
short_decimal n small = length-decimal-le 20 n (lit< tt) (omega arith) small

length-mapped : (bytes : List ℕ) → length (map name_byte bytes) ≡ length bytes
length-mapped [] = refl
length-mapped (b ∷ more) = let e = length-mapped more in omega (arith, e)

short_path : (path : List ℕ) → IsFilePath path → length path < 2 ^ 8
short_path path form = let short = (file_form path form).short in omega (arith, short, length-mapped path)

short_time : (time : Option ℕ) → IfSome time (λ t. t < 2 ^ 63) → length (time_part time) ≤ 21
short_time None small = lit≤ tt
short_time (Some t) small = let short = short_decimal t (omega (arith, small)) in omega (arith, short)

fits_file : (file : FileEntry) → IsFile file → FitsUpdate (file_column file)
fits_file file is =
    written_fits (codes "file") file.path (file_value file.size file.entries file.time) (lit< tt) (short_path file.path is.path)
    (omega (
      arith,
      length-append (decimal file.size) (44 ∷ (decimal file.entries ++ time_part file.time)),
      length-append (decimal file.entries) (time_part file.time),
      short_decimal file.size is.facts.small_size,
      short_decimal file.entries is.facts.few_entries,
      short_time file.time is.facts.small_time,
    ))

fits_loaded : (entry : LoadedEntry) → IsLoaded entry → FitsUpdate (loaded_column entry)
fits_loaded entry is = written_fits (codes "loaded") entry.path (decimal entry.tid) (lit< tt) (short_path entry.path is.path) (omega (arith, short_decimal entry.tid is.tid))

fits_holder : (family : List ℕ) → length family < 2 ^ 8 → (holder : Holder) → IsHolder holder → FitsUpdate (written family holder.session holder.server)
fits_holder family short holder is =
    let session = is.session.most in
    let server = is.server.most in
    written_fits family holder.session holder.server short (omega (arith, session)) (omega (arith, server))

fits_log : (log : List ℕ) → IsLogName log → FitsUpdate (log_column log)
fits_log log is =
    let named = ap (length {A = ℕ}) is.is in
    let short = is.form.most in
    written_fits (codes "log") log (drop 4 log) (lit< tt) (omega (arith, named, short)) (omega (arith, named, short, length-drop 4 log))

fits_prev : (qualifier : List ℕ) → length qualifier < 2 ^ 8 → (prev : Option (List ℕ)) → IfSome prev (λ row. length row ≤ 300) → FitsUpdate (written (codes "~tab") qualifier (prev_value prev))
fits_prev qualifier short None row = written_fits (codes "~tab") qualifier (prev_value None) (lit< tt) short (lit< tt)
fits_prev qualifier short (Some prev) row = written_fits (codes "~tab") qualifier (prev_value (Some prev)) (lit< tt) short (omega (arith, row))

fits_chopped : (chopped : Bool) → IfSome (chopped_value chopped) (λ value. FitsUpdate (written (codes "chopped") (codes "chopped") value))
fits_chopped true = written_fits (codes "chopped") (codes "chopped") (codes "chopped") (lit< tt) (lit< tt) (lit< tt)
fits_chopped false = tt

if_holder : (family : List ℕ) → length family < 2 ^ 8 → (holder : Option Holder) → IfSome holder IsHolder → IfSome holder (λ h. FitsUpdate (written family h.session h.server))
if_holder family short None is = tt
if_holder family short (Some holder) is = fits_holder family short holder is

if_merged : (merged : Option ℕ) → IfSome merged (λ tid. tid < 2 ^ 64) → IfSome (option_map decimal merged) (λ value. FitsUpdate (written (codes "~tab") (codes "merged") value))
if_merged None is = tt
if_merged (Some tid) small = written_fits (codes "~tab") (codes "merged") (decimal tid) (lit< tt) (lit< tt) (omega (arith, short_decimal tid small))

if_old_prev : (prev : Option (Option (List ℕ))) → IfSome prev (λ p. IfSome p (λ row. length row ≤ 300)) → IfSome (option_map prev_value prev) (λ value. FitsUpdate (written (codes "~tab") (codes "oldprevrow") value))
if_old_prev None is = tt
if_old_prev (Some prev) is = fits_prev (codes "oldprevrow") (lit< tt) prev is

-- directories and bars are values of columns
short_dir : (t : TabletRecord) → IsWellFormed t → FitsUpdate (written (codes "srv") (codes "dir") t.dir)
short_dir t form = written_fits (codes "srv") (codes "dir") t.dir (lit< tt) (lit< tt) (let short = dir_short t.dir form.dir in omega (arith, short))

short_bar : (t : TabletRecord) → IsWellFormed t → FitsUpdate (written (codes "srv") (codes "time") (bar_value t.time))
short_bar t form = written_fits (codes "srv") (codes "time") (bar_value t.time) (lit< tt) (lit< tt) (let short = short_decimal t.time (omega (arith, form.bar)) in omega (arith, short))

-- each column of a well-formed record fits
pub columns_fit : (t : TabletRecord) → IsWellFormed t → All FitsUpdate (columns_of t)
columns_fit t form = all_columns FitsUpdate t (record {
  chopped = fits_chopped t.chopped;
  files = All-weaker IsFile (λ file. FitsUpdate (file_column file)) fits_file t.files form.files;
  future = if_holder (codes "future") (lit< tt) t.future form.future;
  loaded = All-weaker IsLoaded (λ entry. FitsUpdate (loaded_column entry)) fits_loaded t.loaded form.loaded;
  loc = if_holder (codes "loc") (lit< tt) t.loc form.loc;
  logs = All-weaker IsLogName (λ log. FitsUpdate (log_column log)) fits_log t.logs form.logs;
  dir = short_dir t form;
  time = short_bar t form;
  merged = if_merged t.merged form.merged;
  old_prev = if_old_prev t.old_prev form.old_prev;
  prev = fits_prev (codes "~pr") (lit< tt) t.prev form.prev;
})

-- ---- one record

-- updates that fit have one spelling
one_list : (xs ys : List Update) → All FitsUpdate xs → All FitsUpdate ys → flat_map spelled_update xs ≡ flat_map spelled_update ys → xs ≡ ys
one_list [] [] one two same = refl
one_list [] (y ∷ ys) one two same = absurd (let e = ap (length {A = ℕ}) same in omega (arith, e, length-append (spelled_update y) (flat_map spelled_update ys), length-update y))
one_list (x ∷ xs) [] one two same = absurd (let e = ap (length {A = ℕ}) same in omega (arith, e, length-append (spelled_update x) (flat_map spelled_update xs), length-update x))
one_list (x ∷ xs) (y ∷ ys) one two same =
    let first = IsPrefixFree-update x y (flat_map spelled_update xs) (flat_map spelled_update ys) (All-head FitsUpdate x xs one) (All-head FitsUpdate y ys two) same in
    let rest = one_list xs ys (All-tail FitsUpdate x xs one) (All-tail FitsUpdate y ys two) first.1 in
    λ i. first.0 i ∷ rest i

one_columns : (xs ys : List Update) → All FitsUpdate xs → All FitsUpdate ys → spelled_updates xs ≡ spelled_updates ys → xs ≡ ys
unfolding spelled_updates
one_columns xs ys one two same =
    one_list xs ys one two (parted (number_field w32 (length xs)) (number_field w32 (length ys)) (flat_map spelled_update xs) (flat_map spelled_update ys) (length-number_field w32 (length xs) ∙ sym (length-number_field w32 (length ys))) same).1

pub one_record : (one other : TabletRecord) → one.table ≡ other.table → one.end ≡ other.end → IsWellFormed one → IsWellFormed other → root_value one ≡ root_value other → one ≡ other
one_record one other table end form_one form_other same =
    let columns = one_columns (columns_of one) (columns_of other) (columns_fit one form_one) (columns_fit other form_other) same in
    same_columns one other table end form_one form_other (λ family qualifier. ap (λ us. column_at us family qualifier) columns)

-- ---- updates

some_behind : {A : Type 0} (front back : List A) → 0 < length back → 0 < length (front ++ back)
some_behind front back some = omega (arith, length-append front back, some)

-- a record has some column, since it has a directory
some_columns : (t : TabletRecord) → 0 < length (columns_of t)
some_columns t =
    let fixed : 0 < length (fixed_columns t) = omega arith in
    some_behind _ (from_files t)
    (some_behind (map file_column t.files) (from_future t)
    (some_behind _ (from_loaded t) (some_behind (map loaded_column t.loaded) (from_loc t) (some_behind _ (from_logs t) (some_behind (map log_column t.logs) (fixed_columns t) fixed)))))

pub columns_are_updates : (t : TabletRecord) → IsWellFormed t → length (columns_of t) < 2 ^ 32 → AreUpdates (columns_of t)
columns_are_updates t form few = record { some = some_columns t; counts = few; each = columns_fit t form; rising = columns_rise t form.order }
