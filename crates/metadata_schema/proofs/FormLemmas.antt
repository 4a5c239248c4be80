-- What each column of a well-formed record is, and what it says.
use Rattle.std.proofs.Common.{◌≡◌, ℕ, ◌<◌, ◌≤◌, ◌^◌, Bool, true, false, List, [], ◌++◌, length, map, Option, Some, None, refl}
use Rattle.std.specs.Prelude.{codes, IfSome}
use Rattle.std.specs.List.{All}
use Rattle.std.specs.Option.{option_map}
use Rattle.std.specs.Fmt.{decimal}
use Rattle.std.proofs.lemmas.List.Elements.{All-nil, All-cons, All-append, All-map, All-weaker}
use Rattle.row_keys.specs.Forms.{IsLogName}
use Rattle.row_keys.specs.MetadataRow.{prev_value, IsPrevValue}
use Rattle.metadata_schema.specs.declared.mutation.Update.{Update}
use Rattle.metadata_schema.specs.declared.tablet.Holder.{Holder}
use Rattle.metadata_schema.specs.declared.tablet.TabletRecord.{TabletRecord}
use Rattle.metadata_schema.specs.Values.{file_value, bar_value, chopped_value, IsNumberText, IsFileValue}
use Rattle.metadata_schema.specs.Kinds.{IsColumn, IsValued}
use Rattle.metadata_schema.specs.Columns.{written, at_most_one, file_column, loaded_column, log_column, holder_columns, fixed_columns, columns_of}
use Rattle.metadata_schema.specs.Records.{IsFile, IsLoaded, IsHolder, IsWellFormed}
use Rattle.metadata_schema.proofs.RisingLemmas.{from_logs, from_loc, from_loaded, from_future, from_files}

each_one : (P : Update → Type 0) (f q : List ℕ) (o : Option (List ℕ)) → IfSome o (λ value. P (written f q value)) → All P (at_most_one f q o)
each_one P f q None is = All-nil P
each_one P f q (Some value) is = All-cons P (written f q value) [] is (All-nil P)

each_holder : (P : Update → Type 0) (f : List ℕ) (o : Option Holder) → IfSome o (λ holder. P (written f holder.session holder.server)) → All P (holder_columns f o)
each_holder P f None is = All-nil P
each_holder P f (Some holder) is = All-cons P (written f holder.session holder.server) [] is (All-nil P)

-- what holds of each column that a record may have
pub record Each (P : Update → Type 0) (t : TabletRecord) : Type 0 where
  pub chopped : IfSome (chopped_value t.chopped) (λ value. P (written (codes "chopped") (codes "chopped") value))
  pub files : All (λ file. P (file_column file)) t.files
  pub future : IfSome t.future (λ holder. P (written (codes "future") holder.session holder.server))
  pub loaded : All (λ entry. P (loaded_column entry)) t.loaded
  pub loc : IfSome t.loc (λ holder. P (written (codes "loc") holder.session holder.server))
  pub logs : All (λ log. P (log_column log)) t.logs
  pub dir : P (written (codes "srv") (codes "dir") t.dir)
  pub time : P (written (codes "srv") (codes "time") (bar_value t.time))
  pub merged : IfSome (option_map decimal t.merged) (λ value. P (written (codes "~tab") (codes "merged") value))
  pub old_prev : IfSome (option_map prev_value t.old_prev) (λ value. P (written (codes "~tab") (codes "oldprevrow") value))
  pub prev : P (written (codes "~tab") (codes "~pr") (prev_value t.prev))

all_fixed : (P : Update → Type 0) (t : TabletRecord) → Each P t → All P (fixed_columns t)
all_fixed P t each =
    let last : List Update = at_most_one (codes "~tab") (codes "~pr") (Some (prev_value t.prev)) in
    let old : List Update = at_most_one (codes "~tab") (codes "oldprevrow") (option_map prev_value t.old_prev) in
    let merged : List Update = at_most_one (codes "~tab") (codes "merged") (option_map decimal t.merged) in
    let time : List Update = at_most_one (codes "srv") (codes "time") (Some (bar_value t.time)) in
    let dir : List Update = at_most_one (codes "srv") (codes "dir") (Some t.dir) in
    All-append P dir (time ++ (merged ++ (old ++ last))) (each_one P (codes "srv") (codes "dir") (Some t.dir) each.dir)
    (All-append P time (merged ++ (old ++ last)) (each_one P (codes "srv") (codes "time") (Some (bar_value t.time)) each.time)
    (All-append P merged (old ++ last) (each_one P (codes "~tab") (codes "merged") (option_map decimal t.merged) each.merged)
    (All-append P old last (each_one P (codes "~tab") (codes "oldprevrow") (option_map prev_value t.old_prev) each.old_prev)
    (each_one P (codes "~tab") (codes "~pr") (Some (prev_value t.prev)) each.prev))))

pub all_columns : (P : Update → Type 0) (t : TabletRecord) → Each P t → All P (columns_of t)
all_columns P t each =
    All-append P (at_most_one (codes "chopped") (codes "chopped") (chopped_value t.chopped)) (from_files t) (each_one P (codes "chopped") (codes "chopped") (chopped_value t.chopped) each.chopped)
    (All-append P (map file_column t.files) (from_future t) (All-map P file_column t.files each.files)
    (All-append P (holder_columns (codes "future") t.future) (from_loaded t) (each_holder P (codes "future") t.future each.future)
    (All-append P (map loaded_column t.loaded) (from_loc t) (All-map P loaded_column t.loaded each.loaded)
    (All-append P (holder_columns (codes "loc") t.loc) (from_logs t) (each_holder P (codes "loc") t.loc each.loc)
    (All-append P (map log_column t.logs) (fixed_columns t) (All-map P log_column t.logs each.logs) (all_fixed P t each))))))

if_more : {X : Type 0} (P Q : X → Type 0) (o : Option X) → ((x : X) → P x → Q x) → IfSome o P → IfSome o Q
if_more P Q None more is = tt
if_more P Q (Some x) more is = more x is

if_mapped : {X : Type 0} (P : X → Type 0) (Q : List ℕ → Type 0) (value : X → List ℕ) (o : Option X) → ((x : X) → P x → Q (value x)) → IfSome o P → IfSome (option_map value o) Q
if_mapped P Q value None more is = tt
if_mapped P Q value (Some x) more is = more x is

anything : {X : Type 0} (o : Option X) → IfSome o (λ _. Unit {0})
anything None = tt
anything (Some x) = tt

chopped_is : (b : Bool) → IfSome (chopped_value b) (λ value. value ≡ codes "chopped")
chopped_is true = refl
chopped_is false = tt

pub each_named : (t : TabletRecord) → IsWellFormed t → Each (λ u. IsColumn u.family u.qualifier) t
each_named t form = record {
  chopped = anything (chopped_value t.chopped);
  files = All-weaker IsFile (λ file. IsColumn (codes "file") file.path) (λ file is. is.path) t.files form.files;
  future = if_more IsHolder (λ holder. IsColumn (codes "future") holder.session) t.future (λ holder is. is.session) form.future;
  loaded = All-weaker IsLoaded (λ entry. IsColumn (codes "loaded") entry.path) (λ entry is. is.path) t.loaded form.loaded;
  loc = if_more IsHolder (λ holder. IsColumn (codes "loc") holder.session) t.loc (λ holder is. is.session) form.loc;
  logs = form.logs;
  dir = tt;
  time = tt;
  merged = anything (option_map decimal t.merged);
  old_prev = anything (option_map prev_value t.old_prev);
  prev = tt;
}

pub each_valued : (t : TabletRecord) → IsWellFormed t → Each IsValued t
each_valued t form = record {
  chopped = chopped_is t.chopped;
  files =
      All-weaker IsFile (λ file. IsFileValue (file_value file.size file.entries file.time))
      (λ file is. record { size = file.size; entries = file.entries; time = file.time; facts = is.facts; is = refl }) t.files form.files;
  future = if_more IsHolder (λ holder. IsValued (written (codes "future") holder.session holder.server)) t.future (λ holder is. is.server) form.future;
  loaded = All-weaker IsLoaded (λ entry. IsNumberText (decimal entry.tid)) (λ entry is. record { number = entry.tid; small = is.tid; is = refl }) t.loaded form.loaded;
  loc = if_more IsHolder (λ holder. IsValued (written (codes "loc") holder.session holder.server)) t.loc (λ holder is. is.server) form.loc;
  logs = All-weaker IsLogName (λ log. IsValued (log_column log)) (λ log is. refl) t.logs form.logs;
  dir = form.dir;
  time = record { bar = t.time; small = form.bar; is = refl };
  merged = if_mapped (λ tid. tid < 2 ^ 64) IsNumberText decimal t.merged (λ tid small. record { number = tid; small = small; is = refl }) form.merged;
  old_prev =
      if_mapped (λ prev. IfSome prev (λ row. length row ≤ 300)) (λ value. (prev : Option (List ℕ)) × IsPrevValue prev value) prev_value t.old_prev
      (λ prev short. (prev, record { short = short; is = refl })) form.old_prev;
  prev = (t.prev, record { short = form.prev; is = refl });
}
