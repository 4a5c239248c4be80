-- The node `/root` has one record.
use Rattle.std.proofs.Common.{◌≡◌, inl, inr, ℕ, ◌+◌, ◌<◌, ◌≤◌, ◌^◌, Bool, true, false, codes, List, [], ◌∷◌, ◌++◌, length, length-append, drop, map, Option, Some, None, IfSome, refl, sym, ◌∙◌, ap, arith, lit<}
use Rattle.std.specs.Int.{w8, w32}
use Rattle.std.specs.List.{All, flat_map}
use Rattle.std.specs.Option.{option_map}
use Rattle.std.specs.Fmt.{decimal}
use Rattle.std.proofs.lemmas.Fmt.{length-decimal-le}
use Rattle.std.proofs.lemmas.List.Elements.{All-nil, All-cons, All-head, All-tail, All-append}
use Rattle.std.proofs.lemmas.Option.{same_Some}
use Rattle.row_keys.specs.Forms.{IsTableId, IsLogName}
use Rattle.row_keys.specs.MetadataRow.{prev_value}
use Rattle.bytes_form.specs.Fields.{number_field, short_field}
use Rattle.bytes_form.proofs.FieldsLemmas.{parted, length-number_field, length-counted_field}
use Rattle.metadata_schema.specs.declared.mutation.Update.{Update}
use Rattle.metadata_schema.specs.declared.tablet.FileEntry.{FileEntry}
use Rattle.metadata_schema.specs.declared.tablet.LoadedEntry.{LoadedEntry}
use Rattle.metadata_schema.specs.declared.tablet.Holder.{Holder}
use Rattle.metadata_schema.specs.declared.tablet.TabletRecord.{TabletRecord}
use Rattle.metadata_schema.specs.Columns.{columns_of, fixed_columns, at_most_one, file_column, loaded_column, log_column, holder_columns}
use Rattle.metadata_schema.specs.Paths.{IsDirectory, IsFileName, IsFilePath}
use Rattle.metadata_schema.specs.Records.{IsFile, IsLoaded, IsHolder, IsWellFormed}
use Rattle.metadata_schema.specs.Values.{file_value, bar_value, time_part, chopped_value}
use Rattle.metadata_schema.proofs.OneToOne.{same_record}
use Rattle.log_files.specs.Mutations.{spelled_value, spelled_update, spelled_updates, FitsValue, FitsUpdate}
use Rattle.log_files.proofs.UpdateLemmas.{IsPrefixFree-update}
use Rattle.node_store.specs.Nodes.{Nodes}
use Rattle.store_layout.specs.Nodes.{root_value}
use Rattle.store_meaning.specs.Levels.{IsRootRecord}

-- ---- updates that fit their fields

-- a spelled update isn't empty
some_bytes : (u : Update) (x : List ℕ) → [] ≡ spelled_update u ++ x → ⊥
some_bytes u x e =
    let whole = length-append (spelled_update u) x in
    let outer = length-append (short_field u.family ++ short_field u.qualifier) (spelled_value u.value) in
    let inner = length-append (short_field u.family) (short_field u.qualifier) in
    let first : length (short_field u.family) ≡ 1 + length u.family = length-counted_field w8 u.family in
    let none : 0 ≡ length (spelled_update u ++ x) = ap (length {A = ℕ}) e in
    omega (arith, whole, outer, inner, first, none)

same_each : (one other : List Update) → All FitsUpdate one → All FitsUpdate other → flat_map spelled_update one ≡ flat_map spelled_update other → one ≡ other
same_each [] [] p q e = refl
same_each [] (u ∷ us) p q e = absurd (some_bytes u (flat_map spelled_update us) e)
same_each (u ∷ us) [] p q e = absurd (some_bytes u (flat_map spelled_update us) (sym e))
same_each (u ∷ us) (v ∷ vs) p q e =
    let first = IsPrefixFree-update u v (flat_map spelled_update us) (flat_map spelled_update vs) (All-head FitsUpdate u us p) (All-head FitsUpdate v vs q) e in
    let rest = same_each us vs (All-tail FitsUpdate u us p) (All-tail FitsUpdate v vs q) first.1 in
    λ i. first.0 i ∷ rest i

same_updates : (one other : List Update) → All FitsUpdate one → All FitsUpdate other → spelled_updates one ≡ spelled_updates other → one ≡ other
unfolding spelled_updates
same_updates one other p q e =
    let counts : length (number_field w32 (length one)) ≡ length (number_field w32 (length other)) = length-number_field w32 (length one) ∙ sym (length-number_field w32 (length other)) in
    same_each one other p q (parted (number_field w32 (length one)) (number_field w32 (length other)) (flat_map spelled_update one) (flat_map spelled_update other) counts e).1

-- ---- the columns of a record fit

number_short : (n : ℕ) → n < 2 ^ 64 → length (decimal n) ≤ 20
number_short n small = length-decimal-le 20 n (lit< tt) (omega arith) small

id_short : (id : List ℕ) → IsTableId id → length id ≤ 13
id_short id (inl is) = let e = ap (length {A = ℕ}) is in omega (arith, e)
id_short id (inr (inl is)) = let e = ap (length {A = ℕ}) is in omega (arith, e)
id_short id (inr (inr is)) = is.most

dir_short : (dir : List ℕ) → IsDirectory dir → length dir ≤ 15
dir_short dir (inl is) = let e = ap (length {A = ℕ}) is in omega (arith, e)
dir_short dir (inr (inl is)) = let e = ap (length {A = ℕ}) is in omega (arith, e)
dir_short dir (inr (inr (inl is))) = let e = ap (length {A = ℕ}) is in omega (arith, e)
dir_short dir (inr (inr (inr drawn))) = let e = ap (length {A = ℕ}) drawn.1 in let most = drawn.2.form.most in omega (arith, e, most)

name_short : (name : List ℕ) → IsFileName name → length name ≤ 17
name_short name is =
    let e = ap (length {A = ℕ}) is.is in
    let j = length-append is.text (codes ".rf") in
    let most = is.drawn.form.most in
    omega (arith, e, j, most)

path_short : (path : List ℕ) → IsFilePath path → length path < 2 ^ 8
path_short path is =
    let e = ap (length {A = ℕ}) is.is in
    let outer = length-append is.id (47 ∷ (is.dir ++ 47 ∷ is.name)) in
    let inner = length-append is.dir (47 ∷ is.name) in
    let one = id_short is.id is.parts.is_id in
    let two = dir_short is.dir is.parts.is_dir in
    let three = name_short is.name is.parts.is_name in
    omega (arith, e, outer, inner, one, two, three)

time_short : (time : Option ℕ) → IfSome time (λ t. t < 2 ^ 63) → length (time_part time) ≤ 21
time_short None small = omega arith
time_short (Some t) small = let e = number_short t (omega arith) in omega (arith, e)

value_short : (size entries : ℕ) (time : Option ℕ) → size < 2 ^ 64 → entries < 2 ^ 64 → IfSome time (λ t. t < 2 ^ 63) → length (file_value size entries time) < 2 ^ 16
value_short size entries time one two three =
    let outer = length-append (decimal size) (44 ∷ (decimal entries ++ time_part time)) in
    let inner = length-append (decimal entries) (time_part time) in
    let a = number_short size one in
    let b = number_short entries two in
    let c = time_short time three in
    omega (arith, outer, inner, a, b, c)

file_fits : (file : FileEntry) → IsFile file → FitsUpdate (file_column file)
file_fits file is = record { family = lit< tt; qualifier = path_short file.path is.path; value = value_short file.size file.entries file.time is.facts.small_size is.facts.few_entries is.facts.small_time }

loaded_fits : (entry : LoadedEntry) → IsLoaded entry → FitsUpdate (loaded_column entry)
loaded_fits entry is = record { family = lit< tt; qualifier = path_short entry.path is.path; value = (let e = number_short entry.tid is.tid in omega (arith, e)) }

log_fits : (log : List ℕ) → IsLogName log → FitsUpdate (log_column log)
log_fits log is =
    let e = ap (length {A = ℕ}) is.is in
    let most = is.form.most in
    let behind = ap (λ l. length (drop 4 l)) is.is in
    record { family = lit< tt; qualifier = omega (arith, e, most); value = omega (arith, behind, most) }

all_fit : {X : Type 0} (Is : X → Type 0) (column : X → Update) → ((x : X) → Is x → FitsUpdate (column x)) → (xs : List X) → All Is xs → All FitsUpdate (map column xs)
all_fit Is column fits [] all = All-nil FitsUpdate
all_fit Is column fits (x ∷ xs) all = All-cons FitsUpdate (column x) (map column xs) (fits x (All-head Is x xs all)) (all_fit Is column fits xs (All-tail Is x xs all))

holder_fits : (family : List ℕ) → length family < 2 ^ 8 → (holder : Option Holder) → IfSome holder IsHolder → All FitsUpdate (holder_columns family holder)
holder_fits family short None is = All-nil FitsUpdate
holder_fits family short (Some holder) is =
    All-cons FitsUpdate _ [] (record { family = short; qualifier = (let most = is.session.most in omega (arith, most)); value = (let most = is.server.most in omega (arith, most)) }) (All-nil FitsUpdate)

one_fits : (family qualifier : List ℕ) (value : Option (List ℕ)) → length family < 2 ^ 8 → length qualifier < 2 ^ 8 → FitsValue value → All FitsUpdate (at_most_one family qualifier value)
one_fits family qualifier None one two three = All-nil FitsUpdate
one_fits family qualifier (Some value) one two three = All-cons FitsUpdate _ [] (record { family = one; qualifier = two; value = three }) (All-nil FitsUpdate)

prev_short : (prev : Option (List ℕ)) → IfSome prev (λ row. length row ≤ 300) → length (prev_value prev) < 2 ^ 16
prev_short None short = lit< tt
prev_short (Some row) short = omega arith

old_short : (old : Option (Option (List ℕ))) → IfSome old (λ prev. IfSome prev (λ row. length row ≤ 300)) → FitsValue (option_map prev_value old)
old_short None short = tt
old_short (Some prev) short = prev_short prev short

merged_short : (merged : Option ℕ) → IfSome merged (λ tid. tid < 2 ^ 64) → FitsValue (option_map decimal merged)
merged_short None small = tt
merged_short (Some tid) small = let e = number_short tid small in omega (arith, e)

chopped_short : (chopped : Bool) → FitsValue (chopped_value chopped)
chopped_short true = lit< tt
chopped_short false = tt

abbrev from_prev : TabletRecord → List Update
from_prev tablet = at_most_one (codes "~tab") (codes "~pr") (Some (prev_value tablet.prev))

abbrev from_old : TabletRecord → List Update
from_old tablet = at_most_one (codes "~tab") (codes "oldprevrow") (option_map prev_value tablet.old_prev) ++ from_prev tablet

abbrev from_merged : TabletRecord → List Update
from_merged tablet = at_most_one (codes "~tab") (codes "merged") (option_map decimal tablet.merged) ++ from_old tablet

abbrev from_time : TabletRecord → List Update
from_time tablet = at_most_one (codes "srv") (codes "time") (Some (bar_value tablet.time)) ++ from_merged tablet

abbrev from_logs : TabletRecord → List Update
from_logs tablet = map log_column tablet.logs ++ fixed_columns tablet

abbrev from_loc : TabletRecord → List Update
from_loc tablet = holder_columns (codes "loc") tablet.loc ++ from_logs tablet

abbrev from_loaded : TabletRecord → List Update
from_loaded tablet = map loaded_column tablet.loaded ++ from_loc tablet

abbrev from_future : TabletRecord → List Update
from_future tablet = holder_columns (codes "future") tablet.future ++ from_loaded tablet

abbrev from_files : TabletRecord → List Update
from_files tablet = map file_column tablet.files ++ from_future tablet

-- a column that may stand there, in front of others
one_then : (family qualifier : List ℕ) (value : Option (List ℕ)) (rest : List Update) → length family < 2 ^ 8 → length qualifier < 2 ^ 8 → FitsValue value → All FitsUpdate rest → All FitsUpdate (at_most_one family qualifier value ++ rest)
one_then family qualifier value rest one two three all = All-append FitsUpdate (at_most_one family qualifier value) rest (one_fits family qualifier value one two three) all

fixed_fit : (tablet : TabletRecord) → IsWellFormed tablet → All FitsUpdate (fixed_columns tablet)
fixed_fit tablet form =
    let dir = dir_short tablet.dir form.dir in
    let bar = number_short tablet.time (omega (arith, form.bar)) in
    one_then (codes "srv") (codes "dir") (Some tablet.dir) (from_time tablet) (lit< tt) (lit< tt) (omega (arith, dir))
    (one_then (codes "srv") (codes "time") (Some (bar_value tablet.time)) (from_merged tablet) (lit< tt) (lit< tt) (omega (arith, bar))
    (one_then (codes "~tab") (codes "merged") (option_map decimal tablet.merged) (from_old tablet) (lit< tt) (lit< tt) (merged_short tablet.merged form.merged)
    (one_then (codes "~tab") (codes "oldprevrow") (option_map prev_value tablet.old_prev) (from_prev tablet) (lit< tt) (lit< tt) (old_short tablet.old_prev form.old_prev)
    (one_fits (codes "~tab") (codes "~pr") (Some (prev_value tablet.prev)) (lit< tt) (lit< tt) (prev_short tablet.prev form.prev)))))

columns_fit : (tablet : TabletRecord) → IsWellFormed tablet → All FitsUpdate (columns_of tablet)
columns_fit tablet form =
    one_then (codes "chopped") (codes "chopped") (chopped_value tablet.chopped) (from_files tablet) (lit< tt) (lit< tt) (chopped_short tablet.chopped)
    (All-append FitsUpdate (map file_column tablet.files) (from_future tablet) (all_fit IsFile file_column file_fits tablet.files form.files)
    (All-append FitsUpdate (holder_columns (codes "future") tablet.future) (from_loaded tablet) (holder_fits (codes "future") (lit< tt) tablet.future form.future)
    (All-append FitsUpdate (map loaded_column tablet.loaded) (from_loc tablet) (all_fit IsLoaded loaded_column loaded_fits tablet.loaded form.loaded)
    (All-append FitsUpdate (holder_columns (codes "loc") tablet.loc) (from_logs tablet) (holder_fits (codes "loc") (lit< tt) tablet.loc form.loc)
    (All-append FitsUpdate (map log_column tablet.logs) (fixed_columns tablet) (all_fit IsLogName log_column log_fits tablet.logs form.logs)
    (fixed_fit tablet form))))))

-- the node has one record
pub one_root : (nodes : Nodes) (one other : TabletRecord) → IsRootRecord nodes one → IsRootRecord nodes other → one ≡ other
one_root nodes one other p q =
    let bytes : root_value one ≡ root_value other = sym p.value ∙ ap (λ node. node.value) (same_Some p.node q.node (sym p.there ∙ q.there)) ∙ q.value in
    let columns = same_updates (columns_of one) (columns_of other) (columns_fit one p.at.form) (columns_fit other q.at.form) bytes in
    same_record one other (p.at.table_is ∙ sym q.at.table_is) (p.at.end_is ∙ sym q.at.end_is) p.at.form q.at.form columns
