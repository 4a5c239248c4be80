-- Columns are those of one record.
use Rattle.std.proofs.Common.{◌≡◌, ℕ, ◌<◌, ◌^◌, Bool, true, false, List, ◌++◌, map, drop, Option, Some, None, refl, sym, ap, ◌∙◌, arith}
use Rattle.std.specs.Prelude.{codes, IfSome}
use Rattle.std.specs.Option.{option_map}
use Rattle.std.specs.Fmt.{decimal}
use Rattle.std.proofs.lemmas.Option.{same_Some}
use Rattle.std.proofs.lemmas.Fmt.{decimal_injective}
use Rattle.row_keys.specs.MetadataRow.{prev_value}
use Rattle.metadata_schema.specs.declared.mutation.Update.{Update}
use Rattle.metadata_schema.specs.declared.tablet.TabletRecord.{TabletRecord}
use Rattle.metadata_schema.specs.Values.{bar_value, chopped_value}
use Rattle.metadata_schema.specs.Columns.{at_most_one, file_column, loaded_column, log_column, holder_columns, fixed_columns, columns_of, update_at}
use Rattle.metadata_schema.specs.Records.{IsWellFormed, IsFile, IsLoaded}
use Rattle.metadata_schema.proofs.RisingLemmas.{one_within, holder_within, mapped_within, from_logs, from_loc, from_loaded, from_future, from_files, fixed_tail, logs_tail, loc_tail, loaded_tail, future_tail, files_tail}
use Rattle.metadata_schema.specs.Columns.{column_at}
use Rattle.metadata_schema.proofs.GivenLemmas.{given_at}
use Rattle.metadata_schema.proofs.RisingLemmas.{columns_rise}
use Rattle.metadata_schema.proofs.GivenLemmas.{columns_given}
use Rattle.metadata_schema.proofs.SameColumns.{part, same_file, same_loaded, same_holders, mapped, logs_alike}
use Rattle.metadata_schema.proofs.SameLists.{same_lists, joined}

-- ---- the columns of `srv` and `~tab`

abbrev fixed : List ℕ → List ℕ → Option (List ℕ) → Option (List ℕ) → List ℕ → List Update
fixed d b m o p =
    at_most_one (codes "srv") (codes "dir") (Some d) ++ (at_most_one (codes "srv") (codes "time") (Some b) ++ (at_most_one (codes "~tab") (codes "merged") m
    ++ (at_most_one (codes "~tab") (codes "oldprevrow") o ++ at_most_one (codes "~tab") (codes "~pr") (Some p))))

merged_at : (d b : List ℕ) (m o : Option (List ℕ)) (p : List ℕ) → update_at (fixed d b m o p) (codes "~tab") (codes "merged") ≡ option_map (λ (v : List ℕ). Some v) m
merged_at d b None None p = refl
merged_at d b None (Some o) p = refl
merged_at d b (Some m) None p = refl
merged_at d b (Some m) (Some o) p = refl

old_at : (d b : List ℕ) (m o : Option (List ℕ)) (p : List ℕ) → update_at (fixed d b m o p) (codes "~tab") (codes "oldprevrow") ≡ option_map (λ (v : List ℕ). Some v) o
old_at d b None None p = refl
old_at d b None (Some o) p = refl
old_at d b (Some m) None p = refl
old_at d b (Some m) (Some o) p = refl

prev_at : (d b : List ℕ) (m o : Option (List ℕ)) (p : List ℕ) → update_at (fixed d b m o p) (codes "~tab") (codes "~pr") ≡ Some (Some p)
prev_at d b None None p = refl
prev_at d b None (Some o) p = refl
prev_at d b (Some m) None p = refl
prev_at d b (Some m) (Some o) p = refl

same_prev : (a b : Option (List ℕ)) → prev_value a ≡ prev_value b → a ≡ b
same_prev None None e = refl
same_prev None (Some b) e = absurd (grind (arith, e))
same_prev (Some a) None e = absurd (grind (arith, e))
same_prev (Some a) (Some b) e = cc

same_old : (x y : Option (Option (List ℕ))) → option_map (λ (v : List ℕ). Some v) (option_map prev_value x) ≡ option_map (λ (v : List ℕ). Some v) (option_map prev_value y) → x ≡ y
same_old None None e = refl
same_old None (Some b) e = cc
same_old (Some a) None e = cc
same_old (Some a) (Some b) e = ap Some (same_prev a b (same_Some _ _ (same_Some _ _ e)))

same_merged : (x y : Option ℕ) → IfSome x (λ n. n < 2 ^ 64) → IfSome y (λ n. n < 2 ^ 64) → option_map (λ (v : List ℕ). Some v) (option_map decimal x) ≡ option_map (λ (v : List ℕ). Some v) (option_map decimal y) → x ≡ y
same_merged None None one two e = refl
same_merged None (Some b) one two e = cc
same_merged (Some a) None one two e = cc
same_merged (Some a) (Some b) one two e = ap Some (decimal_injective a b one two (same_Some _ _ (same_Some _ _ e)))

same_bar : (m n : ℕ) → m < 2 ^ 63 → n < 2 ^ 63 → bar_value m ≡ bar_value n → m ≡ n
same_bar m n one two e = decimal_injective m n (omega arith) (omega arith) (ap (drop 1) e)

same_chopped : (a b : Bool) → at_most_one (codes "chopped") (codes "chopped") (chopped_value a) ≡ at_most_one (codes "chopped") (codes "chopped") (chopped_value b) → a ≡ b
same_chopped true true e = refl
same_chopped true false e = cc
same_chopped false true e = cc
same_chopped false false e = refl

-- ---- records

pub same_record : (a b : TabletRecord) → a.table ≡ b.table → a.end ≡ b.end → IsWellFormed a → IsWellFormed b → columns_of a ≡ columns_of b → a ≡ b
same_record a b table end one two is =
    let s = part (codes "chopped") (at_most_one (codes "chopped") (codes "chopped") (chopped_value a.chopped)) (at_most_one (codes "chopped") (codes "chopped") (chopped_value b.chopped)) (from_files a) (from_files b)
    (one_within _ _ _) (one_within _ _ _) (files_tail a one.order).behind (files_tail b two.order).behind is in
    let r = part (codes "file") (map file_column a.files) (map file_column b.files) (from_future a) (from_future b)
    (mapped_within _ file_column (λ x. refl) a.files) (mapped_within _ file_column (λ x. refl) b.files) (future_tail a one.order).behind (future_tail b two.order).behind s.1 in
    let u = part (codes "future") (holder_columns (codes "future") a.future) (holder_columns (codes "future") b.future) (from_loaded a) (from_loaded b)
    (holder_within _ _) (holder_within _ _) (loaded_tail a one.order).behind (loaded_tail b two.order).behind r.1 in
    let v = part (codes "loaded") (map loaded_column a.loaded) (map loaded_column b.loaded) (from_loc a) (from_loc b)
    (mapped_within _ loaded_column (λ x. refl) a.loaded) (mapped_within _ loaded_column (λ x. refl) b.loaded) (loc_tail a one.order).behind (loc_tail b two.order).behind u.1 in
    let w = part (codes "loc") (holder_columns (codes "loc") a.loc) (holder_columns (codes "loc") b.loc) (from_logs a) (from_logs b)
    (holder_within _ _) (holder_within _ _) (logs_tail a one.order).behind (logs_tail b two.order).behind v.1 in
    let x = part (codes "log") (map log_column a.logs) (map log_column b.logs) (fixed_columns a) (fixed_columns b)
    (mapped_within _ log_column (λ y. refl) a.logs) (mapped_within _ log_column (λ y. refl) b.logs) (fixed_tail a).behind (fixed_tail b).behind w.1 in
    let m = option_map decimal a.merged in
    let n = option_map decimal b.merged in
    let o = option_map prev_value a.old_prev in
    let p = option_map prev_value b.old_prev in
    let at : (f q : List ℕ) → update_at (fixed_columns a) f q ≡ update_at (fixed_columns b) f q = λ f q. ap (λ (us : List Update). update_at us f q) x.1 in
    let dir : a.dir ≡ b.dir = same_Some _ _ (same_Some _ _ (at (codes "srv") (codes "dir"))) in
    let time : a.time ≡ b.time = same_bar a.time b.time one.bar two.bar (same_Some _ _ (same_Some _ _ (at (codes "srv") (codes "time")))) in
    let merged : a.merged ≡ b.merged = same_merged a.merged b.merged one.merged two.merged
    (sym (merged_at a.dir (bar_value a.time) m o (prev_value a.prev)) ∙ at (codes "~tab") (codes "merged") ∙ merged_at b.dir (bar_value b.time) n p (prev_value b.prev)) in
    let old_prev : a.old_prev ≡ b.old_prev = same_old a.old_prev b.old_prev
    (sym (old_at a.dir (bar_value a.time) m o (prev_value a.prev)) ∙ at (codes "~tab") (codes "oldprevrow") ∙ old_at b.dir (bar_value b.time) n p (prev_value b.prev)) in
    let prev : a.prev ≡ b.prev = same_prev a.prev b.prev (same_Some _ _ (same_Some _ _
    (sym (prev_at a.dir (bar_value a.time) m o (prev_value a.prev)) ∙ at (codes "~tab") (codes "~pr") ∙ prev_at b.dir (bar_value b.time) n p (prev_value b.prev)))) in
    let chopped : a.chopped ≡ b.chopped = same_chopped a.chopped b.chopped s.0 in
    let files : a.files ≡ b.files = mapped IsFile file_column same_file a.files b.files one.files two.files r.0 in
    let future : a.future ≡ b.future = same_holders (codes "future") a.future b.future u.0 in
    let loaded : a.loaded ≡ b.loaded = mapped IsLoaded loaded_column same_loaded a.loaded b.loaded one.loaded two.loaded v.0 in
    let loc : a.loc ≡ b.loc = same_holders (codes "loc") a.loc b.loc w.0 in
    let logs : a.logs ≡ b.logs = logs_alike a.logs b.logs x.0 in
    λ i. record { table = table i; end = end i; prev = prev i; old_prev = old_prev i; dir = dir i; time = time i; loc = loc i; future = future i; files = files i; logs = logs i; loaded = loaded i; chopped = chopped i; merged = merged i }

pub same_columns : (a b : TabletRecord) → a.table ≡ b.table → a.end ≡ b.end → IsWellFormed a → IsWellFormed b → ((f q : List ℕ) → column_at (columns_of a) f q ≡ column_at (columns_of b) f q) → a ≡ b
same_columns a b table end one two is =
    same_record a b table end one two (same_lists (columns_of a) (columns_of b) (columns_rise a one.order) (columns_rise b two.order)
    (λ f q. joined (update_at (columns_of a) f q) (update_at (columns_of b) f q) (given_at (columns_of a) f q (columns_given a)) (given_at (columns_of b) f q (columns_given b)) (is f q)))
