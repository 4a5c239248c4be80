-- A column is that of one file, one holder, one log or one loaded entry.
use Rattle.std.proofs.Common.{◌≡◌, ℕ, ◌<◌, ◌^◌, ◌+◌, ◌%◌, true, not, ◌==◌, List, [], ◌∷◌, ◌++◌, map, Option, Some, None, IsTrue, refl, sym, ap, ◌∙◌, subst, arith}
use Rattle.std.specs.Prelude.{IfSome}
use Rattle.std.specs.Ordering.{is_lt}
use Rattle.std.specs.List.{list_all, All}
use Rattle.std.specs.Fmt.{decimal}
use Rattle.std.proofs.lemmas.List.Elements.{All-head, All-tail}
use Rattle.std.proofs.lemmas.Bool.{false≢true, and_parts, and_from}
use Rattle.std.proofs.lemmas.Bool.Decides.{nat_tests}
use Rattle.std.proofs.lemmas.Option.{same_Some}
use Rattle.std.proofs.lemmas.Cmp.{nat_list_cmp_total, tied_itself}
use Rattle.std.proofs.lemmas.Fmt.{decimal_injective, decimal_by_steps}
use Rattle.row_keys.specs.RowOrder.{bytes_cmp}
use Rattle.metadata_schema.specs.declared.mutation.Update.{Update}
use Rattle.metadata_schema.specs.declared.tablet.FileEntry.{FileEntry}
use Rattle.metadata_schema.specs.declared.tablet.LoadedEntry.{LoadedEntry}
use Rattle.metadata_schema.specs.declared.tablet.Holder.{Holder}
use Rattle.metadata_schema.specs.Bytes.{is_free}
use Rattle.metadata_schema.specs.Values.{file_value, time_part}
use Rattle.metadata_schema.specs.Columns.{file_column, loaded_column, log_column, holder_columns}
use Rattle.metadata_schema.specs.Records.{IsFile, IsLoaded}
use Rattle.metadata_schema.proofs.RisingLemmas.{Behind, InFamily}
use Rattle.metadata_schema.proofs.LawsLemmas.{parted_once}

-- ---- parts of one family each

not_behind : (family : List ℕ) (u : Update) (us : List Update) → u.family ≡ family → Behind family (u ∷ us) → ⊥
not_behind family u us is behind =
    let less = (and_parts (is_lt (bytes_cmp family u.family)) (list_all (λ (v : Update). is_lt (bytes_cmp family v.family)) us) behind).0 in
    absurd (false≢true (sym (ap (λ (f : List ℕ). is_lt (bytes_cmp family f)) is ∙ ap is_lt (tied_itself nat_list_cmp_total family)) ∙ less))

-- columns of one family end where later families begin
pub part : (family : List ℕ) (xs zs ys ws : List Update) → InFamily family xs → InFamily family zs → Behind family ys → Behind family ws → xs ++ ys ≡ zs ++ ws → (xs ≡ zs) × (ys ≡ ws)
part family [] [] ys ws one two first second is = (refl, is)
part family [] (z ∷ zs) ys ws one two first second is = absurd (not_behind family z (zs ++ ws) two.0 (subst (Behind family) is first))
part family (x ∷ xs) [] ys ws one two first second is = absurd (not_behind family x (xs ++ ys) one.0 (subst (Behind family) (sym is) second))
part family (x ∷ xs) (z ∷ zs) ys ws one two first second is =
    let heads : x ≡ z = cc in
    let tails : xs ++ ys ≡ zs ++ ws = cc in
    let rest = part family xs zs ys ws one.1 two.1 first second tails in
    let alike : xs ≡ zs = rest.0 in
    (cc, rest.1)

-- ---- values

free-append : (mark : ℕ) (xs : List ℕ) (b : ℕ) → IsTrue (is_free mark xs) → not (b == mark) ≡ true → IsTrue (is_free mark (xs ++ b ∷ []))
free-append mark [] b one two = and_from (not (b == mark)) true two refl
free-append mark (x ∷ xs) b one two =
    let parts = and_parts (not (x == mark)) (is_free mark xs) one in
    and_from (not (x == mark)) (is_free mark (xs ++ b ∷ [])) parts.0 (free-append mark xs b parts.1 two)

digit_free : (d : ℕ) → not (48 + d == 44) ≡ true
digit_free d = grind (arith, nat_tests)

-- no comma stands in a number
pub decimal_free : (n : ℕ) → n < 2 ^ 64 → IsTrue (is_free 44 (decimal n))
decimal_free n small =
    decimal_by_steps (λ k ds. IsTrue (is_free 44 ds)) (λ k few. and_from (not (48 + k == 44)) true (digit_free k) refl)
    (λ k ds many free. free-append 44 ds (48 + k % 10) free (digit_free (k % 10))) n small

same_time : (e g : ℕ) (s t : Option ℕ) → e < 2 ^ 64 → g < 2 ^ 64 → IfSome s (λ k. k < 2 ^ 63) → IfSome t (λ k. k < 2 ^ 63) → decimal e ++ time_part s ≡ decimal g ++ time_part t → (e ≡ g) × (s ≡ t)
same_time e g None None small_e small_g small_s small_t is = (decimal_injective e g small_e small_g (sym (nothing (decimal e)) ∙ is ∙ nothing (decimal g)), refl)
  where
    nothing : (l : List ℕ) → l ++ [] ≡ l
    nothing [] = refl
    nothing (x ∷ l) = ap (λ (m : List ℕ). x ∷ m) (nothing l)
same_time e g None (Some t) small_e small_g small_s small_t is = absurd (comma (decimal e) (decimal g) (decimal t) (decimal_free e small_e) is)
  where
    comma : (xs ys zs : List ℕ) → IsTrue (is_free 44 xs) → xs ++ [] ≡ ys ++ 44 ∷ zs → ⊥
    comma [] [] zs free is = cc
    comma [] (y ∷ ys) zs free is = cc
    comma (x ∷ xs) [] zs free is = let head : x ≡ 44 = cc in absurd (let test = (and_parts (not (x == 44)) (is_free 44 xs) free).0 in grind (arith, nat_tests))
    comma (x ∷ xs) (y ∷ ys) zs free is = let tail : xs ++ [] ≡ ys ++ 44 ∷ zs = cc in comma xs ys zs (and_parts (not (x == 44)) (is_free 44 xs) free).1 tail
same_time e g (Some s) None small_e small_g small_s small_t is = absurd (comma (decimal g) (decimal e) (decimal s) (decimal_free g small_g) (sym is))
  where
    comma : (xs ys zs : List ℕ) → IsTrue (is_free 44 xs) → xs ++ [] ≡ ys ++ 44 ∷ zs → ⊥
    comma [] [] zs free is = cc
    comma [] (y ∷ ys) zs free is = cc
    comma (x ∷ xs) [] zs free is = let head : x ≡ 44 = cc in absurd (let test = (and_parts (not (x == 44)) (is_free 44 xs) free).0 in grind (arith, nat_tests))
    comma (x ∷ xs) (y ∷ ys) zs free is = let tail : xs ++ [] ≡ ys ++ 44 ∷ zs = cc in comma xs ys zs (and_parts (not (x == 44)) (is_free 44 xs) free).1 tail
same_time e g (Some s) (Some t) small_e small_g small_s small_t is =
    let cut = parted_once 44 (decimal e) (decimal g) (decimal s) (decimal t) (decimal_free e small_e) (decimal_free g small_g) is in
    let times : s ≡ t = decimal_injective s t (omega arith) (omega arith) cut.1 in
    (decimal_injective e g small_e small_g cut.0, ap Some times)

pub same_file : (f g : FileEntry) → IsFile f → IsFile g → file_column f ≡ file_column g → f ≡ g
same_file f g one two is =
    let path : f.path ≡ g.path = ap (λ (u : Update). u.qualifier) is in
    let value : file_value f.size f.entries f.time ≡ file_value g.size g.entries g.time = same_Some _ _ (ap (λ (u : Update). u.value) is) in
    let cut = parted_once 44 (decimal f.size) (decimal g.size) (decimal f.entries ++ time_part f.time) (decimal g.entries ++ time_part g.time)
    (decimal_free f.size one.facts.small_size) (decimal_free g.size two.facts.small_size) value in
    let size : f.size ≡ g.size = decimal_injective f.size g.size one.facts.small_size two.facts.small_size cut.0 in
    let rest = same_time f.entries g.entries f.time g.time one.facts.few_entries two.facts.few_entries one.facts.small_time two.facts.small_time cut.1 in
    λ i. record { path = path i; size = size i; entries = rest.0 i; time = rest.1 i }

pub same_loaded : (e g : LoadedEntry) → IsLoaded e → IsLoaded g → loaded_column e ≡ loaded_column g → e ≡ g
same_loaded e g one two is =
    let path : e.path ≡ g.path = ap (λ (u : Update). u.qualifier) is in
    let tid : e.tid ≡ g.tid = decimal_injective e.tid g.tid one.tid two.tid (same_Some _ _ (ap (λ (u : Update). u.value) is)) in
    λ i. record { path = path i; tid = tid i }

pub same_holders : (family : List ℕ) (g h : Option Holder) → holder_columns family g ≡ holder_columns family h → g ≡ h
same_holders family None None is = refl
same_holders family None (Some h) is = cc
same_holders family (Some g) None is = cc
same_holders family (Some g) (Some h) is =
    let one : ◌≡◌ {A = Update} (record { family = family; qualifier = g.session; value = Some g.server }) (record { family = family; qualifier = h.session; value = Some h.server }) = cc in
    let session : g.session ≡ h.session = ap (λ (u : Update). u.qualifier) one in
    let server : g.server ≡ h.server = same_Some _ _ (ap (λ (u : Update). u.value) one) in
    λ i. Some (record { session = session i; server = server i })

-- ---- lists of columns

pub mapped : {X : Type 0} (P : X → Type 0) (column : X → Update) → ((x y : X) → P x → P y → column x ≡ column y → x ≡ y) → (xs ys : List X) → All P xs → All P ys → map column xs ≡ map column ys → xs ≡ ys
mapped P column one [] [] first second is = refl
mapped P column one [] (y ∷ ys) first second is = cc
mapped P column one (x ∷ xs) [] first second is = cc
mapped P column one (x ∷ xs) (y ∷ ys) first second is =
    let heads : column x ≡ column y = cc in
    let tails : map column xs ≡ map column ys = cc in
    let head : x ≡ y = one x y (All-head P x xs first) (All-head P y ys second) heads in
    let tail : xs ≡ ys = mapped P column one xs ys (All-tail P x xs first) (All-tail P y ys second) tails in
    cc

pub logs_alike : (xs ys : List (List ℕ)) → map log_column xs ≡ map log_column ys → xs ≡ ys
logs_alike [] [] is = refl
logs_alike [] (y ∷ ys) is = cc
logs_alike (x ∷ xs) [] is = cc
logs_alike (x ∷ xs) (y ∷ ys) is =
    let heads : log_column x ≡ log_column y = cc in
    let tails : map log_column xs ≡ map log_column ys = cc in
    let head : x ≡ y = ap (λ (u : Update). u.qualifier) heads in
    let tail : xs ≡ ys = logs_alike xs ys tails in
    cc
