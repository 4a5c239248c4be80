-- The laws of columns, numbers and paths.
use Rattle.std.proofs.Common.{◌≡◌, ◌⊎◌, inl, inr, ℕ, zero, suc, ◌<◌, ◌^◌, Bool, true, false, not, ◌==◌, List, [], ◌∷◌, ◌++◌, get_or, Option, Some, None, IsTrue, refl, ap, ◌∙◌, arith}
use Rattle.std.specs.Prelude.{MatchBool}
use Rattle.std.specs.List.{list_all}
use Rattle.std.specs.Fmt.{decimal}
use Rattle.std.specs.Option.{option_map_or}
use Rattle.std.specs.Cmp.Lexicographic.{told_text}
use Rattle.std.proofs.lemmas.Bool.{and_parts, and_from}
use Rattle.std.proofs.lemmas.Bool.Decides.{nat_tests}
use Rattle.std.proofs.lemmas.Option.{same_Some}
use Rattle.std.proofs.lemmas.Fmt.{decimal_digit, first_decimal}
use Rattle.row_keys.specs.Forms.{is_lower_or_digit, IsTableId}
use Rattle.metadata_schema.specs.declared.mutation.Update.{Update}
use Rattle.metadata_schema.specs.Bytes.{same, is_free}
use Rattle.metadata_schema.specs.Paths.{is_base36, IsDirectory, AreParts, file_path}
use Rattle.metadata_schema.specs.Columns.{column_at}
use Rattle.metadata_schema.specs.Between.{LeadsBetween, column_after}

-- ---- updates

alike_or_not : (x y : Option (List ℕ)) → (x ≡ y) ⊎ (x ≡ y → ⊥)
alike_or_not None None = inl refl
alike_or_not None (Some w) = inr (λ e. cc)
alike_or_not (Some v) None = inr (λ e. cc)
alike_or_not (Some v) (Some w) = at (same v w) (told_text v w (same v w) refl)
  where
    at : (b : Bool) → MatchBool b (v ≡ w) (v ≡ w → ⊥) → (Some v ≡ Some w) ⊎ (Some v ≡ Some w → ⊥)
    at true told = inl (ap Some told)
    at false told = inr (λ e. told (same_Some v w e))

pub lead_to : (old new updates : List Update) → LeadsBetween old new updates → (f q : List ℕ) → column_after updates old f q ≡ column_at new f q
lead_to old new updates leads f q = at (alike_or_not (column_at old f q) (column_at new f q))
  where
    at : (column_at old f q ≡ column_at new f q) ⊎ (column_at old f q ≡ column_at new f q → ⊥) → column_after updates old f q ≡ column_at new f q
    at (inl alike) = ap (λ (o : Option (Option (List ℕ))). option_map_or (λ (value : Option (List ℕ)). value) o (column_at old f q)) (leads.kept f q alike) ∙ alike
    at (inr other) = ap (λ (o : Option (Option (List ℕ))). option_map_or (λ (value : Option (List ℕ)). value) o (column_at old f q)) (leads.changed f q other)

-- ---- numbers

pub no_zero : (number : ℕ) (rest : List ℕ) → number < 2 ^ 64 → decimal number ≡ 48 ∷ rest → rest ≡ []
no_zero zero rest small is = let one : decimal 0 ≡ 48 ∷ [] = decimal_digit 0 (omega arith) in cc
no_zero (suc n) rest small is =
    let first : get_or (decimal (suc n)) 0 0 ≡ 48 = ap (λ (l : List ℕ). get_or l 0 0) is in
    absurd (omega (arith, first, first_decimal (suc n) (omega arith) small))

-- ---- paths

not_mark : (mark c : ℕ) → mark ≡ c → not (c == mark) ≡ true → ⊥
not_mark mark c is free = grind (arith, nat_tests)

-- the first mark parts bytes in one way
pub parted_once : (mark : ℕ) (a b x y : List ℕ) → IsTrue (is_free mark a) → IsTrue (is_free mark b) → a ++ mark ∷ x ≡ b ++ mark ∷ y → (a ≡ b) × (x ≡ y)
parted_once mark [] [] x y free_a free_b e = (refl, cc)
parted_once mark [] (c ∷ b) x y free_a free_b e =
    let alike : mark ≡ c = cc in
    absurd (not_mark mark c alike (and_parts (not (c == mark)) (is_free mark b) free_b).0)
parted_once mark (c ∷ a) [] x y free_a free_b e =
    let alike : mark ≡ c = cc in
    absurd (not_mark mark c alike (and_parts (not (c == mark)) (is_free mark a) free_a).0)
parted_once mark (c ∷ a) (d ∷ b) x y free_a free_b e =
    let heads : c ≡ d = cc in
    let tails : a ++ mark ∷ x ≡ b ++ mark ∷ y = cc in
    let rest = parted_once mark a b x y (and_parts (not (c == mark)) (is_free mark a) free_a).1 (and_parts (not (d == mark)) (is_free mark b) free_b).1 tails in
    let alike : a ≡ b = rest.0 in
    (cc, rest.1)

lower_no_slash : (b : ℕ) → is_lower_or_digit b ≡ true → not (b == 47) ≡ true
lower_no_slash b is = grind (arith, nat_tests)

base36_no_slash : (b : ℕ) → is_base36 b ≡ true → not (b == 47) ≡ true
base36_no_slash b is = grind (arith, nat_tests)

free_all : (test : ℕ → Bool) → ((b : ℕ) → test b ≡ true → not (b == 47) ≡ true) → (bytes : List ℕ) → IsTrue (list_all test bytes) → IsTrue (is_free 47 bytes)
free_all test each [] all = refl
free_all test each (b ∷ bytes) all =
    let parts = and_parts (test b) (list_all test bytes) all in
    and_from (not (b == 47)) (is_free 47 bytes) (each b parts.0) (free_all test each bytes parts.1)

pub id_free : (id : List ℕ) → IsTableId id → IsTrue (is_free 47 id)
id_free id (inl root) = ap (is_free 47) root
id_free id (inr (inl metadata)) = ap (is_free 47) metadata
id_free id (inr (inr user)) = free_all is_lower_or_digit lower_no_slash id user.each

pub directory_free : (dir : List ℕ) → IsDirectory dir → IsTrue (is_free 47 dir)
directory_free dir (inl is) = ap (is_free 47) is
directory_free dir (inr (inl is)) = ap (is_free 47) is
directory_free dir (inr (inr (inl is))) = ap (is_free 47) is
directory_free dir (inr (inr (inr drawn))) = ap (is_free 47) drawn.1 ∙ free_all is_base36 base36_no_slash drawn.0 drawn.2.form.each

pub same_parts : (id dir name id2 dir2 name2 : List ℕ) → AreParts id dir name → AreParts id2 dir2 name2 → file_path id dir name ≡ file_path id2 dir2 name2 → (id ≡ id2) × (dir ≡ dir2) × (name ≡ name2)
same_parts id dir name id2 dir2 name2 one other is =
    let outer = parted_once 47 id id2 (dir ++ 47 ∷ name) (dir2 ++ 47 ∷ name2) (id_free id one.is_id) (id_free id2 other.is_id) is in
    let inner = parted_once 47 dir dir2 name name2 (directory_free dir one.is_dir) (directory_free dir2 other.is_dir) outer.1 in
    (outer.0, inner.0, inner.1)
