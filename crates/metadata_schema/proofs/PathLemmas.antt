-- What the parts of bytes by a mark say of paths and directories.
use Rattle.std.proofs.Common.{◌≡◌, inl, inr, ℕ, zero, suc, ◌+◌, ◌<◌, ◌≤◌, Bool, true, false, not, ◌==◌, ltb, cond, List, [], ◌∷◌, ◌++◌, length, take, drop, get_or, Some, None, IsTrue, position, refl, sym, ap, ◌∙◌, subst, arith, take-append-drop, drop-cons, length-append, length-drop, add-one, ◌-◌}
use Rattle.std.specs.Prelude.{MatchBool, codes}
use Rattle.std.specs.List.{position_or_len}
use Rattle.std.proofs.lemmas.Bool.{and_parts, and_from}
use Rattle.std.proofs.lemmas.Bool.Decides.{nat_tests}
use Rattle.std.proofs.lemmas.List.{take_all, append_cancel_right}
use Rattle.std.proofs.lemmas.List.Quantifiers.{position-Some}
use Rattle.std.proofs.lemmas.List.Sums.{fails_before_first}
use Rattle.row_keys.specs.Forms.{IsTableId, IsPath}
use Rattle.metadata_schema.specs.Bytes.{is_free, IsParted}
use Rattle.metadata_schema.specs.Paths.{is_file_kind, IsDrawnText, IsDirectory, IsFileName, AreParts, IsFilePath, file_path}
use Rattle.metadata_schema.proofs.LawsLemmas.{parted_once, id_free, directory_free}

-- ---- the first mark

not_false : (b : Bool) → b ≡ false → not b ≡ true
not_false true is = cc
not_false false is = refl

free_below : (mark : ℕ) (xs : List ℕ) (i : ℕ) → i ≤ length xs → ((k : ℕ) → k < i → (get_or xs k 0 == mark) ≡ false) → IsTrue (is_free mark (take i xs))
free_below mark xs zero within each = refl
free_below mark [] (suc i) within each = absurd (omega arith)
free_below mark (x ∷ xs) (suc i) within each =
    and_from (not (x == mark)) (is_free mark (take i xs)) (not_false (x == mark) (each 0 (omega arith)))
    (free_below mark xs i (omega arith) (λ k h. each (suc k) (omega arith)))

nowhere : (n m : ℕ) (b : Bool) → ltb n m ≡ b → None ≡ cond b (Some n) None → m ≤ n
nowhere n m true is none = absurd cc
nowhere n m false is none = search (arith, nat_tests)

marked_is : (b mark : ℕ) → (b == mark) ≡ true → b ≡ mark
marked_is b mark is = grind (arith, nat_tests)

pub parts_of : (mark : ℕ) (bytes : List ℕ) (at : ℕ) → Some at ≡ position (λ byte. byte == mark) bytes → IsParted mark (take at bytes) (drop (at + 1) bytes) bytes
parts_of mark bytes at is =
    let found = position-Some (λ byte. byte == mark) bytes at 0 (sym is) in
    let within : at < length bytes = found.0 in
    record {
      free = free_below mark bytes at (omega arith) found.2;
      is = sym (take-append-drop at bytes) ∙ ap (λ (l : List ℕ). take at bytes ++ l) (drop-cons bytes at 0 within)
          ∙ ap (λ (n : ℕ). take at bytes ++ get_or bytes at 0 ∷ drop n bytes) (sym (add-one at))
          ∙ ap (λ (b : ℕ). take at bytes ++ b ∷ drop (at + 1) bytes) (marked_is (get_or bytes at 0) mark found.1);
    }

pub to_end : (n : ℕ) (bytes : List ℕ) → take (length bytes - n) (drop n bytes) ≡ drop n bytes
to_end n bytes = take_all (length bytes - n) (drop n bytes) (omega (arith, length-drop n bytes))

pub all_free : (mark : ℕ) (bytes : List ℕ) → None ≡ position (λ byte. byte == mark) bytes → IsTrue (is_free mark bytes)
all_free mark bytes none =
    let n = position_or_len (λ byte. byte == mark) bytes in
    let past : length bytes ≤ n = nowhere n (length bytes) (ltb n (length bytes)) refl none in
    subst (λ (l : List ℕ). IsTrue (is_free mark l)) (take_all (length bytes) bytes (omega arith))
    (free_below mark bytes (length bytes) (omega arith) (λ k h. fails_before_first (λ byte. byte == mark) bytes k 0 (omega arith)))

mark_itself : (mark : ℕ) → not (mark == mark) ≡ true → ⊥
mark_itself mark is = grind (arith, nat_tests)

pub not_free : (mark : ℕ) (front back : List ℕ) → IsTrue (is_free mark (front ++ mark ∷ back)) → ⊥
not_free mark [] back free = mark_itself mark (and_parts (not (mark == mark)) (is_free mark back) free).0
not_free mark (c ∷ front) back free = not_free mark front back (and_parts (not (c == mark)) (is_free mark (front ++ mark ∷ back)) free).1

-- ---- paths

pub no_id : (bytes : List ℕ) → IsTrue (is_free 47 bytes) → IsFilePath bytes → ⊥
no_id bytes free path = not_free 47 path.id (path.dir ++ 47 ∷ path.name) (subst (λ (l : List ℕ). IsTrue (is_free 47 l)) path.is free)

pub no_directory : (bytes id rest : List ℕ) → IsParted 47 id rest bytes → IsTrue (is_free 47 rest) → IsFilePath bytes → ⊥
no_directory bytes id rest parted free path =
    let outer = parted_once 47 id path.id rest (path.dir ++ 47 ∷ path.name) parted.free (id_free path.id path.parts.is_id) (sym parted.is ∙ path.is) in
    not_free 47 path.dir path.name (subst (λ (l : List ℕ). IsTrue (is_free 47 l)) outer.1 free)

pub its_parts : (bytes id rest dir name : List ℕ) → IsParted 47 id rest bytes → IsParted 47 dir name rest → IsFilePath bytes → AreParts id dir name
its_parts bytes id rest dir name first second path =
    let outer = parted_once 47 id path.id rest (path.dir ++ 47 ∷ path.name) first.free (id_free path.id path.parts.is_id) (sym first.is ∙ path.is) in
    let inner = parted_once 47 dir path.dir name path.name second.free (directory_free path.dir path.parts.is_dir) (sym second.is ∙ outer.1) in
    record { is_id = subst IsTableId (sym outer.0) path.parts.is_id; is_dir = subst IsDirectory (sym inner.0) path.parts.is_dir; is_name = subst IsFileName (sym inner.1) path.parts.is_name }

pub path_of : (bytes id rest dir name : List ℕ) → IsParted 47 id rest bytes → IsParted 47 dir name rest → AreParts id dir name → IsFilePath bytes
path_of bytes id rest dir name first second parts =
    record { id = id; dir = dir; name = name; parts = parts; is = first.is ∙ ap (λ (l : List ℕ). id ++ 47 ∷ l) second.is }

pub tells_path : (b : Bool) (bytes id rest dir name : List ℕ) → IsParted 47 id rest bytes → IsParted 47 dir name rest → IsTableId id → IsDirectory dir → MatchBool b (IsFileName name) (IsFileName name → ⊥) → MatchBool b (IsFilePath bytes) (IsFilePath bytes → ⊥)
tells_path true bytes id rest dir name first second is_id is_dir is_name = path_of bytes id rest dir name first second (record { is_id = is_id; is_dir = is_dir; is_name = is_name })
tells_path false bytes id rest dir name first second is_id is_dir no_name = λ path. no_name (its_parts bytes id rest dir name first second path).is_name

-- a kind, a drawn number and `.rf`
pub tells_name : (b : Bool) (bytes : List ℕ) (kind : ℕ) (rest text : List ℕ) → bytes ≡ kind ∷ rest → rest ≡ text ++ codes ".rf" → is_file_kind kind ≡ true → MatchBool b (IsDrawnText text) (IsDrawnText text → ⊥)
    → MatchBool b (IsFileName bytes) (IsFileName bytes → ⊥)
tells_name true bytes kind rest text first ends is_kind drawn = record { kind = kind; text = text; is_kind = is_kind; drawn = drawn; is = first ∙ ap (λ (l : List ℕ). kind ∷ l) ends }
tells_name false bytes kind rest text first ends is_kind undrawn = λ name.
    let tails : text ++ codes ".rf" ≡ name.text ++ codes ".rf" = sym ends ∙ ap (drop 1) (sym first ∙ name.is) in
    undrawn (subst IsDrawnText (append_cancel_right name.text text (codes ".rf") (sym tails)) name.drawn)

-- ---- lengths

id_length : (id : List ℕ) → IsTableId id → length id ≤ 13
id_length id (inl root) = let two : length id ≡ 2 = ap length root in omega arith
id_length id (inr (inl metadata)) = let two : length id ≡ 2 = ap length metadata in omega arith
id_length id (inr (inr user)) = user.most

directory_length : (dir : List ℕ) → IsDirectory dir → length dir ≤ 15
directory_length dir (inl is) = let n : length dir ≡ 11 = ap length is in omega arith
directory_length dir (inr (inl is)) = let n : length dir ≡ 10 = ap length is in omega arith
directory_length dir (inr (inr (inl is))) = let n : length dir ≡ 14 = ap length is in omega arith
directory_length dir (inr (inr (inr drawn))) =
    let n : length dir ≡ length (codes "t-" ++ drawn.0) = ap length drawn.1 in
    omega (arith, drawn.2.form.most, n)

name_length : (name : List ℕ) → IsFileName name → length name ≤ 17
name_length name is =
    let n : length name ≡ length ((is.kind ∷ is.text) ++ codes ".rf") = ap length is.is in
    omega (arith, is.drawn.form.most, n, length-append (is.kind ∷ is.text) (codes ".rf"))

pub path_fits : (path : List ℕ) → IsFilePath path → IsPath path
path_fits path is =
    let n : length path ≡ length (file_path is.id is.dir is.name) = ap length is.is in
    let outer = length-append is.id (47 ∷ (is.dir ++ 47 ∷ is.name)) in
    let inner = length-append is.dir (47 ∷ is.name) in
    let i = id_length is.id is.parts.is_id in
    let d = directory_length is.dir is.parts.is_dir in
    let m = name_length is.name is.parts.is_name in
    record { least = omega arith; most = omega arith }
