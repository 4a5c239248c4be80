-- Different paths and logs have different files.
use Rattle.std.proofs.Common.{◌≡◌, ◌≢◌, inl, inr, ℕ, ◌&&◌, ◌==◌, Bool, true, false, not, codes, List, [], ◌∷◌, ◌++◌, map, drop, refl, sym, ◌∙◌, ap, arith}
use Rattle.std.specs.List.{list_all}
use Rattle.std.proofs.lemmas.Bool.{and_parts, and_from}
use Rattle.std.proofs.lemmas.Bool.Decides.{nat_tests}
use Rattle.row_keys.specs.Forms.{is_hexadecimal, is_lower_or_digit, IsLogName, IsTableId}
use Rattle.metadata_schema.specs.Paths.{is_base36, is_file_kind, IsDirectory, IsFileName, IsFilePath}
use Rattle.log_files.specs.Sorted.{sorted_name}
use Rattle.store_layout.specs.Names.{name_byte, file_of}

-- a byte other than `,`
abbrev is_plain : ℕ → Bool
is_plain byte = not (byte == 44)

abbrev are_plain : List ℕ → Bool
are_plain = list_all is_plain

lower : (byte : ℕ) → is_lower_or_digit byte ≡ true → is_plain byte ≡ true
lower byte is = grind (arith, nat_tests)

hexadecimal : (byte : ℕ) → is_hexadecimal byte ≡ true → is_plain byte ≡ true
hexadecimal byte is = grind (arith, nat_tests)

base36 : (byte : ℕ) → is_base36 byte ≡ true → is_plain byte ≡ true
base36 byte is = grind (arith, nat_tests)

kind : (byte : ℕ) → is_file_kind byte ≡ true → is_plain byte ≡ true
kind byte is = grind (arith, nat_tests)

all_weaker : (one : ℕ → Bool) → ((byte : ℕ) → one byte ≡ true → is_plain byte ≡ true) → (bytes : List ℕ) → list_all one bytes ≡ true → are_plain bytes ≡ true
all_weaker one weaker [] all = refl
all_weaker one weaker (b ∷ more) all =
    let parts = and_parts (one b) (list_all one more) all in
    and_from (is_plain b) (are_plain more) (weaker b parts.0) (all_weaker one weaker more parts.1)

all_joined : (front back : List ℕ) → are_plain front ≡ true → are_plain back ≡ true → are_plain (front ++ back) ≡ true
all_joined [] back one two = two
all_joined (b ∷ front) back one two =
    let parts = and_parts (is_plain b) (are_plain front) one in
    and_from (is_plain b) (are_plain (front ++ back)) parts.0 (all_joined front back parts.1 two)

id_bytes : (id : List ℕ) → IsTableId id → are_plain id ≡ true
id_bytes id (inl is) = ap are_plain is
id_bytes id (inr (inl is)) = ap are_plain is
id_bytes id (inr (inr is)) = all_weaker is_lower_or_digit lower id is.each

dir_bytes : (dir : List ℕ) → IsDirectory dir → are_plain dir ≡ true
dir_bytes dir (inl is) = ap are_plain is
dir_bytes dir (inr (inl is)) = ap are_plain is
dir_bytes dir (inr (inr (inl is))) = ap are_plain is
dir_bytes dir (inr (inr (inr drawn))) = ap are_plain drawn.1 ∙ all_joined (codes "t-") drawn.0 refl (all_weaker is_base36 base36 drawn.0 drawn.2.form.each)

name_bytes : (name : List ℕ) → IsFileName name → are_plain name ≡ true
name_bytes name is =
    ap are_plain is.is
    ∙ and_from (is_plain is.kind) (are_plain (is.text ++ codes ".rf")) (kind is.kind is.is_kind) (all_joined is.text (codes ".rf") (all_weaker is_base36 base36 is.text is.drawn.form.each) refl)

path_bytes : (path : List ℕ) → IsFilePath path → are_plain path ≡ true
path_bytes path is =
    ap are_plain is.is
    ∙ all_joined is.id (47 ∷ (is.dir ++ 47 ∷ is.name)) (id_bytes is.id is.parts.is_id)
    (all_joined is.dir (47 ∷ is.name) (dir_bytes is.dir is.parts.is_dir) (name_bytes is.name is.parts.is_name))

first_of : ℕ → List ℕ → ℕ
first_of none [] = none
first_of none (b ∷ more) = b

rest_of : List ℕ → List ℕ
rest_of [] = []
rest_of (b ∷ more) = more

same_byte : (a b : ℕ) → is_plain a ≡ true → is_plain b ≡ true → name_byte a ≡ name_byte b → a ≡ b
same_byte a b one two e = by (a == 47) (b == 47) refl refl e
  where
    by : (p q : Bool) → (a == 47) ≡ p → (b == 47) ≡ q → name_byte a ≡ name_byte b → a ≡ b
    by p q is_a is_b same = grind (arith, nat_tests)

same_bytes : (a b : List ℕ) → are_plain a ≡ true → are_plain b ≡ true → map name_byte a ≡ map name_byte b → a ≡ b
same_bytes [] [] one two e = refl
same_bytes [] (y ∷ b) one two e = cc
same_bytes (x ∷ a) [] one two e = cc
same_bytes (x ∷ a) (y ∷ b) one two e =
    let p = and_parts (is_plain x) (are_plain a) one in
    let q = and_parts (is_plain y) (are_plain b) two in
    let first : name_byte x ≡ name_byte y = cc e in
    let rest : map name_byte a ≡ map name_byte b = cc e in
    let head = same_byte x y p.0 q.0 first in
    let tail = same_bytes a b p.1 q.1 rest in
    cc

-- two paths of one file are one
pub same_path : (a b : List ℕ) → IsFilePath a → IsFilePath b → file_of a ≡ file_of b → a ≡ b
same_path a b one two e = same_bytes a b (path_bytes a one) (path_bytes b two) e

session_of : (log : List ℕ) (form : IsLogName log) → sorted_name log ≡ codes "sorted-" ++ form.session
session_of log form = ap sorted_name form.is

-- two logs of one sorted log are one
pub same_log : (a b : List ℕ) → IsLogName a → IsLogName b → sorted_name a ≡ sorted_name b → a ≡ b
same_log a b one two e =
    let sessions : one.session ≡ two.session = ap (drop 7) (sym (session_of a one) ∙ e ∙ session_of b two) in
    one.is ∙ ap (λ session. 108 ∷ 111 ∷ 103 ∷ 45 ∷ session) sessions ∙ sym two.is

unplain : (front back : List ℕ) → are_plain (map name_byte (front ++ 47 ∷ back)) ≡ false
unplain [] back = refl
unplain (b ∷ front) back = by (is_plain (name_byte b)) (unplain front back)
  where
    by : (one : Bool) {two : Bool} → two ≡ false → one && two ≡ false
    by true is = is
    by false is = refl

-- a data file is no sorted log
pub file_is_no_sorted : (path log : List ℕ) → IsFilePath path → IsLogName log → sorted_name log ≢ file_of path
file_is_no_sorted path log is form e =
    let plain : are_plain (sorted_name log) ≡ true = ap are_plain (session_of log form) ∙ all_weaker is_hexadecimal hexadecimal form.session form.form.each in
    let mixed : are_plain (file_of path) ≡ false = ap (λ p. are_plain (file_of p)) is.is ∙ unplain is.id (is.dir ++ 47 ∷ is.name) in
    let wrong : true ≡ false = sym plain ∙ ap are_plain e ∙ mixed in
    cc
