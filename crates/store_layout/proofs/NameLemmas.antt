-- The names of files, and which of them differ.
use Rattle.std.proofs.Common.{◌≡◌, ◌≢◌, inl, inr, ℕ, zero, suc, ◌+◌, ◌<◌, ◌≤◌, ◌||◌, ◌==◌, Bool, true, false, codes, List, [], ◌∷◌, ◌++◌, length, length-append, map, refl, sym, ◌∙◌, ap, subst, arith}
use Rattle.std.specs.List.{list_all, list_any}
use Rattle.std.specs.Str.{IsUtf8, IsAscii}
use Rattle.std.proofs.lemmas.Bool.{and_parts, and_from}
use Rattle.std.proofs.lemmas.Bool.Decides.{nat_tests}
use Rattle.std.proofs.lemmas.Str.{IsUtf8-from_ascii}
use Rattle.host_model.specs.FileName.{is_name_byte, IsFileName}
use Rattle.row_keys.specs.Forms.{is_hexadecimal, is_lower_or_digit, IsLogName, IsTableId}
use Rattle.metadata_schema.specs.Paths.{is_base36, is_file_kind, IsDirectory, IsFileName as IsDataName, AreParts, IsFilePath, file_path}
use Rattle.log_files.specs.Sorted.{sorted_name}
use Rattle.store_layout.specs.Names.{nodes_name, name_byte, file_of, IsSortedName, IsRemovableName}

ascii : (byte : ℕ) → is_name_byte byte ≡ true → byte < 128
ascii byte is = grind (arith, nat_tests)

all_ascii : (bytes : List ℕ) → list_all is_name_byte bytes ≡ true → IsAscii bytes
all_ascii [] all i = omega arith
all_ascii (b ∷ more) all zero = ascii b (and_parts (is_name_byte b) (list_all is_name_byte more) all).0
all_ascii (b ∷ more) all (suc i) = all_ascii more (and_parts (is_name_byte b) (list_all is_name_byte more) all).1 i

pub utf8 : (bytes : List ℕ) → IsFileName bytes → IsUtf8 bytes
utf8 bytes form = IsUtf8-from_ascii bytes (all_ascii bytes form.each)

-- ---- the bytes of paths

-- a byte that may stand in a part of a path
abbrev part_byte : ℕ → Bool
part_byte byte = is_name_byte (name_byte byte)

lower : (byte : ℕ) → is_lower_or_digit byte ≡ true → part_byte byte ≡ true
lower byte is = grind (arith, nat_tests)

base36 : (byte : ℕ) → is_base36 byte ≡ true → part_byte byte ≡ true
base36 byte is = grind (arith, nat_tests)

kind : (byte : ℕ) → is_file_kind byte ≡ true → part_byte byte ≡ true
kind byte is = grind (arith, nat_tests)

all_weaker : (one two : ℕ → Bool) → ((byte : ℕ) → one byte ≡ true → two byte ≡ true) → (bytes : List ℕ) → list_all one bytes ≡ true → list_all two bytes ≡ true
all_weaker one two weaker [] all = refl
all_weaker one two weaker (b ∷ more) all =
    let parts = and_parts (one b) (list_all one more) all in
    and_from (two b) (list_all two more) (weaker b parts.0) (all_weaker one two weaker more parts.1)

all_joined : (test : ℕ → Bool) (front back : List ℕ) → list_all test front ≡ true → list_all test back ≡ true → list_all test (front ++ back) ≡ true
all_joined test [] back one two = two
all_joined test (b ∷ front) back one two =
    let parts = and_parts (test b) (list_all test front) one in
    and_from (test b) (list_all test (front ++ back)) parts.0 (all_joined test front back parts.1 two)

id_bytes : (id : List ℕ) → IsTableId id → list_all part_byte id ≡ true
id_bytes id (inl is) = ap (λ l. list_all part_byte l) is
id_bytes id (inr (inl is)) = ap (λ l. list_all part_byte l) is
id_bytes id (inr (inr is)) = all_weaker is_lower_or_digit part_byte lower id is.each

id_short : (id : List ℕ) → IsTableId id → length id ≤ 13
id_short id (inl is) = let e = ap (length {A = ℕ}) is in omega (arith, e)
id_short id (inr (inl is)) = let e = ap (length {A = ℕ}) is in omega (arith, e)
id_short id (inr (inr is)) = is.most

dir_bytes : (dir : List ℕ) → IsDirectory dir → list_all part_byte dir ≡ true
dir_bytes dir (inl is) = ap (λ l. list_all part_byte l) is
dir_bytes dir (inr (inl is)) = ap (λ l. list_all part_byte l) is
dir_bytes dir (inr (inr (inl is))) = ap (λ l. list_all part_byte l) is
dir_bytes dir (inr (inr (inr drawn))) = ap (λ l. list_all part_byte l) drawn.1 ∙ all_joined part_byte (codes "t-") drawn.0 refl (all_weaker is_base36 part_byte base36 drawn.0 drawn.2.form.each)

pub dir_short : (dir : List ℕ) → IsDirectory dir → length dir ≤ 15
dir_short dir (inl is) = let e = ap (length {A = ℕ}) is in omega (arith, e)
dir_short dir (inr (inl is)) = let e = ap (length {A = ℕ}) is in omega (arith, e)
dir_short dir (inr (inr (inl is))) = let e = ap (length {A = ℕ}) is in omega (arith, e)
dir_short dir (inr (inr (inr drawn))) = let e = ap (length {A = ℕ}) drawn.1 in let most = drawn.2.form.most in omega (arith, e, most)

name_bytes : (name : List ℕ) → IsDataName name → list_all part_byte name ≡ true
name_bytes name is =
    ap (λ l. list_all part_byte l) is.is
    ∙ and_from (part_byte is.kind) (list_all part_byte (is.text ++ codes ".rf")) (kind is.kind is.is_kind) (all_joined part_byte is.text (codes ".rf") (all_weaker is_base36 part_byte base36 is.text is.drawn.form.each) refl)

length_joined : (front back : List ℕ) → length (front ++ back) ≡ length front + length back
length_joined front back = length-append front back

name_short : (name : List ℕ) → IsDataName name → length name ≤ 17
name_short name is =
    let e = ap (length {A = ℕ}) is.is in
    let j = length_joined is.text (codes ".rf") in
    let most = is.drawn.form.most in
    omega (arith, e, j, most)

all_mapped : (bytes : List ℕ) → list_all part_byte bytes ≡ true → list_all is_name_byte (map name_byte bytes) ≡ true
all_mapped [] all = refl
all_mapped (b ∷ more) all =
    let parts = and_parts (part_byte b) (list_all part_byte more) all in
    and_from (is_name_byte (name_byte b)) (list_all is_name_byte (map name_byte more)) parts.0 (all_mapped more parts.1)

length_mapped : (bytes : List ℕ) → length (map name_byte bytes) ≡ length bytes
length_mapped [] = refl
length_mapped (b ∷ more) = let e = length_mapped more in omega (arith, e)

path_bytes : (id dir name : List ℕ) → AreParts id dir name → list_all part_byte (file_path id dir name) ≡ true
path_bytes id dir name parts =
    all_joined part_byte id (47 ∷ (dir ++ 47 ∷ name)) (id_bytes id parts.is_id)
    (all_joined part_byte dir (47 ∷ name) (dir_bytes dir parts.is_dir) (name_bytes name parts.is_name))

path_short : (id dir name : List ℕ) → AreParts id dir name → length (file_path id dir name) ≤ 47
path_short id dir name parts =
    let outer = length_joined id (47 ∷ (dir ++ 47 ∷ name)) in
    let inner = length_joined dir (47 ∷ name) in
    let one = id_short id parts.is_id in
    let two = dir_short dir parts.is_dir in
    let three = name_short name parts.is_name in
    omega (arith, outer, inner, one, two, three)

path_some : (id dir name : List ℕ) → 0 < length (file_path id dir name)
path_some id dir name = let outer = length_joined id (47 ∷ (dir ++ 47 ∷ name)) in omega (arith, outer)

-- the file of a path has a file's name
pub file_form : (path : List ℕ) → IsFilePath path → IsFileName (file_of path)
file_form path is = subst (λ p. IsFileName (file_of p)) (sym is.is) (record {
  some = (let e = length_mapped whole in let some = path_some is.id is.dir is.name in omega (arith, e, some));
  short = (let e = length_mapped whole in let short = path_short is.id is.dir is.name is.parts in omega (arith, e, short));
  each = all_mapped whole (path_bytes is.id is.dir is.name is.parts);
})
  where
    whole : List ℕ
    whole = file_path is.id is.dir is.name

-- ---- which names differ

abbrev has_comma : List ℕ → Bool
has_comma bytes = list_any (λ byte. byte == 44) bytes

comma_inside : (front back : List ℕ) → has_comma (map name_byte (front ++ 47 ∷ back)) ≡ true
comma_inside [] back = refl
comma_inside (b ∷ front) back = or_right (name_byte b == 44) (has_comma (map name_byte (front ++ 47 ∷ back))) (comma_inside front back)
  where
    or_right : (one two : Bool) → two ≡ true → one || two ≡ true
    or_right true two is = refl
    or_right false two is = is

comma : (path : List ℕ) → IsFilePath path → has_comma (file_of path) ≡ true
comma path is = ap (λ p. has_comma (file_of p)) is.is ∙ comma_inside is.id (is.dir ++ 47 ∷ is.name)

plain_digit : (byte : ℕ) → is_hexadecimal byte ≡ true → (byte == 44) ≡ false
plain_digit byte is = grind (arith, nat_tests)

no_comma : (session : List ℕ) → list_all is_hexadecimal session ≡ true → has_comma session ≡ false
no_comma [] all = refl
no_comma (b ∷ more) all =
    let parts = and_parts (is_hexadecimal b) (list_all is_hexadecimal more) all in
    ap (λ t. t || has_comma more) (plain_digit b parts.0) ∙ no_comma more parts.1

true_false : true ≡ false → ⊥
true_false e = cc

-- a data file isn't the file of the nodes, and no log
pub file_is_no_nodes : (path : List ℕ) → IsFilePath path → nodes_name ≢ file_of path
file_is_no_nodes path is e = true_false (sym (comma path is) ∙ ap has_comma (sym e))

pub file_is_no_log : (path log : List ℕ) → IsFilePath path → IsLogName log → log ≢ file_of path
file_is_no_log path log is name e = true_false (sym (comma path is) ∙ ap has_comma (sym e ∙ name.is) ∙ no_comma name.session name.form.each)

abbrev first_byte : List ℕ → ℕ
first_byte [] = 0
first_byte (b ∷ more) = b

differ : (a b m n : ℕ) → a ≡ m → b ≡ n → (m ≡ n → ⊥) → a ≡ b → ⊥
differ a b m n one other apart same = apart (sym one ∙ same ∙ other)

pub log_is_no_nodes : (log : List ℕ) → IsLogName log → nodes_name ≢ log
log_is_no_nodes log name e = differ (first_byte nodes_name) (first_byte log) 110 108 refl (ap first_byte name.is) (λ is. omega (arith, is)) (ap first_byte e)

-- a sorted log isn't the file of the nodes, and no log
sorted_first : (log : List ℕ) → first_byte (sorted_name log) ≡ 115
sorted_first log = refl

pub sorted_is_no_nodes : (log : List ℕ) → nodes_name ≢ sorted_name log
sorted_is_no_nodes log e = differ (first_byte nodes_name) (first_byte (sorted_name log)) 110 115 refl (sorted_first log) (λ is. omega (arith, is)) (ap first_byte e)

pub sorted_is_no_log : (log other : List ℕ) → IsLogName other → other ≢ sorted_name log
sorted_is_no_log log other name e = differ (first_byte other) (first_byte (sorted_name log)) 108 115 (ap first_byte name.is) (sorted_first log) (λ is. omega (arith, is)) (ap first_byte e)

sorted_name_first : (name : List ℕ) → IsSortedName name → first_byte name ≡ 115
sorted_name_first name is = ap first_byte is.is

-- what may be taken out isn't the file of the nodes
pub removable_is_no_nodes : (name : List ℕ) → IsRemovableName name → nodes_name ≢ name
removable_is_no_nodes name (inl file) = λ e. file_is_no_nodes file.path file.form (e ∙ file.is)
removable_is_no_nodes name (inr (inl log)) = log_is_no_nodes name log
removable_is_no_nodes name (inr (inr sorted)) = λ e. differ (first_byte nodes_name) (first_byte name) 110 115 refl (sorted_name_first name sorted) (λ is. omega (arith, is)) (ap first_byte e)
