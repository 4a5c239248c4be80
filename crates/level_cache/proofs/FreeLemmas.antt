-- The path of a data file, and the name of its file, give one another.
use Rattle.std.proofs.Common.{◌≡◌, inl, inr, ℕ, ◌||◌, ◌==◌, Bool, true, false, not, codes, length, List, [], ◌∷◌, ◌++◌, map, suc, ◌≤◌, refl, sym, ◌∙◌, ap, arith}
use Rattle.std.specs.List.{list_all, list_any}
use Rattle.std.proofs.lemmas.Bool.{and_parts, and_from, false≢true}
use Rattle.std.proofs.lemmas.Bool.Decides.{nat_tests}
use Rattle.row_keys.specs.Forms.{is_lower_or_digit, IsTableId}
use Rattle.metadata_schema.specs.Bytes.{is_free}
use Rattle.metadata_schema.proofs.PathLemmas.{path_fits}
use Rattle.metadata_schema.specs.Paths.{is_base36, is_file_kind, IsDirectory, IsFileName, IsFilePath}
use Rattle.node_store.specs.Children.{is_single_name}
use Rattle.store_layout.specs.Names.{name_byte, file_of}
use Rattle.level_cache.specs.Marks.{path_byte}

-- ---- no path has a comma

abbrev is_plain : ℕ → Bool
is_plain byte = not (byte == 44)

lower : (byte : ℕ) → is_lower_or_digit byte ≡ true → is_plain byte ≡ true
lower byte is = grind (arith, nat_tests)

base36 : (byte : ℕ) → is_base36 byte ≡ true → is_plain byte ≡ true
base36 byte is = grind (arith, nat_tests)

kind : (byte : ℕ) → is_file_kind byte ≡ true → is_plain byte ≡ true
kind byte is = grind (arith, nat_tests)

all_weaker : (one : ℕ → Bool) → ((byte : ℕ) → one byte ≡ true → is_plain byte ≡ true) → (bytes : List ℕ) → list_all one bytes ≡ true → is_free 44 bytes ≡ true
all_weaker one weaker [] all = refl
all_weaker one weaker (b ∷ more) all =
    let parts = and_parts (one b) (list_all one more) all in
    and_from (is_plain b) (is_free 44 more) (weaker b parts.0) (all_weaker one weaker more parts.1)

joined : (front back : List ℕ) → is_free 44 front ≡ true → is_free 44 back ≡ true → is_free 44 (front ++ back) ≡ true
joined [] back one two = two
joined (b ∷ front) back one two =
    let parts = and_parts (is_plain b) (is_free 44 front) one in
    and_from (is_plain b) (is_free 44 (front ++ back)) parts.0 (joined front back parts.1 two)

free_id : (id : List ℕ) → IsTableId id → is_free 44 id ≡ true
free_id id (inl is) = ap (is_free 44) is
free_id id (inr (inl is)) = ap (is_free 44) is
free_id id (inr (inr is)) = all_weaker is_lower_or_digit lower id is.each

free_dir : (dir : List ℕ) → IsDirectory dir → is_free 44 dir ≡ true
free_dir dir (inl is) = ap (is_free 44) is
free_dir dir (inr (inl is)) = ap (is_free 44) is
free_dir dir (inr (inr (inl is))) = ap (is_free 44) is
free_dir dir (inr (inr (inr drawn))) = ap (is_free 44) drawn.1 ∙ joined (codes "t-") drawn.0 refl (all_weaker is_base36 base36 drawn.0 drawn.2.form.each)

free_name : (name : List ℕ) → IsFileName name → is_free 44 name ≡ true
free_name name is =
    ap (is_free 44) is.is
    ∙ and_from (is_plain is.kind) (is_free 44 (is.text ++ codes ".rf")) (kind is.kind is.is_kind) (joined is.text (codes ".rf") (all_weaker is_base36 base36 is.text is.drawn.form.each) refl)

free_path : (path : List ℕ) → IsFilePath path → is_free 44 path ≡ true
free_path path is =
    ap (is_free 44) is.is
    ∙ joined is.id (47 ∷ (is.dir ++ 47 ∷ is.name)) (free_id is.id is.parts.is_id) (joined is.dir (47 ∷ is.name) (free_dir is.dir is.parts.is_dir) (free_name is.name is.parts.is_name))

-- ---- there and back

byte_back : (byte : ℕ) → is_plain byte ≡ true → path_byte (name_byte byte) ≡ byte
byte_back byte plain = by (byte == 47) (byte == 44) refl refl plain
  where
    by : (p q : Bool) → (byte == 47) ≡ p → (byte == 44) ≡ q → is_plain byte ≡ true → path_byte (name_byte byte) ≡ byte
    by p q is_a is_b plain = grind (arith, nat_tests)

bytes_back : (path : List ℕ) → is_free 44 path ≡ true → map path_byte (map name_byte path) ≡ path
bytes_back [] free = refl
bytes_back (b ∷ more) free =
    let parts = and_parts (is_plain b) (is_free 44 more) free in
    λ i. byte_back b parts.0 i ∷ bytes_back more parts.1 i

-- a file's path from its name
pub path_back : (path : List ℕ) → IsFilePath path → map path_byte (file_of path) ≡ path
path_back path form = bytes_back path (free_path path form)

byte_there : (byte : ℕ) → (byte == 47) ≡ false → name_byte (path_byte byte) ≡ byte
byte_there byte other = by (byte == 44) refl other
  where
    by : (q : Bool) → (byte == 44) ≡ q → (byte == 47) ≡ false → name_byte (path_byte byte) ≡ byte
    by q is_q other = grind (arith, nat_tests)

bytes_there : (name : List ℕ) → list_any (λ byte. byte == 47) name ≡ false → map name_byte (map path_byte name) ≡ name
bytes_there [] none = refl
bytes_there (b ∷ more) none = by (b == 47) refl none (bytes_there more)
  where
    by : (p : Bool) → (b == 47) ≡ p → p || list_any (λ byte. byte == 47) more ≡ false → (list_any (λ byte. byte == 47) more ≡ false → map name_byte (map path_byte more) ≡ more) → map name_byte (map path_byte (b ∷ more)) ≡ b ∷ more
    by true is wrong back = absurd (false≢true (sym wrong))
    by false is rest back = λ i. byte_there b is i ∷ back rest i

no_slash : (name : List ℕ) → is_single_name name ≡ true → list_any (λ byte. byte == 47) name ≡ false
no_slash name single = by (list_any (λ byte. byte == 47) name) (and_parts (not (length name == 0)) (not (list_any (λ byte. byte == 47) name)) single).1
  where
    by : (b : Bool) → not b ≡ true → b ≡ false
    by true wrong = absurd (false≢true wrong)
    by false is = refl

-- a name's path, whose file has that name
pub name_back : (name : List ℕ) → is_single_name name ≡ true → file_of (map path_byte name) ≡ name
name_back name single = bytes_there name (no_slash name single)

-- ---- names

byte_slash : (byte : ℕ) → (name_byte byte == 47) ≡ false
byte_slash byte = by (byte == 47) refl
  where
    by : (p : Bool) → (byte == 47) ≡ p → (name_byte byte == 47) ≡ false
    by p is = grind (arith, nat_tests)

file_slash : (path : List ℕ) → list_any (λ byte. byte == 47) (file_of path) ≡ false
file_slash [] = refl
file_slash (b ∷ more) = ap (λ one. one || list_any (λ byte. byte == 47) (file_of more)) (byte_slash b) ∙ file_slash more

not_zero : (n : ℕ) → not (suc n == 0) ≡ true
not_zero n = grind (arith, nat_tests)

single : (path : List ℕ) → 1 ≤ length path → is_single_name (file_of path) ≡ true
single [] some = absurd (omega (arith, some))
single (b ∷ more) some = and_from (not (length (file_of (b ∷ more)) == 0)) (not (list_any (λ byte. byte == 47) (file_of (b ∷ more)))) (not_zero (length (file_of more))) (ap not (file_slash (b ∷ more)))

-- the file of a path has a name that may stand behind a slash
pub file_single : (path : List ℕ) → IsFilePath path → is_single_name (file_of path) ≡ true
file_single path form = single path (path_fits path form).least
