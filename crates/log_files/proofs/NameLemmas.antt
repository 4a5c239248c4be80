-- The names of a log's files are names of files.
use Rattle.std.proofs.Common.{◌≡◌, ℕ, zero, suc, ◌<◌, true, List, [], ◌∷◌, refl, sym, subst, arith}
use Rattle.std.specs.List.{list_all}
use Rattle.std.specs.Str.{IsUtf8, IsAscii}
use Rattle.std.proofs.lemmas.Bool.{and_parts, and_from}
use Rattle.std.proofs.lemmas.Bool.Decides.{nat_tests}
use Rattle.std.proofs.lemmas.Str.{IsUtf8-from_ascii}
use Rattle.host_model.specs.FileName.{is_name_byte, IsFileName}
use Rattle.row_keys.specs.Forms.{is_hexadecimal, IsLogName}
use Rattle.log_files.specs.Sorted.{sorted_name}

hexadecimal : (byte : ℕ) → is_hexadecimal byte ≡ true → is_name_byte byte ≡ true
hexadecimal byte is = grind (arith, nat_tests)

ascii : (byte : ℕ) → is_name_byte byte ≡ true → byte < 128
ascii byte is = grind (arith, nat_tests)

all_names : (session : List ℕ) → list_all is_hexadecimal session ≡ true → list_all is_name_byte session ≡ true
all_names [] all = refl
all_names (b ∷ more) all =
    let parts = and_parts (is_hexadecimal b) (list_all is_hexadecimal more) all in
    and_from (is_name_byte b) (list_all is_name_byte more) (hexadecimal b parts.0) (all_names more parts.1)

pub log_form : (log : List ℕ) → IsLogName log → IsFileName log
log_form log is = subst IsFileName (sym is.is) (record { some = omega arith; short = (let most = is.form.most in omega (arith, most)); each = all_names is.session is.form.each })

pub sorted_form : (log : List ℕ) → IsLogName log → IsFileName (sorted_name log)
sorted_form log is = subst (λ l. IsFileName (sorted_name l)) (sym is.is) (record { some = omega arith; short = (let most = is.form.most in omega (arith, most)); each = all_names is.session is.form.each })

all_ascii : (bytes : List ℕ) → list_all is_name_byte bytes ≡ true → IsAscii bytes
all_ascii [] all i = omega arith
all_ascii (b ∷ more) all zero = ascii b (and_parts (is_name_byte b) (list_all is_name_byte more) all).0
all_ascii (b ∷ more) all (suc i) = all_ascii more (and_parts (is_name_byte b) (list_all is_name_byte more) all).1 i

pub utf8 : (bytes : List ℕ) → IsFileName bytes → IsUtf8 bytes
utf8 bytes form = IsUtf8-from_ascii bytes (all_ascii bytes form.each)
