-- The paths of new files.
use Rattle.std.proofs.Common.{◌≡◌, ℕ, ◌<◌, ◌^◌, List, ◌++◌, codes, drop, refl, sym, ◌∙◌, ap, IsTrue}
use Rattle.std.proofs.lemmas.List.{append_cancel_right}
use Rattle.row_keys.specs.Forms.{IsTableId}
use Rattle.metadata_schema.specs.Paths.{is_file_kind, IsDirectory, IsFileName, AreParts, IsFilePath}
use Rattle.metadata_schema.proofs.LawsLemmas.{same_parts}
use Rattle.store_layout.specs.Numbers.{base36_number, name_number}
use Rattle.new_files.specs.declared.kinds.FileKind.{FileKind}
use Rattle.new_files.specs.declared.kinds.FileKind.TheVariants.{Flush, Merged, Whole, Bulk}
use Rattle.new_files.specs.Names.{letter, name_text, new_name, new_path}
use Rattle.new_files.proofs.TextLemmas.{text_form, text_number}

is_letter : (kind : FileKind) → IsTrue (is_file_kind (letter kind))
is_letter Flush = refl
is_letter Merged = refl
is_letter Whole = refl
is_letter Bulk = refl

name_form : (kind : FileKind) (number : ℕ) → number < 2 ^ 63 → IsFileName (new_name kind number)
name_form kind number small = record { kind = letter kind; text = name_text number; is_kind = is_letter kind; drawn = text_form number small; is = refl }

parts_form : (table dir : List ℕ) (kind : FileKind) (number : ℕ) → IsTableId table → IsDirectory dir → number < 2 ^ 63 → AreParts table dir (new_name kind number)
parts_form table dir kind number is_id is_dir small = record { is_id = is_id; is_dir = is_dir; is_name = name_form kind number small }

pub path_form : (table dir : List ℕ) (kind : FileKind) (number : ℕ) → IsTableId table → IsDirectory dir → number < 2 ^ 63 → IsFilePath (new_path table dir kind number)
path_form table dir kind number is_id is_dir small = record { id = table; dir = dir; name = new_name kind number; parts = parts_form table dir kind number is_id is_dir small; is = refl }

-- a name's text is one
text_in_name : (kind : FileKind) (number : ℕ) (name : List ℕ) (form : IsFileName name) → new_name kind number ≡ name → form.text ≡ name_text number
text_in_name kind number name form is =
    let tails : name_text number ++ codes ".rf" ≡ form.text ++ codes ".rf" = ap (drop 1) (is ∙ form.is) in
    append_cancel_right form.text (name_text number) (codes ".rf") (sym tails)

-- whatever parts are read in the path, its number is this one
pub path_number : (table dir : List ℕ) (kind : FileKind) (number : ℕ) → IsTableId table → IsDirectory dir → number < 2 ^ 63 → (form : IsFilePath (new_path table dir kind number)) → name_number form ≡ number
path_number table dir kind number is_id is_dir small form =
    let same = same_parts table dir (new_name kind number) form.id form.dir form.name (parts_form table dir kind number is_id is_dir small) form.parts form.is in
    ap base36_number (text_in_name kind number form.name form.parts.is_name same.2) ∙ text_number number small
