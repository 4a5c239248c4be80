-- The record of a new store's root tablet: its columns are updates that can be spelled.
use Rattle.std.proofs.Common.{ℕ, ◌<◌, ◌^◌, List, [], ◌∷◌, ◌++◌, length, length-append, None, refl, arith, lit<}
use Rattle.std.specs.Prelude.{codes}
use Rattle.std.specs.Fmt.{decimal, digits}
use Rattle.std.proofs.lemmas.Fmt.{length-decimal-le}
use Rattle.std.proofs.lemmas.List.Elements.{All-from_recursion}
use Rattle.data_files.specs.Files.{spelled_file}
use Rattle.log_files.specs.Mutations.{FitsUpdate, AreUpdates}
use Rattle.metadata_schema.specs.declared.tablet.TabletRecord.{TabletRecord}
use Rattle.metadata_schema.specs.Values.{file_value}
use Rattle.metadata_schema.specs.Columns.{written, columns_of}
use Rattle.metadata_schema.specs.Records.{new_tablet}
use Rattle.store_layout.specs.NewStore.{first_cells, first_root, root_file_path}

-- the root tablet, whose one file has so many bytes
abbrev pub root_of : ℕ → TabletRecord
root_of size = record (new_tablet (codes "+r") None None (codes "root_tablet")) { time = 1; files = record { path = root_file_path; size = size; entries = 6; time = None } ∷ [] }

short_value : (size : ℕ) → size < 2 ^ 64 → length (file_value size 6 None) < 2 ^ 16
short_value size small =
    omega (arith, length-append (decimal size) (44 ∷ (decimal 6 ++ [])), length-append (decimal 6) [], length-decimal-le 20 size (lit< tt) (omega arith) small, length-decimal-le 1 6 (lit< tt) (lit< tt) (lit< tt))

pub written_fits : (family qualifier value : List ℕ) → length family < 2 ^ 8 → length qualifier < 2 ^ 8 → length value < 2 ^ 16 → FitsUpdate (written family qualifier value)
written_fits family qualifier value one two three = record { family = one; qualifier = two; value = three }

updates_of : (size : ℕ) → size < 2 ^ 64 → AreUpdates (columns_of (root_of size))
unfolding digits
updates_of size small = record {
  some = lit< tt;
  counts = lit< tt;
  each = All-from_recursion FitsUpdate (columns_of (root_of size)) (
    written_fits _ _ _ (lit< tt) (lit< tt) (short_value size small),
    (written_fits _ _ _ (lit< tt) (lit< tt) (lit< tt), (written_fits _ _ _ (lit< tt) (lit< tt) (lit< tt), (written_fits _ _ _ (lit< tt) (lit< tt) (lit< tt), tt))),
  );
  rising = refl;
}

pub root_updates : length (spelled_file first_cells) < 2 ^ 64 → AreUpdates (columns_of first_root)
root_updates small = updates_of (length (spelled_file first_cells)) small
