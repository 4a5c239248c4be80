-- Cells with the same latest ones tell the same level.
use Rattle.std.proofs.Common.{◌≡◌, ℕ, List, sym, ◌∙◌, ap}
use Rattle.std.specs.Option.{option_and_then}
use Rattle.row_keys.specs.MetadataRow.{metadata_row}
use Rattle.metadata_schema.specs.declared.mutation.Update.{Update}
use Rattle.cell_merge.specs.declared.cell.Cell.{Cell}
use Rattle.store_meaning.specs.Levels.{Level, SpellsRow, IsLevelOf, candidate_row, flag_row, record_columns, candidate_columns, flag_columns}
use Rattle.store_meaning.proofs.ReadingLemmas.{same_level}
use Rattle.tablet_scan.specs.Scans.{HaveSameLatest}

module _ (cells other : List Cell) (same : HaveSameLatest cells other) where
  same_spelling : (row : List ℕ) (columns : List Update) → SpellsRow cells row columns → SpellsRow other row columns
  same_spelling row columns spells = record {
    each = λ family qualifier. ap (option_and_then (λ (cell : Cell). cell.value)) (sym (same (record { row = row; family = family; qualifier = qualifier }))) ∙ spells.each family qualifier;
  }

  pub level_moves : (is_of : List ℕ → Type 0) (level : Level) → IsLevelOf is_of cells level → IsLevelOf is_of other level
  level_moves is_of level is = record {
    records = λ table end of name. same_spelling (metadata_row table end) (record_columns (level.records table end)) (is.records table end of name);
    own_tables = is.own_tables;
    forms = is.forms;
    candidates = λ path. same_spelling (candidate_row path) (candidate_columns (level.is_candidate path)) (is.candidates path);
    candidate_paths = is.candidate_paths;
    flags = λ path. same_spelling (flag_row path) (flag_columns (level.flag path)) (is.flags path);
    flag_forms = is.flag_forms;
  }

  -- levels of such cells are one
  pub one_level : (is_of : List ℕ → Type 0) (level told : Level) → IsLevelOf is_of cells level → IsLevelOf is_of other told → level ≡ told
  one_level is_of level told is is_told = same_level is_of other level told (level_moves is_of level is) is_told
