-- A cause excludes every level.
use Rattle.std.proofs.Common.{◌≡◌, ℕ, List, Contains, Option, Some, None, refl, sym, subst}
use Rattle.std.specs.Prelude.{IfSome}
use Rattle.metadata_schema.specs.declared.tablet.TabletRecord.{TabletRecord}
use Rattle.cell_merge.specs.declared.cell.Cell.{Cell}
use Rattle.cell_merge.specs.declared.cell.Pair.{Pair}
use Rattle.store_meaning.specs.Levels.{Level, Flag as LoadedFlag, IsFlagAt, SpellsRow, IsRecordAt, IsLevelOf, record_columns, candidate_columns, flag_columns}
use Rattle.state_reader.specs.declared.level.BadRow.{BadRow}
use Rattle.state_reader.specs.declared.level.BadRow.TheVariants.{Tablet, Candidate, Flag}
use Rattle.state_reader.specs.declared.level.LevelFault.{LevelFault}
use Rattle.state_reader.specs.declared.level.LevelFault.TheVariants.{Bad, NoMemory as NoRoom}
use Rattle.state_reader.specs.declared.level.LevelKind.{LevelKind}
use Rattle.state_reader.specs.Columns.{AreRowsOf, AllPaired}
use Rattle.state_reader.specs.LevelRows.{IsOfKind, IsBadRow, LevelCause, HasNoLevel}

if_some : (kind : LevelKind) (cells : List Cell) (level : Level) → IsLevelOf (IsOfKind kind) cells level → (table : List ℕ) (end : Option (List ℕ)) → IfSome (level.records table end) (IsRecordAt table end)
if_some kind cells level is table end = by (level.records table end) refl
  where
    by : (o : Option TabletRecord) → level.records table end ≡ o → IfSome o (IsRecordAt table end)
    by None e = tt
    by (Some tablet) e = is.forms table end tablet e

pub no_level_at : (kind : LevelKind) (cells : List Cell) (row : BadRow) → IsBadRow kind cells row → (level : Level) → IsLevelOf (IsOfKind kind) cells level → ⊥
no_level_at kind cells (Tablet row) bad level is =
    bad.none (level.records bad.table bad.end) (if_some kind cells level is bad.table bad.end)
    (subst (λ r. SpellsRow cells r (record_columns (level.records bad.table bad.end))) (sym bad.named.is) (is.records bad.table bad.end bad.of bad.named.name))
no_level_at kind cells (Candidate row) bad level is =
    bad.none (level.is_candidate bad.path) (is.candidate_paths bad.path) (subst (λ r. SpellsRow cells r (candidate_columns (level.is_candidate bad.path))) (sym bad.place) (is.candidates bad.path))
no_level_at kind cells (Flag row) bad level is = bad.none (level.flag bad.path) (flagged (level.flag bad.path) refl) (subst (λ r. SpellsRow cells r (flag_columns (level.flag bad.path))) (sym bad.place) (is.flags bad.path))
  where
    flagged : (o : Option LoadedFlag) → level.flag bad.path ≡ o → IfSome o (IsFlagAt bad.path)
    flagged None e = tt
    flagged (Some flag) e = is.flag_forms bad.path flag e

pub no_level : (kind : LevelKind) (cells : List Cell) (fault : LevelFault) → LevelCause kind cells fault → (fault ≡ NoRoom → ⊥) → HasNoLevel kind cells
no_level kind cells (Bad row) cause other = record { none = no_level_at kind cells row cause }
no_level kind cells NoRoom cause other = absurd (other refl)

-- the cause, as one fact of the fault
pub record IsLevelCause (kind : LevelKind) (cells : List Cell) (fault : LevelFault) : Type 0 where
  pub why : LevelCause kind cells fault

pub excludes : (kind : LevelKind) (cells : List Cell) (fault : LevelFault) → IsLevelCause kind cells fault → (fault ≡ NoRoom → ⊥) → HasNoLevel kind cells
excludes kind cells fault is other = no_level kind cells fault is.why other

-- each of the rows of pairs has a pair
pub all_paired : (pairs : List Pair) (rows : List (List ℕ)) → AreRowsOf pairs rows → AllPaired pairs rows
all_paired pairs rows are = λ row there. (are.each row).0 there

-- the same rows of the same pairs
pub rows_in : (pairs others : List Pair) (rows same : List (List ℕ)) → pairs ≡ others → rows ≡ same → AreRowsOf pairs rows → AreRowsOf others same
rows_in pairs others rows same one two are = subst (λ (l : List Pair). AreRowsOf l same) one (subst (AreRowsOf pairs) two are)
