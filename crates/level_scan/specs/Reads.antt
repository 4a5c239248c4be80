-- The level that tablets tell, and what stands in the way of one.
use Rattle.std.specs.Prelude.{◌≡◌, ◌⊎◌, ℕ, List, ◌∷◌, ◌++◌, None, Contains}
use Rattle.host_model.specs.Picture.{Image}
use Rattle.metadata_schema.specs.declared.tablet.FileEntry.{FileEntry}
use Rattle.metadata_schema.specs.declared.tablet.TabletRecord.{TabletRecord}
use Rattle.cell_merge.specs.declared.cell.Cell.{Cell}
use Rattle.level_rows.specs.Chain.{Rows}
use Rattle.store_meaning.specs.Levels.{IsLevelOf}
use Rattle.state_reader.specs.declared.level.LevelKind.{LevelKind}
use Rattle.state_reader.specs.LevelRows.{IsOfKind, HasNoLevel}
use Rattle.level_index.specs.Entries.{LevelMap, level_of}
use Rattle.tablet_scan.specs.Files.{IsBad, IsFirstBad, IsNameOf}
use Rattle.level_scan.specs.Tablets.{MemoryAt, row_of, HoldTablets}

-- the index has the level that the cells of these tablets tell
pub record IsReadOf (image : Image) (rows : Rows) (hosted : MemoryAt) (chain : List TabletRecord) (kind : LevelKind) (index : LevelMap) : Type 0 where
  pub cells : List Cell
  pub held : HoldTablets image rows hosted chain cells
  pub level : IsLevelOf (IsOfKind kind) cells (level_of index)

-- ---- files

-- a file that one of these tablets names isn't there, or isn't of its grammar
pub record HasBadFile (image : Image) (chain : List TabletRecord) : Type 0 where
  pub tablet : TabletRecord
  pub there : Contains chain tablet
  pub file : FileEntry
  pub named : Contains tablet.files file
  pub bad : IsBad image file

-- the name is that of a file of one of these tablets
pub record IsFileOf (chain : List TabletRecord) (name : List ℕ) : Type 0 where
  pub tablet : TabletRecord
  pub there : Contains chain tablet
  pub named : IsNameOf tablet.files name

-- the name is that of the first of all their files that is bad: the tablets before its own hold their cells
pub record IsFirstBadOf (image : Image) (rows : Rows) (hosted : MemoryAt) (chain : List TabletRecord) (name : List ℕ) : Type 0 where
  pub front : List TabletRecord
  pub tablet : TabletRecord
  pub back : List TabletRecord
  pub are : chain ≡ front ++ tablet ∷ back
  pub cells : List Cell
  pub before : HoldTablets image rows hosted front cells
  pub first : IsFirstBad image tablet.files name

-- ---- memories

-- one of these tablets has no memory
pub record LacksMemory (hosted : MemoryAt) (chain : List TabletRecord) : Type 0 where
  pub tablet : TabletRecord
  pub there : Contains chain tablet
  pub none : hosted (row_of tablet) ≡ None

-- the tablets before the first one that has none hold their cells
pub record LacksFirst (image : Image) (rows : Rows) (hosted : MemoryAt) (chain : List TabletRecord) : Type 0 where
  pub front : List TabletRecord
  pub tablet : TabletRecord
  pub back : List TabletRecord
  pub are : chain ≡ front ++ tablet ∷ back
  pub cells : List Cell
  pub before : HoldTablets image rows hosted front cells
  pub none : hosted (row_of tablet) ≡ None

-- ---- cells

-- the cells of these tablets tell of no level
pub record TellNoLevel (image : Image) (rows : Rows) (hosted : MemoryAt) (chain : List TabletRecord) (kind : LevelKind) : Type 0 where
  pub cells : List Cell
  pub held : HoldTablets image rows hosted chain cells
  pub none : HasNoLevel kind cells

-- a file is bad, or the cells tell of no level
abbrev pub IsAmiss : Image → Rows → MemoryAt → List TabletRecord → LevelKind → Type 0
IsAmiss image rows hosted chain kind = HasBadFile image chain ⊎ TellNoLevel image rows hosted chain kind
