-- The parts from which a table is read, and why it has none.
use Rattle.std.specs.Prelude.{◌≡◌, ℕ, List, Option, Some, None, Contains}
use Rattle.metadata_schema.specs.declared.tablet.TabletRecord.{TabletRecord}
use Rattle.cell_merge.specs.declared.cell.Cell.{Cell}
use Rattle.cell_merge.specs.Changes.{AreConsistent}
use Rattle.level_rows.specs.Chain.{Rows, IsChain}
use Rattle.level_rows.specs.Broken.{IsBroken}
use Rattle.store_layout.specs.declared.tables.Mark.{Mark}
use Rattle.store_meaning.specs.Ground.{Ground}
use Rattle.store_meaning.specs.Content.{tablet_content, contents_of}
use Rattle.store_meaning.specs.Readable.{HaveConsistentTablets}
use Rattle.store_meaning.specs.Marked.{mark_paths, layers_of}
use Rattle.state_reader.specs.declared.store_reading.Untold.{Untold}
use Rattle.state_reader.specs.Lacks.{HasLacking}
use Rattle.plain_reader.specs.declared.fault.TableFault.{TableFault}
use Rattle.plain_reader.specs.declared.fault.TableFault.TheVariants.{NoChain, Lacks, Twice, LacksMarked, NoMemory}

-- the table has this chain, these cells, in no tablet two different ones of a key and time, and these layers
pub record AreParts (known : Ground) (rows : Rows) (mark : Mark) (chain : List TabletRecord) (cells : List Cell) (layers : List (List Cell)) : Type 0 where
  pub is_chain : IsChain rows chain
  pub content : contents_of known rows chain ≡ Some cells
  pub consistent : HaveConsistentTablets known rows chain
  pub brought : layers_of known rows chain mark ≡ Some layers

-- ---- why there are none

-- no two different cells of the tablet have the same key and time
pub record IsConsistentIn (known : Ground) (rows : Rows) (tablet : TabletRecord) : Type 0 where
  pub each : (cells : List Cell) → tablet_content known rows tablet ≡ Some cells → AreConsistent cells

-- two different cells of the tablet have the same key and time
pub record IsTwiceIn (known : Ground) (rows : Rows) (tablet : TabletRecord) : Type 0 where
  pub cells : List Cell
  pub content : tablet_content known rows tablet ≡ Some cells
  pub twice : AreConsistent cells → ⊥

-- a tablet of the chain names this file or log, of which nothing is told
pub record IsLackingTable (known : Ground) (rows : Rows) (end : Option (List ℕ)) (untold : Untold) : Type 0 where
  pub chain : List TabletRecord
  pub is_chain : IsChain rows chain
  pub lacks : HasLacking known chain end untold

-- in a tablet of the chain two different cells have the same key and time
pub record IsTwiceTable (known : Ground) (rows : Rows) (end : Option (List ℕ)) : Type 0 where
  pub chain : List TabletRecord
  pub is_chain : IsChain rows chain
  pub tablet : TabletRecord
  pub there : Contains chain tablet
  pub end_is : tablet.end ≡ end
  pub twice : IsTwiceIn known rows tablet

-- the mark names this file, of which nothing is told
pub record LacksMarkedFile (known : Ground) (mark : Mark) (path : List ℕ) : Type 0 where
  pub named : Contains (mark_paths mark) path
  pub untold : known.cells_of path ≡ None

-- why a table has no parts; want of memory is free
abbrev pub TableCause : Ground → Rows → Mark → TableFault → Type 0
TableCause known rows mark NoChain = IsBroken rows
TableCause known rows mark (Lacks end untold) = IsLackingTable known rows end untold
TableCause known rows mark (Twice end) = IsTwiceTable known rows end
TableCause known rows mark (LacksMarked path) = LacksMarkedFile known mark path
TableCause known rows mark NoMemory = Unit {0}

-- the table has no parts
pub record HasNoParts (known : Ground) (rows : Rows) (mark : Mark) : Type 0 where
  pub none : (chain : List TabletRecord) (cells : List Cell) (layers : List (List Cell)) → AreParts known rows mark chain cells layers → ⊥
