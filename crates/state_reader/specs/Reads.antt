-- What is read of a ground, level by level, and why nothing is.
use Rattle.std.specs.Prelude.{◌≡◌, ℕ, ◌≤◌, ◌^◌, List, [], ◌∷◌, length, Option, Some}
use Rattle.std.specs.FinMap as map_of
use Rattle.metadata_schema.specs.declared.tablet.TabletRecord.{TabletRecord}
use Rattle.cell_merge.specs.declared.cell.Cell.{Cell}
use Rattle.level_rows.specs.Chain.{Rows, IsChain, effective_prev, rows_of}
use Rattle.level_rows.specs.Broken.{IsBroken}
use Rattle.node_store.specs.declared.changes.Node.{Node}
use Rattle.node_store.specs.Nodes.{Nodes}
use Rattle.store_layout.specs.Nodes.{root_path}
use Rattle.store_meaning.specs.Ground.{Ground}
use Rattle.store_meaning.specs.Content.{contents_of}
use Rattle.store_meaning.specs.Levels.{Level, Reading, IsReadingOf, IsRootRecord, IsLevelOf, IsMetadataTable, root_id, metadata_id}
use Rattle.state_reader.specs.declared.level.LevelKind.TheVariants.{Metadata, Users}
use Rattle.state_reader.specs.declared.level.BadRow.{BadRow}
use Rattle.state_reader.specs.declared.store_reading.StoreReading.{StoreReading}
use Rattle.state_reader.specs.declared.store_reading.Untold.{Untold}
use Rattle.state_reader.specs.declared.store_reading.ReadFault.{ReadFault}
use Rattle.state_reader.specs.declared.store_reading.ReadFault.TheVariants.{NoRoot, LongRoot, BoundedRoot, RootLacks, BadMetadata, NoChain, MetadataLacks, BadUsers, NoMemory}
use Rattle.state_reader.specs.LevelRows.{IsBadRow, level_of}
use Rattle.state_reader.specs.Lacks.{IsLacking, HasLacking}

-- the reading of these lists
abbrev pub reading_of : StoreReading → Reading
reading_of read = record {
  root = read.root;
  root_cells = read.root_cells;
  metadata = level_of read.metadata;
  chain = read.chain;
  metadata_cells = read.metadata_cells;
  users = level_of read.users;
}

-- ---- what is read one after the other

-- the root tablet alone
abbrev pub alone : TabletRecord → Rows
alone root = rows_of root_id (root ∷ [])

-- the record of the root tablet, and its cells
pub record AreRootCells (known : Ground) (root : TabletRecord) (cells : List Cell) : Type 0 where
  pub is : IsRootRecord known.nodes root
  pub chain : IsChain (alone root) (root ∷ [])
  pub content : contents_of known (alone root) (root ∷ []) ≡ Some cells

-- what the cells of the root tablet tell
pub record IsMetadataLevel (known : Ground) (level : Level) : Type 0 where
  pub root : TabletRecord
  pub cells : List Cell
  pub read : AreRootCells known root cells
  pub is : IsLevelOf IsMetadataTable cells level

-- the tablets of `!0`, from the last one down
pub record IsMetadataChain (known : Ground) (level : Level) (chain : List TabletRecord) : Type 0 where
  pub read : IsMetadataLevel known level
  pub is : IsChain (level.records metadata_id) chain

-- the cells of the tablets of `!0`
pub record AreMetadataCells (known : Ground) (cells : List Cell) : Type 0 where
  pub level : Level
  pub chain : List TabletRecord
  pub read : IsMetadataChain known level chain
  pub content : contents_of known (level.records metadata_id) chain ≡ Some cells

-- ---- why nothing is read

-- `/root` isn't there, or is no record of the root tablet
pub record HasNoRoot (nodes : Nodes) : Type 0 where
  pub none : (root : TabletRecord) → IsRootRecord nodes root → ⊥

-- the value of `/root` has 2^32 bytes or more
pub record HasLongRoot (nodes : Nodes) : Type 0 where
  pub node : Node
  pub there : map_of.get nodes root_path ≡ Some node
  pub long : 2 ^ 32 ≤ length node.value

-- the root tablet has this lower bound
pub record HasBoundedRoot (known : Ground) (low : List ℕ) : Type 0 where
  pub root : TabletRecord
  pub is : IsRootRecord known.nodes root
  pub bound : effective_prev (alone root) root ≡ Some low

-- the root tablet names this file or log, of which nothing is told
pub record HasLackingRoot (known : Ground) (untold : Untold) : Type 0 where
  pub root : TabletRecord
  pub is : IsRootRecord known.nodes root
  pub lacks : IsLacking known root untold

-- the cells of the root tablet tell of no level at this row
pub record HasBadMetadata (known : Ground) (row : BadRow) : Type 0 where
  pub root : TabletRecord
  pub cells : List Cell
  pub read : AreRootCells known root cells
  pub bad : IsBadRow Metadata cells row

-- the records of `!0` make up no chain
pub record HasNoChain (known : Ground) : Type 0 where
  pub level : Level
  pub read : IsMetadataLevel known level
  pub broken : IsBroken (level.records metadata_id)

-- the tablet of `!0` with this end row names this file or log, of which nothing is told
pub record HasLackingMetadata (known : Ground) (end : Option (List ℕ)) (untold : Untold) : Type 0 where
  pub level : Level
  pub chain : List TabletRecord
  pub read : IsMetadataChain known level chain
  pub lacks : HasLacking known chain end untold

-- the cells of `!0` tell of no level at this row
pub record HasBadUsers (known : Ground) (row : BadRow) : Type 0 where
  pub cells : List Cell
  pub read : AreMetadataCells known cells
  pub bad : IsBadRow Users cells row

-- why nothing is read; want of memory is free
abbrev pub ReadCause : Ground → ReadFault → Type 0
ReadCause known NoRoot = HasNoRoot known.nodes
ReadCause known LongRoot = HasLongRoot known.nodes
ReadCause known (BoundedRoot low) = HasBoundedRoot known low
ReadCause known (RootLacks untold) = HasLackingRoot known untold
ReadCause known (BadMetadata row) = HasBadMetadata known row
ReadCause known NoChain = HasNoChain known
ReadCause known (MetadataLacks end untold) = HasLackingMetadata known end untold
ReadCause known (BadUsers row) = HasBadUsers known row
ReadCause known NoMemory = Unit {0}

-- why the nodes give no record of the root tablet; want of memory is free
abbrev pub RootCause : Nodes → ReadFault → Type 0
RootCause nodes NoRoot = HasNoRoot nodes
RootCause nodes LongRoot = HasLongRoot nodes
RootCause nodes (BoundedRoot low) = ⊥
RootCause nodes (RootLacks untold) = ⊥
RootCause nodes (BadMetadata row) = ⊥
RootCause nodes NoChain = ⊥
RootCause nodes (MetadataLacks end untold) = ⊥
RootCause nodes (BadUsers row) = ⊥
RootCause nodes NoMemory = Unit {0}

-- the ground has no reading
pub record HasNoReading (known : Ground) : Type 0 where
  pub none : (reading : Reading) → IsReadingOf known reading → ⊥
