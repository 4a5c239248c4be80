-- Why levels that are asked for aren't there.
use Rattle.std.specs.Prelude.{◌≡◌, ◌⊎◌, ℕ, List, [], ◌∷◌, Some}
use Rattle.host_model.specs.State.{HostState}
use Rattle.host_model.specs.Calls.{IsOfFiles, Faulted}
use Rattle.host_model.specs.declared.fault.Stop.{Stop}
use Rattle.host_model.specs.declared.fault.Stop.TheVariants.{Host, Damaged, Full, NoMemory}
use Rattle.metadata_schema.specs.declared.tablet.TabletRecord.{TabletRecord}
use Rattle.node_store.specs.Nodes.{Nodes}
use Rattle.store_layout.specs.Names.{nodes_name}
use Rattle.store_meaning.specs.Levels.{IsRootRecord}
use Rattle.state_reader.specs.declared.level.LevelKind.TheVariants.{Metadata, Users}
use Rattle.state_reader.specs.Reads.{alone}
use Rattle.level_index.specs.Entries.{LevelMap, level_of}
use Rattle.level_scan.specs.Tablets.{MemoryAt}
use Rattle.level_scan.specs.Causes.{LacksRoot, Blames, BlamesChain, BlamesOnChain}
use Rattle.level_scan.specs.Levels.{own_rows}
use Rattle.level_cache.specs.Cached.{CachedLevels}

-- the nodes are blamed, which have no record of the root tablet
pub record BlamesRoot (nodes : Nodes) (name : List ℕ) : Type 0 where
  pub named : name ≡ nodes_name
  pub lacks : LacksRoot nodes

-- what is blamed for the records of the metadata table's tablets, which the root tablet of the nodes has
pub record BlamesOnRoot (nodes : Nodes) (hosted : MemoryAt) (name : List ℕ) (state : HostState) : Type 0 where
  pub root : TabletRecord
  pub is : IsRootRecord nodes root
  pub blames : Blames (alone root) hosted (root ∷ []) Metadata name state

-- what is blamed for all other records, by the records of the metadata table's tablets that were read
pub record BlamesOnMetadata (cache : CachedLevels) (hosted : MemoryAt) (name : List ℕ) (state : HostState) : Type 0 where
  pub index : LevelMap
  pub read : cache.metadata ≡ Some index
  pub blames : BlamesChain (own_rows (level_of index)) name ⊎ BlamesOnChain (own_rows (level_of index)) hosted Users name state

-- why the level of the metadata table's tablets wasn't read; want of memory is free
abbrev pub MetadataStop : Nodes → MemoryAt → Stop → HostState → HostState → Type 0
MetadataStop nodes hosted (Host fault) old new = IsOfFiles fault × Faulted fault old new
MetadataStop nodes hosted (Damaged name) old new = BlamesRoot nodes name ⊎ BlamesOnRoot nodes hosted name old
MetadataStop nodes hosted Full old new = ⊥
MetadataStop nodes hosted NoMemory old new = Unit {0}

-- why a level wasn't read; want of memory is free
abbrev pub LevelsStop : Nodes → MemoryAt → CachedLevels → Stop → HostState → HostState → Type 0
LevelsStop nodes hosted cache (Host fault) old new = IsOfFiles fault × Faulted fault old new
LevelsStop nodes hosted cache (Damaged name) old new = BlamesRoot nodes name ⊎ BlamesOnRoot nodes hosted name old ⊎ BlamesOnMetadata cache hosted name old
LevelsStop nodes hosted cache Full old new = ⊥
LevelsStop nodes hosted cache NoMemory old new = Unit {0}
