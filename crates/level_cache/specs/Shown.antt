-- What the levels that were read show of a store.
use Rattle.std.specs.Prelude.{◌≡◌, [], ◌∷◌, IfSome}
use Rattle.host_model.specs.Picture.{Image}
use Rattle.store_meaning.specs.Ground.{Ground, IsGroundOf}
use Rattle.store_meaning.specs.Levels.{Level, Reading, IsReadingOf, root_rows, metadata_rows}
use Rattle.state_reader.specs.declared.level.LevelKind.{LevelKind}
use Rattle.state_reader.specs.declared.level.LevelKind.TheVariants.{Metadata, Users}
use Rattle.level_index.specs.Entries.{LevelMap, level_of}
use Rattle.level_scan.specs.Tablets.{MemoryAt, HaveMemories}
use Rattle.level_cache.specs.Cached.{CachedLevels}

-- the index is of this kind, and tells this level
pub record TellsLevel (kind : LevelKind) (level : Level) (index : LevelMap) : Type 0 where
  pub kind_is : index.kind ≡ kind
  pub is : level_of index ≡ level

-- the level of this kind in a reading
abbrev pub level_in : Reading → LevelKind → Level
level_in reading Metadata = reading.metadata
level_in reading Users = reading.users

-- The image is read so, and each level that was read is that of the reading.
pub record ShowsLevels (image : Image) (cache : CachedLevels) (reading : Reading) (known : Ground) : Type 0 where
  pub of : IsGroundOf image known
  pub is : IsReadingOf known reading
  pub metadata : IfSome cache.metadata (TellsLevel Metadata reading.metadata)
  pub users : IfSome cache.users (TellsLevel Users reading.users)

-- ---- memories

-- the root tablet has its memory
abbrev pub HasRootMemory : Ground → Reading → MemoryAt → Type 0
HasRootMemory known reading hosted = HaveMemories known (root_rows reading) hosted (reading.root ∷ [])

-- and so has each tablet of the metadata table
abbrev pub HaveUpperMemories : Ground → Reading → MemoryAt → Type 0
HaveUpperMemories known reading hosted = HasRootMemory known reading hosted × HaveMemories known (metadata_rows reading) hosted reading.chain

-- the tablets whose cells tell the levels down to this one have their memories
abbrev pub HaveMemoriesDownTo : LevelKind → Ground → Reading → MemoryAt → Type 0
HaveMemoriesDownTo Metadata = HasRootMemory
HaveMemoriesDownTo Users = HaveUpperMemories
