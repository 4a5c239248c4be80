-- The two upper levels of a running store, as its image and its memories show them.
use Rattle.std.specs.Prelude.{◌≡◌, List, [], ◌∷◌}
use Rattle.host_model.specs.Picture.{Image}
use Rattle.host_model.specs.declared.fault.Stop.{Stop}
use Rattle.host_model.specs.declared.fault.Stop.TheVariants.{Host, Damaged, Full, NoMemory}
use Rattle.metadata_schema.specs.declared.tablet.TabletRecord.{TabletRecord}
use Rattle.level_rows.specs.Chain.{Rows, IsChain}
use Rattle.store_meaning.specs.Ground.{Ground, IsGroundOf}
use Rattle.store_meaning.specs.Levels.{Level, Reading, IsReadingOf, root_rows, metadata_rows, metadata_id}
use Rattle.state_reader.specs.declared.level.LevelKind.TheVariants.{Users}
use Rattle.level_index.specs.Entries.{LevelMap}
use Rattle.level_scan.specs.Tablets.{MemoryAt, HaveMemories}
use Rattle.level_scan.specs.Reads.{IsReadOf, IsAmiss}

-- The image is read so, this is the record of the root tablet, and that has its memory.
pub record ShowsMetadata (image : Image) (hosted : MemoryAt) (root : TabletRecord) (reading : Reading) : Type 0 where
  pub known : Ground
  pub of : IsGroundOf image known
  pub is : IsReadingOf known reading
  pub root_is : root ≡ reading.root
  pub memories : HaveMemories known (root_rows reading) hosted (reading.root ∷ [])

-- The image is read so, this is the level of the metadata table's tablets, and each of these has its memory.
pub record ShowsUsers (image : Image) (hosted : MemoryAt) (metadata : Level) (reading : Reading) : Type 0 where
  pub known : Ground
  pub of : IsGroundOf image known
  pub is : IsReadingOf known reading
  pub metadata_is : metadata ≡ reading.metadata
  pub memories : HaveMemories known (metadata_rows reading) hosted reading.chain

-- the tablets of `!0` of this level
abbrev pub own_rows : Level → Rows
own_rows metadata = metadata.records metadata_id

-- the index has the level that the cells of the chain of `!0` tell
pub record IsUsersRead (image : Image) (hosted : MemoryAt) (metadata : Level) (index : LevelMap) : Type 0 where
  pub chain : List TabletRecord
  pub is : IsChain (own_rows metadata) chain
  pub read : IsReadOf image (own_rows metadata) hosted chain Users index

-- on the chain of `!0` a file is bad, or the cells tell of no level
pub record AreUsersAmiss (image : Image) (hosted : MemoryAt) (metadata : Level) : Type 0 where
  pub chain : List TabletRecord
  pub is : IsChain (own_rows metadata) chain
  pub amiss : IsAmiss image (own_rows metadata) hosted chain Users

-- neither damage nor a full file
abbrev pub IsNoDamage : Stop → Type 0
IsNoDamage (Host fault) = Unit {0}
IsNoDamage (Damaged name) = ⊥
IsNoDamage Full = ⊥
IsNoDamage NoMemory = Unit {0}
