-- Levels that were read, over a reading.
use Rattle.std.proofs.Common.{◌≡◌, ℕ, List, Option, Some, None, Result, Ok, Err, All, Contains, refl, sym, ap, subst}
use Rattle.std.proofs.lemmas.List.Elements.{All-weaker, All-contains_itself}
use Rattle.std.specs.Option.{IfSome, IsSome, option_and_then}
use Rattle.std.specs.Result.{IfOk}
use Rattle.std.proofs.lemmas.Bool.{false≢true}
use Rattle.host_model.specs.Picture.{Image}
use Rattle.host_model.specs.declared.fault.Stop.{Stop}
use Rattle.row_keys.specs.MetadataRow.{IsTabletName}
use Rattle.metadata_schema.specs.declared.tablet.TabletRecord.{TabletRecord}
use Rattle.store_meaning.specs.Ground.{Ground, IsGroundOf}
use Rattle.store_meaning.specs.Levels.{Level, Reading, IsReadingOf, IsRecordAt}
use Rattle.state_reader.specs.declared.level.LevelKind.{LevelKind}
use Rattle.state_reader.specs.declared.level.LevelKind.TheVariants.{Metadata, Users}
use Rattle.level_index.specs.Entries.{LevelMap, level_of}
use Rattle.level_index.specs.Lists.{AreRecordsOf}
use Rattle.level_scan.specs.Tablets.{MemoryAt}
use Rattle.level_scan.specs.Levels.{ShowsMetadata, ShowsUsers}
use Rattle.level_cache.specs.Cached.{CachedLevels, kept_level}
use Rattle.level_cache.specs.Shown.{TellsLevel, ShowsLevels, HasRootMemory, HaveUpperMemories, level_in}
use Rattle.level_cache.specs.Tables.{AreRecordsAt}

module _ (image : Image) (cache : CachedLevels) (reading : Reading) (known : Ground) (shows : ShowsLevels image cache reading known) where
  pub tells : (kind : LevelKind) → IfSome (kept_level kind cache) (TellsLevel kind (level_in reading kind))
  tells Metadata = shows.metadata
  tells Users = shows.users

  -- with a level more
  pub with_metadata : (index : LevelMap) → TellsLevel Metadata reading.metadata index → ShowsLevels image (record cache { metadata = Some index }) reading known
  with_metadata index told = record { of = shows.of; is = shows.is; metadata = told; users = shows.users }

  pub with_users : (index : LevelMap) → TellsLevel Users reading.users index → ShowsLevels image (record cache { users = Some index }) reading known
  with_users index told = record { of = shows.of; is = shows.is; metadata = shows.metadata; users = told }

  -- the level of the metadata table's tablets is there
  module _ (index : LevelMap) (read : cache.metadata ≡ Some index) where
    pub metadata_tells : TellsLevel Metadata reading.metadata index
    metadata_tells = subst (λ o. IfSome o (TellsLevel Metadata reading.metadata)) read shows.metadata

    pub shows_users : (hosted : MemoryAt) → HaveUpperMemories known reading hosted → ShowsUsers image hosted (level_of index) reading
    shows_users hosted have = record { known = known; of = shows.of; is = shows.is; metadata_is = metadata_tells.is; memories = have.1 }

pub shows_metadata : (image : Image) (hosted : MemoryAt) (root : TabletRecord) (reading : Reading) (known : Ground) → IsGroundOf image known → IsReadingOf known reading → root ≡ reading.root → HasRootMemory known reading hosted → ShowsMetadata image hosted root reading
shows_metadata image hosted root reading known of is same have = record { known = known; of = of; is = is; root_is = same; memories = have }

-- a level of a kind that was read
pub told : (kind : LevelKind) (level : Level) (r : Result LevelMap Stop) → IfOk r (λ index. index.kind ≡ kind) → IfOk r (λ index. level_of index ≡ level) → IfOk r (TellsLevel kind level)
told kind level (Ok index) of is = record { kind_is = of; is = is }
told kind level (Err stop) of is = tt

-- what a level that is there tells
module _ (kind : LevelKind) (level : Level) where
  pub found_at : (kept : Option LevelMap) → IfSome kept (TellsLevel kind level) → IsSome kept → (table : List ℕ) (end : Option (List ℕ)) → option_and_then (λ (index : LevelMap). (level_of index).records table end) kept ≡ level.records table end
  found_at None told there table end = absurd (false≢true there)
  found_at (Some index) told there table end = ap (λ (l : Level). l.records table end) told.is

  pub listed_at : (kept : Option LevelMap) → IfSome kept (TellsLevel kind level) → IsSome kept → (table : List ℕ) (records : List TabletRecord) → IfSome kept (λ index. AreRecordsOf (level_of index) table records) → AreRecordsAt (level.records table) records
  listed_at None told there table records are = absurd (false≢true there)
  listed_at (Some index) told there table records are = subst (λ (l : Level). AreRecordsAt (l.records table) records) told.is (record { each = are.each; order = are.order })

  -- what is told of a level that is there
  pub kept_has : (P : Level → Type 0) (kept : Option LevelMap) → IfSome kept (TellsLevel kind level) → IsSome kept → IfSome kept (λ index. P (level_of index)) → P level
  kept_has P None told there has = absurd (false≢true there)
  kept_has P (Some index) told there has = subst P told.is has

-- each record of a table is one of its form
pub listed_forms : (level : Level) (table : List ℕ) (records : List TabletRecord) → AreRecordsOf level table records → All (λ (tablet : TabletRecord). IsRecordAt table tablet.end tablet) records
listed_forms level table records are =
    All-weaker (Contains records) (λ (tablet : TabletRecord). IsRecordAt table tablet.end tablet) (λ tablet has. are.forms tablet.end tablet ((are.each tablet).0 has)) records (All-contains_itself records)

-- each is one of its own table's form
pub own_forms : (table : List ℕ) (records : List TabletRecord) → All (λ (tablet : TabletRecord). IsRecordAt table tablet.end tablet) records → All (λ (tablet : TabletRecord). IsRecordAt tablet.table tablet.end tablet) records
own_forms table records all =
    All-weaker (λ (tablet : TabletRecord). IsRecordAt table tablet.end tablet) (λ (tablet : TabletRecord). IsRecordAt tablet.table tablet.end tablet)
    (λ tablet at. record { name = subst (λ (id : List ℕ). IsTabletName id tablet.end) (sym at.table_is) at.name; table_is = refl; end_is = refl; form = at.form }) records all
