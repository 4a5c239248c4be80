-- Why a level isn't there, from why a part of it wasn't read.
use Rattle.std.proofs.Common.{◌≡◌, ◌⊎◌, inl, inr, ℕ, List, [], ◌∷◌, Some, IsTrue, sym, subst}
use Rattle.host_model.specs.Picture.{Image}
use Rattle.host_model.specs.State.{HostState}
use Rattle.host_model.specs.Calls.{Keeps}
use Rattle.host_model.specs.declared.fault.Stop.{Stop}
use Rattle.host_model.specs.declared.fault.Stop.TheVariants.{Host, Damaged, Full, NoMemory}
use Rattle.host_model.proofs.CallsLemmas.{faulted-then, still_faithful}
use Rattle.metadata_schema.specs.declared.tablet.TabletRecord.{TabletRecord}
use Rattle.level_rows.specs.Chain.{Rows}
use Rattle.node_store.specs.Nodes.{Nodes}
use Rattle.store_meaning.specs.Levels.{IsRootRecord}
use Rattle.state_reader.specs.declared.level.LevelKind.{LevelKind}
use Rattle.state_reader.specs.declared.level.LevelKind.TheVariants.{Metadata, Users}
use Rattle.state_reader.specs.Reads.{alone}
use Rattle.level_index.specs.Entries.{LevelMap, level_of}
use Rattle.level_scan.specs.Tablets.{MemoryAt}
use Rattle.level_scan.specs.Reads.{IsFirstBadOf, LacksFirst, TellNoLevel}
use Rattle.level_scan.specs.Causes.{RootStop, Blames, BlamesChain, BlamesOnChain, LevelStop, UsersStop}
use Rattle.level_scan.specs.Levels.{own_rows, IsNoDamage}
use Rattle.level_cache.specs.Cached.{CachedLevels}
use Rattle.level_cache.specs.Causes.{MetadataStop, LevelsStop}

-- ---- the level of the metadata table's tablets

module _ (nodes : Nodes) (hosted : MemoryAt) where
  pub root_metadata : (stop : Stop) (old new : HostState) → RootStop nodes stop → MetadataStop nodes hosted stop old new
  root_metadata (Host fault) old new cause = absurd cause
  root_metadata (Damaged name) old new cause = inl (record { named = cause.0; lacks = cause.1 })
  root_metadata Full old new cause = cause
  root_metadata NoMemory old new cause = tt

  pub level_metadata : (root : TabletRecord) → IsRootRecord nodes root → (stop : Stop) (old new : HostState) → LevelStop (alone root) hosted (root ∷ []) Metadata stop old new → MetadataStop nodes hosted stop old new
  level_metadata root is (Host fault) old new cause = cause
  level_metadata root is (Damaged name) old new cause = inr (record { root = root; is = is; blames = cause })
  level_metadata root is Full old new cause = cause
  level_metadata root is NoMemory old new cause = tt

  -- ---- all levels

  pub metadata_levels : (cache : CachedLevels) (stop : Stop) (old new : HostState) → MetadataStop nodes hosted stop old new → LevelsStop nodes hosted cache stop old new
  metadata_levels cache (Host fault) old new cause = cause
  metadata_levels cache (Damaged name) old new (inl root) = inl root
  metadata_levels cache (Damaged name) old new (inr on) = inr (inl on)
  metadata_levels cache Full old new cause = cause
  metadata_levels cache NoMemory old new cause = tt

  pub root_levels : (cache : CachedLevels) (stop : Stop) (old new : HostState) → RootStop nodes stop → LevelsStop nodes hosted cache stop old new
  root_levels cache stop old new cause = metadata_levels cache stop old new (root_metadata stop old new cause)

  -- behind calls that only looked
  blames_before : (rows : Rows) (chain : List TabletRecord) (kind : LevelKind) (name : List ℕ) (a b : HostState) → Keeps a b → (IsTrue a.is_faithful → b.files ≡ a.files) → Blames rows hosted chain kind name b → Blames rows hosted chain kind name a
  blames_before rows chain kind name a b keeps same (inl (inl file)) = inl (inl (record {
    named = file.named;
    first = λ f. subst (λ (image : Image). IsFirstBadOf image rows hosted chain name) (same f) (file.first (still_faithful keeps f));
  }))
  blames_before rows chain kind name a b keeps same (inl (inr memory)) = inl (inr (record {
    named = memory.named;
    lacks = memory.lacks;
    first = λ f. subst (λ (image : Image). LacksFirst image rows hosted chain) (same f) (memory.first (still_faithful keeps f));
  }))
  blames_before rows chain kind name a b keeps same (inr cells) = inr (record {
    named = cells.named;
    none = λ f. subst (λ (image : Image). TellNoLevel image rows hosted chain kind) (same f) (cells.none (still_faithful keeps f));
  })

  pub metadata_before : (cache : CachedLevels) (stop : Stop) (a b c : HostState) → Keeps a b → (IsTrue a.is_faithful → b.files ≡ a.files) → MetadataStop nodes hosted stop b c → LevelsStop nodes hosted cache stop a c
  metadata_before cache (Host fault) a b c keeps same cause = (cause.0, faulted-then keeps cause.1)
  metadata_before cache (Damaged name) a b c keeps same (inl root) = inl root
  metadata_before cache (Damaged name) a b c keeps same (inr on) = inr (inl (record { root = on.root; is = on.is; blames = blames_before (alone on.root) (on.root ∷ []) Metadata name a b keeps same on.blames }))
  metadata_before cache Full a b c keeps same cause = cause
  metadata_before cache NoMemory a b c keeps same cause = tt

  users_before : (rows : Rows) (name : List ℕ) (a b : HostState) → Keeps a b → (IsTrue a.is_faithful → b.files ≡ a.files) → BlamesChain rows name ⊎ BlamesOnChain rows hosted Users name b → BlamesChain rows name ⊎ BlamesOnChain rows hosted Users name a
  users_before rows name a b keeps same (inl chain) = inl chain
  users_before rows name a b keeps same (inr on) = inr (record { chain = on.chain; is = on.is; blames = blames_before rows on.chain Users name a b keeps same on.blames })

  pub users_levels : (cache : CachedLevels) (index : LevelMap) → cache.metadata ≡ Some index → (stop : Stop) (a b c : HostState) → Keeps a b → (IsTrue a.is_faithful → b.files ≡ a.files) → UsersStop (own_rows (level_of index)) hosted stop b c → LevelsStop nodes hosted cache stop a c
  users_levels cache index read (Host fault) a b c keeps same cause = (cause.0, faulted-then keeps cause.1)
  users_levels cache index read (Damaged name) a b c keeps same cause = inr (inr (record { index = index; read = read; blames = users_before (own_rows (level_of index)) name a b keeps same cause }))
  users_levels cache index read Full a b c keeps same cause = cause
  users_levels cache index read NoMemory a b c keeps same cause = tt

-- ---- want of memory

pub none_levels : (nodes : Nodes) (hosted : MemoryAt) (cache : CachedLevels) (stop : Stop) (old new : HostState) → stop ≡ NoMemory → LevelsStop nodes hosted cache stop old new
none_levels nodes hosted cache stop old new is = subst (λ s. LevelsStop nodes hosted cache s old new) (sym is) tt

pub none_undamaged : (stop : Stop) → stop ≡ NoMemory → IsNoDamage stop
none_undamaged stop is = subst IsNoDamage (sym is) tt
