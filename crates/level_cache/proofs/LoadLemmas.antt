-- What holds of levels behind a call that read one, and behind a stop for want of memory.
use Rattle.std.proofs.Common.{◌≡◌, None, Result, sym, subst}
use Rattle.std.specs.Result.{IfErr}
use Rattle.std.proofs.lemmas.Result.{IfErr-weaker}
use Rattle.host_model.specs.State.{HostState}
use Rattle.host_model.specs.declared.fault.Stop.{Stop}
use Rattle.node_store.specs.Nodes.{Nodes}
use Rattle.store_meaning.specs.Ground.{Ground}
use Rattle.store_meaning.specs.Levels.{Reading}
use Rattle.ground_store.specs.Value.{GroundValue}
use Rattle.ground_store.specs.Steps.{Stays}
use Rattle.ground_store.specs.Acts.{Acts}
use Rattle.level_scan.specs.Tablets.{MemoryAt}
use Rattle.level_cache.specs.Cached.{CachedLevels}
use Rattle.level_cache.specs.Shown.{ShowsLevels}
use Rattle.level_cache.specs.Causes.{MetadataStop, LevelsStop}
use Rattle.level_cache.proofs.BehindLemmas.{ran, keeps_on}
use Rattle.level_cache.proofs.CauseLemmas.{metadata_before}
use Rattle.level_cache.proofs.StayLemmas.{files_stay}

module _ {H : Type 0} (state : H → HostState) where
  -- the levels show the same where the host is the same
  pub shows_same : (cache : CachedLevels) (reading : Reading) (known : Ground) {a b : H} → b ≡ a → ShowsLevels (state a).files cache reading known → ShowsLevels (state b).files cache reading known
  shows_same cache reading known same shows = subst (λ (h : H). ShowsLevels (state h).files cache reading known) (sym same) shows

  -- why the second call of two stopped, of which the first only looked
  pub second_stops : {T : Type 0} (nodes now : Nodes) (hosted : MemoryAt) (cache : CachedLevels) (r : Result T Stop) {a b : GroundValue H} (new : HostState) → Acts state Stays Stays None a b → now ≡ nodes
      → IfErr r (λ stop. MetadataStop now hosted stop (state b.host) new) → IfErr r (λ stop. LevelsStop nodes hosted cache stop (state a.host) new)
  second_stops nodes now hosted cache r {a} {b} new acts same causes =
      IfErr-weaker r _ _ (λ stop cause. metadata_before nodes hosted cache stop (state a.host) (state b.host) new (keeps_on state acts (ran state acts)) (λ f. files_stay state acts f) (subst (λ (n : Nodes). MetadataStop n hosted stop (state b.host) new) same cause)) causes
