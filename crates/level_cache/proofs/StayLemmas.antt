-- What holds of files behind a call that only looked.
use Rattle.std.proofs.Common.{◌≡◌, Option, Some, None, IsTrue, refl, sym, ap, subst}
use Rattle.host_model.specs.Picture.{Image}
use Rattle.host_model.specs.State.{HostState}
use Rattle.host_model.specs.declared.fault.Stop.{Stop}
use Rattle.host_model.proofs.CallsLemmas.{still_faithful}
use Rattle.store_meaning.specs.Ground.{Ground, IsGroundOf}
use Rattle.store_meaning.specs.Levels.{Reading}
use Rattle.ground_store.specs.Value.{GroundValue}
use Rattle.ground_store.specs.Acts.{Acts}
use Rattle.ground_store.specs.Steps.{Stays}
use Rattle.level_cache.specs.Cached.{CachedLevels}
use Rattle.level_cache.specs.Shown.{ShowsLevels}

module _ {H : Type 0} (state : H → HostState) {stop : Option Stop} {a b : GroundValue H} (acts : Acts state Stays Stays stop a b) (f : IsTrue (state a.host).is_faithful) where
  -- the files are as they were
  pub files_stay : (state b.host).files ≡ (state a.host).files
  files_stay = by a.stopped refl
    where
      by : (o : Option Stop) → a.stopped ≡ o → (state b.host).files ≡ (state a.host).files
      by None e = (acts.goes e).tried f
      by (Some own) e = ap (λ (g : GroundValue H). (state g.host).files) (acts.stays own e).same

  pub faithful_still : IsTrue (state b.host).is_faithful
  faithful_still = by a.stopped refl
    where
      by : (o : Option Stop) → a.stopped ≡ o → IsTrue (state b.host).is_faithful
      by None e = still_faithful (acts.goes e).quiet.keeps f
      by (Some own) e = subst (λ (g : GroundValue H). IsTrue (state g.host).is_faithful) (sym (acts.stays own e).same) f

  pub ground_stays : (known : Ground) → IsGroundOf (state a.host).files known → IsGroundOf (state b.host).files known
  ground_stays known of = subst (λ (image : Image). IsGroundOf image known) (sym files_stay) of

  -- what was read shows the same
  pub shows_still : (cache : CachedLevels) (reading : Reading) (known : Ground) → ShowsLevels (state a.host).files cache reading known → ShowsLevels (state b.host).files cache reading known
  shows_still cache reading known shows = subst (λ (image : Image). ShowsLevels image cache reading known) (sym files_stay) shows
