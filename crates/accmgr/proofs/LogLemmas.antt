-- A log that was made may be appended to.
use Rattle.std.proofs.Common.{◌≡◌, ℕ, List, cond, Some, IsSome, refl, sym, ◌∙◌, ap, subst}
use Rattle.std.specs.FinMap as map
use Rattle.std.specs.FinMap.{get-insert}
use Rattle.std.specs.Cmp.{eq_by_cmp_equiv}
use Rattle.std.specs.Cmp.Lexicographic.{nat_list_cmp_total}
use Rattle.log_files.specs.Value.{LogValue}
use Rattle.ground_store.specs.Value.{Logs}

pub made_is_there : (old new : Logs) (log : List ℕ) (value : LogValue) → new ≡ map.insert old log value → IsSome (map.get new log)
made_is_there old new log value made =
    subst IsSome (sym (ap (λ logs. map.get logs log) made ∙ get-insert nat_list_cmp_total old log value log ∙ ap (λ t. cond t (Some value) (map.get old log)) ((eq_by_cmp_equiv nat_list_cmp_total).refl log))) refl
