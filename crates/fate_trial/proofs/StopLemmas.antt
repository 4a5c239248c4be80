-- Why calls on a site stop.
use Rattle.std.proofs.Common.{◌≡◌, ⊎_elim, ℕ, List, Result, Ok, Err, sym, ap, subst, arith}
use Rattle.std.specs.Prelude.{IfErr}
use Rattle.host_model.specs.State.{HostState}
use Rattle.host_model.specs.declared.fault.Stop.{Stop}
use Rattle.host_model.specs.declared.fault.Stop.TheVariants.{Host, Damaged, Full, NoMemory}
use Rattle.node_store.specs.declared.changes.NodeOp.{NodeOp}
use Rattle.node_store.specs.declared.changes.NodeStop.{NodeStop}
use Rattle.node_store.specs.declared.changes.NodeStop.TheVariants as node
use Rattle.node_store.specs.Answers.{AnswersOrNoMemory}
use Rattle.fate_trial.specs.declared.site.Site.{Site}
use Rattle.fate_trial.specs.Stops.{Fails, SiteStops, Failed}

-- where changes failed, the call stops for them
pub changes_stop : {H : Type 0} (state : H → HostState) (changes : List NodeOp → Type 0) (refuses : Stop → Type 0) (old new : Site H) {T : Type 0} (did : Result T Stop) (ops given : List NodeOp)
    → given ≡ ops → changes ops → IfErr did (λ stop. Fails state given stop old new) → IfErr did (λ stop. SiteStops state changes refuses stop old new)
changes_stop state changes refuses old new (Ok done) ops given same are fails = tt
changes_stop state changes refuses old new (Err stop) ops given same are fails = Failed given (subst (λ l. changes l) (sym same) are) fails

-- 1 for the answers of a multi that has no room
abbrev pub full_code : {T : Type 0} → Result T NodeStop → ℕ
full_code (Ok done) = 0
full_code (Err node.Exists) = 0
full_code (Err node.Missing) = 0
full_code (Err (node.Version found)) = 0
full_code (Err (node.Stop (Host fault))) = 0
full_code (Err (node.Stop (Damaged name))) = 0
full_code (Err (node.Stop Full)) = 1
full_code (Err (node.Stop NoMemory)) = 1

-- a multi that has no room answers nothing else
pub has_room : {T : Type 0} {r : Result T NodeStop} → AnswersOrNoMemory (Err (node.Stop Full)) r → full_code r ≡ 0 → ⊥
has_room due other = omega (arith, other, ⊎_elim (λ e. ap full_code e) (λ e. ap full_code e) due.either)
