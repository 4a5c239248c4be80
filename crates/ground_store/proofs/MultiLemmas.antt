-- A multi, as an action of a ground.
use Rattle.std.proofs.Common.{◌≡◌, inl, List, Option, None, Ok, Err, IsTrue, refl, sym, ◌∙◌, ap, subst}
use Rattle.host_model.specs.Picture.{Image}
use Rattle.host_model.specs.State.{HostState}
use Rattle.host_model.specs.Calls.{IsSound}
use Rattle.host_model.specs.Alters.{Alters}
use Rattle.host_model.specs.declared.fault.Stop as stop
use Rattle.host_model.specs.declared.fault.Stop.TheVariants.{Host, Damaged, Full, NoMemory}
use Rattle.host_model.proofs.CallsLemmas.{was_faithful, was_honest}
use Rattle.node_store.specs.declared.changes.NodeOp.{NodeOp}
use Rattle.node_store.specs.declared.changes.NodeStop.{NodeStop}
use Rattle.node_store.specs.declared.changes.NodeStop.TheVariants.{Exists, Missing, Version, Stop}
use Rattle.node_store.specs.Value.{StoreValue}
use Rattle.node_store.specs.Image.{IsNodeFile, IsStored}
use Rattle.node_store.specs.Steps.{MayGive, Gives}
use Rattle.node_store.specs.Answers.{MultiCause, IsEarly}
use Rattle.node_store.proofs.ImageLemmas.{stored_has}
use Rattle.ground_store.specs.Value.{Logs, GroundValue, IsAtRest}
use Rattle.ground_store.specs.Steps.{Stays, Gave}
use Rattle.ground_store.specs.Acts.{Acts, KeepsStopOf, IsCounted, stop_in}
use Rattle.store_layout.proofs.NameLemmas.{log_is_no_nodes}
use Rattle.ground_store.proofs.ActLemmas.{rests_on, acts_done, acts_stopped, acts_still}

may_stay : (ops : List NodeOp) (store : StoreValue) (image : Image) → MayGive ops store image image
may_stay ops store image = record { others = record { each = λ q other. refl }; nodes = λ stored. inl (record { has = stored_has store image stored; unborn = λ unborn. unborn }) }

-- after a multi
pub rests_given : (ops : List NodeOp) (later nodes : StoreValue) {logs : Logs} {a b : HostState} {T E : Type 0} {u : T} → IsSound a → IsAtRest nodes logs a → later.name ≡ nodes.name → (IsTrue b.is_faithful → IsStored later b.files)
    → Alters (IsNodeFile nodes.name) (MayGive ops nodes) (Gives ops nodes) {T = T} {E = E} (Ok u) a b → IsAtRest later logs b
rests_given ops later nodes sound rest same stored alters =
    rests_on later rest (was_faithful alters.quiet.keeps) (same ∙ rest.named) stored
    (λ f log is. (alters.done (was_faithful alters.quiet.keeps f)).others.each log (λ own. log_is_no_nodes log is (sym (own ∙ rest.named))))
    (λ h. let first = was_honest alters.quiet.keeps h in alters.rests first (rest.settled first))

multi_counted : (ops : List NodeOp) (store : StoreValue) (own : stop.Stop) (a b : HostState) → MultiCause ops store (Stop own) a b → IsCounted own a b
multi_counted ops store (Host fault) a b cause = cause.1
multi_counted ops store (Damaged name) a b cause = tt
multi_counted ops store Full a b cause = tt
multi_counted ops store NoMemory a b cause = tt

module _ {H : Type 0} (state : H → HostState) {old : GroundValue H} {before : H} {nodes : StoreValue} {logs : Logs} {stopped : Option stop.Stop} (is : record { host = before; nodes = nodes; logs = logs; stopped = stopped } ≡ old) (alive : stopped ≡ None) (sound : IsSound (state before))
    (rest : IsAtRest nodes logs (state before)) (ops : List NodeOp) where
  pub multi_done : {T E : Type 0} {u : T} (new : GroundValue H) → new.stopped ≡ None → Alters (IsNodeFile nodes.name) (MayGive ops nodes) (Gives ops nodes) {T = T} {E = E} (Ok u) (state before) (state new.host) → Acts state (MayGive ops nodes) (Gives ops nodes) None old new
  multi_done new runs alters = acts_done state is alive sound rest new runs alters (may_stay ops nodes)

  refused : (answer : NodeStop) (T : Type 0) (new : GroundValue H) (e : NodeStop) → answer ≡ e → stop_in {T = T} (Err e) ≡ None → new.host ≡ before → new.stopped ≡ None
      → Acts state (MayGive ops nodes) (Gave {T = T} ops nodes (Err answer)) (stop_in {T = T} (Err answer)) old new
  refused answer T new e same none host runs =
      subst (λ (s : Option stop.Stop). Acts state (MayGive ops nodes) Stays s old new) (sym (ap (λ (a : NodeStop). stop_in {T = T} (Err a)) same ∙ none)) (acts_still state is alive sound rest new host runs (may_stay ops nodes) (λ i. refl))

  -- one that is refused, or stops
  pub multi_failed : (e : NodeStop) {later : Option stop.Stop} (answer : NodeStop) (T : Type 0) (new : GroundValue H) → KeepsStopOf e stopped later answer → new.stopped ≡ later → (IsEarly e → new.host ≡ before) → MultiCause ops nodes e (state before) (state new.host)
      → Alters (IsNodeFile nodes.name) (MayGive ops nodes) (Gives ops nodes) {T = T} (Err e) (state before) (state new.host)
      → Acts state (MayGive ops nodes) (Gave {T = T} ops nodes (Err answer)) (stop_in {T = T} (Err answer)) old new
  multi_failed Exists answer T new keeps has same cause alters = refused answer T new Exists keeps.0 refl (same tt) (has ∙ keeps.1 ∙ alive)
  multi_failed Missing answer T new keeps has same cause alters = refused answer T new Missing keeps.0 refl (same tt) (has ∙ keeps.1 ∙ alive)
  multi_failed (Version found) answer T new keeps has same cause alters = refused answer T new (Version found) keeps.0 refl (same tt) (has ∙ keeps.1 ∙ alive)
  multi_failed (Stop own) answer T new keeps has same cause alters =
      subst (λ (a : NodeStop). Acts state (MayGive ops nodes) (Gave {T = T} ops nodes (Err a)) (stop_in {T = T} (Err a)) old new) (sym keeps.1.1)
      (acts_stopped state is alive sound rest Stays new (has ∙ keeps.0) keeps.1.2 (multi_counted ops nodes own (state before) (state new.host) cause) alters (may_stay ops nodes))

-- the same, of the nodes that the value had
module _ {H : Type 0} (state : H → HostState) {old : GroundValue H} {before : H} {nodes : StoreValue} {logs : Logs} {stopped : Option stop.Stop} (is : record { host = before; nodes = nodes; logs = logs; stopped = stopped } ≡ old) (alive : stopped ≡ None) (sound : IsSound (state before))
    (rest : IsAtRest nodes logs (state before)) (ops : List NodeOp) where
  pub multi_gives : {T E : Type 0} {u : T} (new : GroundValue H) → new.stopped ≡ None → Alters (IsNodeFile nodes.name) (MayGive ops nodes) (Gives ops nodes) {T = T} {E = E} (Ok u) (state before) (state new.host) → Acts state (MayGive ops old.nodes) (Gives ops old.nodes) None old new
  multi_gives new runs alters = subst (λ (o : GroundValue H). Acts state (MayGive ops o.nodes) (Gives ops o.nodes) None o new) is (multi_done state refl alive sound rest ops new runs alters)

  pub multi_fails : (e : NodeStop) {later : Option stop.Stop} (answer : NodeStop) (T : Type 0) (new : GroundValue H) → KeepsStopOf e stopped later answer → new.stopped ≡ later → (IsEarly e → new.host ≡ before) → MultiCause ops nodes e (state before) (state new.host)
      → Alters (IsNodeFile nodes.name) (MayGive ops nodes) (Gives ops nodes) {T = T} (Err e) (state before) (state new.host)
      → Acts state (MayGive ops old.nodes) (Gave {T = T} ops old.nodes (Err answer)) (stop_in {T = T} (Err answer)) old new
  multi_fails e answer T new keeps has same cause alters =
      subst (λ (o : GroundValue H). Acts state (MayGive ops o.nodes) (Gave {T = T} ops o.nodes (Err answer)) (stop_in {T = T} (Err answer)) o new) is (multi_failed state refl alive sound rest ops e answer T new keeps has same cause alters)
