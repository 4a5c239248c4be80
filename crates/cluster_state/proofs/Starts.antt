-- How a server that was started is listed.
use Rattle.std.proofs.Common.{◌≡◌, ℕ, List, Option, None, Result, Ok, Err, OnOk, false, inr, sym, ◌∙◌, ap, subst}
use Rattle.std.specs.FinMap as map
use Rattle.std.proofs.lemmas.Option.{none-some}
use Rattle.host_model.specs.Picture.{Image}
use Rattle.host_model.specs.State.{HostState}
use Rattle.host_model.specs.Calls.{IsSound}
use Rattle.host_model.specs.declared.fault.Stop.{Stop}
use Rattle.host_model.specs.declared.fault.Stop.TheVariants.{Host, Damaged, Full, NoMemory}
use Rattle.node_store.specs.Value.{StoreValue}
use Rattle.ground_store.specs.Value.{GroundValue}
use Rattle.ground_store.specs.Acts.{Acts, stop_of}
use Rattle.ground_store.specs.Steps.{Stays}
use Rattle.ground_store.proofs.EventLemmas.{acts_then}
use Rattle.server_list.specs.Servers.{Servers, is_listed, server_of, started}
use Rattle.server_nodes.specs.Sessions.{log_of}
use Rattle.server_nodes.specs.Starting.{MayStart, Starts}
use Rattle.server_nodes.specs.Started.{IsStarted}
use Rattle.cluster_state.specs.Served.{IsCluster}
use Rattle.cluster_state.specs.Starting.{ListCause, StartsIn, StartServerCause, IsInList}
use Rattle.cluster_state.proofs.Started.{started_cluster}

-- a server that was started might have been left so
started_may : (name : List ℕ) (store : StoreValue) (old new : Image) → Starts name store old new → MayStart name store old new
started_may name store old new starts = inr (inr (record {
  number = starts.number;
  drawn = starts.drawn;
  made = starts.made;
  log = starts.log;
  gives = record { others = starts.gives.others; nodes = λ stored. inr (starts.gives.nodes stored) };
}))

-- the list doesn't change the files
pub listed_acts : {H : Type 0} (state : H → HostState) (name : List ℕ) (stop : Option Stop) {x y z : GroundValue H} → IsSound (state x.host) → Acts state (MayStart name x.nodes) (Starts name x.nodes) None x y → Acts state Stays Stays stop y z
    → Acts state (MayStart name x.nodes) (Starts name x.nodes) stop x z
listed_acts state name stop {x} {y} {z} sound starts lists = acts_then state (MayStart name x.nodes) (Starts name x.nodes) sound starts lists
    (λ f i may. may)
    (λ f done i stays. subst (MayStart name x.nodes (state x.host).files) (sym stays) (started_may name x.nodes (state x.host).files (state y.host).files done))
    (λ f done stays. subst (Starts name x.nodes (state x.host).files) (sym stays) done)

-- it stands in the list
pub listed_starts : {H T : Type 0} (name session : List ℕ) (old middle new : GroundValue H) (servers after : Servers) (result : Result T Stop) → OnOk result (new ≡ middle) → OnOk result (server_of session servers ≡ None)
    → OnOk result (after ≡ started name session servers) → IsStarted name session old.nodes.nodes middle.nodes.nodes → middle.logs ≡ map.insert old.logs (log_of session) (record { name = log_of session; end = 0 })
    → OnOk result (StartsIn name old servers new after)
listed_starts name session old middle new servers after (Ok done) same fresh list drawn logs = record {
  session = session;
  drawn = subst (λ (g : GroundValue _). IsStarted name session old.nodes.nodes g.nodes.nodes) (sym same) drawn;
  fresh = fresh;
  logs = ap (λ (g : GroundValue _). g.logs) same ∙ logs;
  list = list;
}
listed_starts name session old middle new servers after (Err stop) same fresh list drawn logs = tt

-- why it doesn't
pub list_cause : (name session : List ℕ) (store middle : StoreValue) (servers : Servers) (old new : HostState) → IsStarted name session store.nodes middle.nodes → (stop : Stop) → ListCause session servers stop → StartServerCause name store servers stop old new
list_cause name session store middle servers old new drawn (Host fault) cause = absurd cause
list_cause name session store middle servers old new drawn (Damaged file) cause =
    (cause.0, inr (record { number = drawn.number; drawn = drawn.drawn; listed = subst (λ s. IsInList s servers) drawn.is cause.1 }))
list_cause name session store middle servers old new drawn Full cause = absurd cause
list_cause name session store middle servers old new drawn NoMemory cause = tt

-- the cluster then
pub start_cluster : {H T : Type 0} (state : H → HostState) {D A : Image → Image → Type 0} (name : List ℕ) (old new : GroundValue H) (servers after : Servers) (result : Result T Stop) → Acts state D A (stop_of result) old new → old.stopped ≡ None
    → is_listed name servers ≡ false → IsCluster old servers → OnOk result (StartsIn name old servers new after) → new.stopped ≡ None → IsCluster new after
start_cluster state name old new servers after (Ok done) acts ran unlisted was starts runs = started_cluster name old new servers after unlisted starts was
start_cluster state name old new servers after (Err stop) acts ran unlisted was starts runs = absurd (let kept = (acts.goes ran).goes_on in none-some kept.own (sym runs ∙ kept.is))
