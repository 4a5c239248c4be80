-- What is true of each cluster that runs, where its ground changes.
use Rattle.std.proofs.Common.{◌≡◌, Option, Some, None, refl, sym, ◌∙◌, ap, subst}
use Rattle.std.proofs.lemmas.Option.{none-some}
use Rattle.host_model.specs.declared.fault.Stop.{Stop}
use Rattle.ground_store.specs.Value.{GroundValue}
use Rattle.ground_store.specs.Acts.{StaysStopped}
use Rattle.server_list.specs.Servers.{Servers}
use Rattle.cluster_state.specs.Served.{AreServed, IsCluster}

-- a ground that runs behind a call ran before it
pub was_running : {H : Type 0} {stop : Option Stop} (x y : GroundValue H) → ((own : Stop) → x.stopped ≡ Some own → StaysStopped own stop x y) → y.stopped ≡ None → x.stopped ≡ None
was_running x y stays runs = by x.stopped refl
  where
    by : (stopped : Option Stop) → x.stopped ≡ stopped → x.stopped ≡ None
    by None is = is
    by (Some own) is = absurd (none-some own (sym runs ∙ ap (λ g. g.stopped) (stays own is).same ∙ is))

-- the same nodes and logs
pub same_cluster : {H : Type 0} (x y : GroundValue H) (servers : Servers) → y.nodes ≡ x.nodes → y.logs ≡ x.logs → IsCluster x servers → IsCluster y servers
same_cluster x y servers nodes logs is = record {
  served = subst (λ n. AreServed n.nodes y.logs servers.list) (sym nodes) (subst (λ l. AreServed x.nodes.nodes l servers.list) (sym logs) is.served);
  apart = is.apart;
}

-- so behind a call that leaves both
pub same_runs : {H : Type 0} {stop : Option Stop} (x y : GroundValue H) (servers : Servers) → (x.stopped ≡ None → IsCluster x servers) → ((own : Stop) → x.stopped ≡ Some own → StaysStopped own stop x y)
    → y.nodes ≡ x.nodes → y.logs ≡ x.logs → y.stopped ≡ None → IsCluster y servers
same_runs x y servers was stays nodes logs runs = same_cluster x y servers nodes logs (was (was_running x y stays runs))
