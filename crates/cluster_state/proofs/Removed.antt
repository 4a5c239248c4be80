-- A log that is taken out and isn't that of a server.
use Rattle.std.proofs.Common.{◌≡◌, ◌≢◌, ℕ, cond, is_some, List, None, Result, Ok, Err, OnOk, sym, ◌∙◌, ap, subst}
use Rattle.std.specs.FinMap as map
use Rattle.std.specs.FinMap.{get-remove}
use Rattle.std.specs.Cmp.Lexicographic.{nat_list_cmp_total}
use Rattle.std.proofs.lemmas.Option.{none-some}
use Rattle.host_model.specs.Picture.{Image}
use Rattle.host_model.specs.State.{HostState}
use Rattle.host_model.specs.declared.fault.Stop.{Stop}
use Rattle.ground_store.specs.Value.{GroundValue, Logs}
use Rattle.ground_store.specs.Acts.{Acts, stop_of}
use Rattle.server_list.specs.Servers.{Servers}
use Rattle.server_nodes.specs.Sessions.{log_of, server_path}
use Rattle.server_nodes.specs.Started.{HasValue}
use Rattle.server_nodes.proofs.PutLemmas.{not_same}
use Rattle.cluster_state.specs.Served.{IsCluster}
use Rattle.cluster_state.specs.Passing.{IsServerLog}

-- the other logs go on
other_log : (logs : Logs) (name log : List ℕ) → log ≢ name → map.get (map.remove logs name) log ≡ map.get logs log
other_log logs name log apart = get-remove nat_list_cmp_total logs name log ∙ ap (λ b. cond b None (map.get logs log)) (not_same name log apart)

removed_cluster : {H : Type 0} (old new : GroundValue H) (servers : Servers) (name : List ℕ) → (IsServerLog name servers → ⊥) → new.nodes ≡ old.nodes → new.logs ≡ map.remove old.logs name → IsCluster old servers → IsCluster new servers
removed_cluster old new servers name others nodes logs is = record {
  served = λ server there.
      let own = is.served server there in
      record {
        node = subst (λ n. HasValue n.nodes (server_path server.name) server.session) (sym nodes) own.node;
        log = ap is_some (ap (λ l. map.get l (log_of server.session)) logs ∙ other_log old.logs name (log_of server.session) (λ at. others (record { server = server; there = there; is = sym at }))) ∙ own.log;
      };
  apart = is.apart;
}

-- so at Ok; at a stop the ground has stopped
pub remove_cluster : {H T : Type 0} (state : H → HostState) {D A : Image → Image → Type 0} (old new : GroundValue H) (servers : Servers) (name : List ℕ) (result : Result T Stop) → Acts state D A (stop_of result) old new → old.stopped ≡ None → IsCluster old servers
    → (IsServerLog name servers → ⊥) → new.nodes ≡ old.nodes → OnOk result (new.logs ≡ map.remove old.logs name) → new.stopped ≡ None → IsCluster new servers
remove_cluster state old new servers name (Ok done) acts ran was others nodes logs runs = removed_cluster old new servers name others nodes logs was
remove_cluster state old new servers name (Err stop) acts ran was others nodes logs runs = absurd (let kept = (acts.goes ran).goes_on in none-some kept.own (sym runs ∙ kept.is))
