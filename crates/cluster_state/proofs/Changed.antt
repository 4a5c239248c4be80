-- Nodes that are changed, none of them the root record's or a server's.
use Rattle.std.proofs.Common.{◌≡◌, ◌≢◌, inl, inr, ⊎_elim, ℕ, true, false, cond, nat_eq, List, [], ◌∷◌, codes, is_some, Option, Some, None, Result, Ok, Err, All, OnOk, IsTrue, refl, sym, ◌∙◌, ap, subst}
use Rattle.std.specs.FinMap as map
use Rattle.std.specs.FinMap.{get-insert, get-remove}
use Rattle.std.specs.List.{starts_with}
use Rattle.std.specs.Cmp.Lexicographic.{nat_list_cmp_total}
use Rattle.std.proofs.lemmas.List.Elements.{All-head, All-tail}
use Rattle.std.proofs.lemmas.Option.{none-some}
use Rattle.host_model.specs.Picture.{Image}
use Rattle.host_model.specs.State.{HostState}
use Rattle.plain_model.specs.State.{PlainState}
use Rattle.node_store.specs.declared.changes.Node.{Node}
use Rattle.node_store.specs.declared.changes.NodeOp.{NodeOp}
use Rattle.node_store.specs.declared.changes.NodeStop.{NodeStop}
use Rattle.node_store.specs.declared.changes.NodeStop.TheVariants as refused
use Rattle.node_store.specs.Answers.{IsRefusal}
use Rattle.node_store.specs.Nodes.{Nodes, turned, path_of, and_then, multi_applied}
use Rattle.node_store.specs.PathsTo.{with_entry}
use Rattle.node_store.specs.Image.{HasNodes, IsStored}
use Rattle.node_store.specs.Steps.{OthersStay, HasApplied, MayGive, Gives}
use Rattle.node_store.specs.Value.{StoreValue}
use Rattle.node_store.proofs.ImageLemmas.{one_nodes, stored_has}
use Rattle.store_layout.specs.Names.{nodes_name}
use Rattle.store_layout.specs.Tables.{Catalog}
use Rattle.store_meaning.specs.Ground.{Ground, with_nodes}
use Rattle.store_meaning.specs.Levels.{Reading}
use Rattle.store_meaning.specs.Kept.{IsKept}
use Rattle.ground_store.specs.Value.{GroundValue}
use Rattle.ground_store.specs.Acts.{Acts, stop_in}
use Rattle.ground_store.specs.Steps.{Gave}
use Rattle.new_files.proofs.KeptFiles.{made_ground, nodes_stayed}
use Rattle.server_list.specs.Servers.{Servers}
use Rattle.server_nodes.specs.Sessions.{log_of, server_path}
use Rattle.server_nodes.proofs.PutLemmas.{not_same}
use Rattle.cluster_state.specs.Value.{ClusterValue}
use Rattle.cluster_state.specs.Served.{IsCluster}
use Rattle.cluster_state.specs.Station.{IsStationOf}
use Rattle.cluster_state.specs.Changing.{IsOfOthers, AreKeptWith, MayKeepGiven, KeepsGiven, AreRightWith, HasStationWith, StationGiven}
use Rattle.cluster_state.proofs.OpenLogs.{still_has}
use Rattle.cluster_state.proofs.Moved.{moved_station}

-- ---- nodes

-- an entry leaves the other paths
entry_elsewhere : (nodes : Nodes) (path : List ℕ) (after : Option Node) (other : List ℕ) → other ≢ path → map.get (with_entry nodes path after) other ≡ map.get nodes other
entry_elsewhere nodes path None other apart = get-remove nat_list_cmp_total nodes path other ∙ ap (λ b. cond b None (map.get nodes other)) (not_same path other apart)
entry_elsewhere nodes path (Some node) other apart = get-insert nat_list_cmp_total nodes path node other ∙ ap (λ b. cond b (Some node) (map.get nodes other)) (not_same path other apart)

-- a path of which no change is stays
pub path_stays : (ops : List NodeOp) (nodes after : Nodes) (path : List ℕ) → ((op : NodeOp) → IsOfOthers op → path ≢ path_of op) → All IsOfOthers ops → multi_applied ops nodes ≡ Ok after → map.get after path ≡ map.get nodes path
path_stays [] nodes after path apart others made = let same : nodes ≡ after = cc in ap (λ n. map.get n path) (sym same)
path_stays (op ∷ more) nodes after path apart others made = by (turned op (map.get nodes (path_of op))) refl (path_stays more)
  where
    by : (result : Result (Option Node) NodeStop) → turned op (map.get nodes (path_of op)) ≡ result
        → ((nodes after : Nodes) (path : List ℕ) → ((op : NodeOp) → IsOfOthers op → path ≢ path_of op) → All IsOfOthers more → multi_applied more nodes ≡ Ok after → map.get after path ≡ map.get nodes path)
        → map.get after path ≡ map.get nodes path
    by (Ok one) is rest =
        let made_more : multi_applied more (with_entry nodes (path_of op) one) ≡ Ok after = sym (ap (λ r. and_then (and_then r (λ left. Ok (with_entry nodes (path_of op) left))) (λ left. multi_applied more left)) is) ∙ made in
        rest (with_entry nodes (path_of op) one) after path apart (All-tail IsOfOthers op more others) made_more ∙ entry_elsewhere nodes (path_of op) one path (apart op (All-head IsOfOthers op more others))
    by (Err stop) is rest = absurd (let refused = ap (λ r. and_then (and_then r (λ left. Ok (with_entry nodes (path_of op) left))) (λ left. multi_applied more left)) is in let wrong = sym refused ∙ made in cc)

-- a server's node is none of theirs
server_apart : (name : List ℕ) (op : NodeOp) → IsOfOthers op → server_path name ≢ path_of op
server_apart name op others at = let wrong : true ≡ false = ap (λ path. starts_with nat_eq path (codes "/servers/")) at ∙ others.servers in cc

-- ---- what is true of each cluster

changed_cluster : {H : Type 0} (ops : List NodeOp) (old new : GroundValue H) (servers : Servers) → All IsOfOthers ops → multi_applied ops old.nodes.nodes ≡ Ok new.nodes.nodes → new.logs ≡ old.logs → IsCluster old servers → IsCluster new servers
changed_cluster ops old new servers others made logs is = record {
  served = λ server there.
      let own = is.served server there in
      record {
        node = still_has old.nodes.nodes new.nodes.nodes (server_path server.name) server.session (path_stays ops old.nodes.nodes new.nodes.nodes (server_path server.name) (server_apart server.name) others made) own.node;
        log = subst (λ l. is_some (map.get l (log_of server.session)) ≡ true) (sym logs) own.log;
      };
  apart = is.apart;
}

-- at Ok so; where the changes are refused nothing changes, and at another stop the ground has stopped
pub multi_cluster : {H T : Type 0} (state : H → HostState) {D A : Image → Image → Type 0} (ops : List NodeOp) (old new : GroundValue H) (servers : Servers) (result : Result T NodeStop) → Acts state D A (stop_in result) old new → old.stopped ≡ None
    → IsCluster old servers → All IsOfOthers ops → OnOk result (multi_applied ops old.nodes.nodes ≡ Ok new.nodes.nodes) → ((stop : NodeStop) → result ≡ Err stop → IsRefusal stop → new ≡ old) → new.logs ≡ old.logs → new.stopped ≡ None → IsCluster new servers
multi_cluster state ops old new servers (Ok done) acts ran was others made refuses logs runs = changed_cluster ops old new servers others made logs was
multi_cluster state ops old new servers (Err refused.Exists) acts ran was others made refuses logs runs = subst (λ g. IsCluster g servers) (sym (refuses refused.Exists refl tt)) was
multi_cluster state ops old new servers (Err refused.Missing) acts ran was others made refuses logs runs = subst (λ g. IsCluster g servers) (sym (refuses refused.Missing refl tt)) was
multi_cluster state ops old new servers (Err (refused.Version found)) acts ran was others made refuses logs runs = subst (λ g. IsCluster g servers) (sym (refuses (refused.Version found) refl tt)) was
multi_cluster state ops old new servers (Err (refused.Stop stop)) acts ran was others made refuses logs runs = absurd (let kept = (acts.goes ran).goes_on in none-some kept.own (sym runs ∙ kept.is))

-- ---- images

module _ (ops : List NodeOp) (store : StoreValue) (named : store.name ≡ nodes_name) (old : Image) (stored : IsStored store old) (new : Image) where
  own_nodes : (plain : PlainState) (is : IsKept old plain) → store.nodes ≡ is.known.nodes
  own_nodes plain is = one_nodes nodes_name old store.nodes is.known.nodes (subst (λ n. HasNodes n old store.nodes) named (stored_has store old stored)) is.of.nodes

  applied_kept : (before after : PlainState) (is : IsKept old before) → AreKeptWith ops is.known after → OthersStay store.name old new → HasApplied ops store new → IsKept new after
  applied_kept before after is given others applied =
      let kept = given applied.after (subst (λ nodes. multi_applied ops nodes ≡ Ok applied.after) (own_nodes before is) applied.applies) in
      record {
        known = with_nodes is.known applied.after;
        of = made_ground old is.reading is.catalog is.known before is.of is.kept store named stored new applied.after others applied.has;
        reading = kept.reading;
        catalog = kept.catalog;
        kept = kept.kept;
      }

  pub may_give_keeps : MayGive ops store old new → MayKeepGiven ops old new
  may_give_keeps may before after is given = ⊎_elim
      (λ keeps. inl (nodes_stayed old is.reading is.catalog is.known before is.of is.kept store named stored new may.others keeps.has))
      (λ applied. inr (applied_kept before after is given may.others applied))
      (may.nodes stored)

  pub gave_keeps : {T : Type 0} (result : Result T NodeStop) → Gave ops store result old new → KeepsGiven ops result old new
  gave_keeps (Ok done) gives = λ before after is given. applied_kept before after is given gives.others (gives.nodes stored)
  gave_keeps (Err stop) stays = stays

-- ---- the station

module _ {H : Type 0} (state : H → HostState) (ops : List NodeOp) (reading : Reading) (catalog : Catalog) (known : Ground) (plain : PlainState) (old new : ClusterValue H) (beside : new ≡ record old { base = new.base })
    (is : IsStationOf state old reading catalog known plain) (store : StoreValue) (named : store.name ≡ nodes_name) (stored : IsStored store (state old.base.host).files) where
  same_nodes : store.nodes ≡ known.nodes
  same_nodes = one_nodes nodes_name (state old.base.host).files store.nodes known.nodes (subst (λ n. HasNodes n (state old.base.host).files store.nodes) named (stored_has store (state old.base.host).files stored)) is.of.nodes

  pub changed_station : (tables : Catalog) (after : PlainState) → AreRightWith ops reading tables known after old.servers.list → new.base.stopped ≡ None → Gives ops store (state old.base.host).files (state new.base.host).files
      → HasStationWith state ops new reading tables known after
  changed_station tables after right runs gives =
      let applied = gives.nodes stored in
      let made : multi_applied ops known.nodes ≡ Ok applied.after = subst (λ nodes. multi_applied ops nodes ≡ Ok applied.after) same_nodes applied.applies in
      let now = right applied.after made in
      record {
        nodes = applied.after;
        made = made;
        station = moved_station state reading catalog known plain old new beside is runs (with_nodes known applied.after) tables after
            (record { files = λ path used. refl; logs = λ log named. refl })
            now.logs
            (made_ground (state old.base.host).files reading catalog known plain is.of is.kept store named stored (state new.base.host).files applied.after gives.others applied.has)
            now.kept;
      }

-- so at Ok
pub given_station : {H T : Type 0} (state : H → HostState) (ops : List NodeOp) (old new : ClusterValue H) (store : StoreValue) (result : Result T NodeStop) → new ≡ record old { base = new.base } → store.name ≡ nodes_name → IsStored store (state old.base.host).files
    → Acts state (MayGive ops store) (Gave ops store result) (stop_in result) old.base new.base → IsTrue (state old.base.host).is_faithful → StationGiven state ops result old new
given_station state ops old new store (Ok done) beside named stored acts faithful reading catalog known plain is tables after right =
    let goes = acts.goes is.runs in
    changed_station state ops reading catalog known plain old new beside is store named stored tables after right goes.goes_on (goes.done faithful)
given_station state ops old new store (Err stop) beside named stored acts faithful reading catalog known plain is tables after right = tt
