use Rattle.std.proofs.Common.{◌≡◌, true, false, Some, None, IsTrue, sym, ap, subst}
use Rattle.std.specs.Option.{option_map_or}
use Rattle.ground_store.specs.Acts.{Acts}
use Rattle.server_list.specs.Servers.{has_expired, server_named}
use Rattle.cluster_state.specs.Value.{ClusterValue}
use Rattle.cluster_state.specs.Served.{IsCluster}
use Rattle.cluster_state.specs.Events.{KeepsState}
use Rattle.cluster_state.specs.Station.{MovesStation}
use Rattle.cluster_state.specs.Ending.{EndsServer}
use Rattle.cluster_state.proofs.Keeps.{acts_keep}
use Rattle.cluster_state.proofs.Going.{expired_there, node_there, ended_cluster, ended_station}
use Rattle.cluster_state.proofs.cluster.Cluster.end_server.Goals as goal

pub end-requires : goal.end-requires
end-requires g c =
    let in_it = c.self.inside in
    let old : ClusterValue g.row.H.Denot = record { base = in_it.base; servers = in_it.servers; book = in_it.book; hosted = in_it.hosted; metadata = in_it.metadata; users = in_it.users } in
    let gone = expired_there old.servers.clock (server_named c.args.name.now old.servers) (subst (λ (o : ClusterValue g.row.H.Denot). option_map_or (has_expired o.servers.clock) (server_named c.args.name.now o.servers) false ≡ true) (sym c.self.view_is) c.requires) in
    node_there in_it.base c.args.name.now in_it.servers gone.server (c.self.invariant c.in_ok-check.ensures.runs) gone.is

pub returns-in-Err-clause-keeps : goal.returns-in-Err-clause-keeps
returns-in-Err-clause-keeps g c =
    let rest = c.in_ok-check.ensures.rest in
    let law = c.servers_may_be_taken_out.ensures in
    let files = (g.H.Host.state c.self.inside.base.host).files in
    subst (λ (o : ClusterValue g.row.H.Denot). Acts g.H.Host.state KeepsState KeepsState (Some c.in-Err.stop) o.base c.end.new.ground) c.self.view_is
    (acts_keep g.H.Host.state (Some c.in-Err.stop) (g.met.H.Host.sound c.self.inside.base.host) c.in-Err.ensures.acts
    (λ f i may plain is. law.one_inside files i plain is c.args.name.now c.self.inside.base.nodes rest.named (rest.stored f) may)
    (λ f i gives plain is. law.one files i plain is c.args.name.now c.self.inside.base.nodes rest.named (rest.stored f) gives))

pub invariant_of-self : goal.invariant_of-self
invariant_of-self g c = λ runs.
    let in_it = c.self.inside in
    let old : ClusterValue g.row.H.Denot = record { base = in_it.base; servers = in_it.servers; book = in_it.book; hosted = in_it.hosted; metadata = in_it.metadata; users = in_it.users } in
    let gone = expired_there old.servers.clock (server_named c.args.name.now old.servers) (subst (λ (o : ClusterValue g.row.H.Denot). option_map_or (has_expired o.servers.clock) (server_named c.args.name.now o.servers) false ≡ true) (sym c.self.view_is) c.requires) in
    subst (IsCluster c.end.new.ground) (sym c.end-in-Ok.ensures)
    (ended_cluster in_it.base c.end.new.ground c.args.name.now in_it.servers gone.server gone.is (c.self.invariant c.in_ok-check.ensures.runs) c.in-Ok.ensures.nodes c.in-Ok.ensures.logs)

pub returns-in-Ok-clause-keeps : goal.returns-in-Ok-clause-keeps
returns-in-Ok-clause-keeps g c =
    let rest = c.in_ok-check.ensures.rest in
    let law = c.servers_may_be_taken_out.ensures in
    let files = (g.H.Host.state c.self.inside.base.host).files in
    subst (λ (o : ClusterValue g.row.H.Denot). Acts g.H.Host.state KeepsState KeepsState None o.base c.end.new.ground) c.self.view_is
    (acts_keep g.H.Host.state None (g.met.H.Host.sound c.self.inside.base.host) c.in-Ok.ensures.acts
    (λ f i may plain is. law.one_inside files i plain is c.args.name.now c.self.inside.base.nodes rest.named (rest.stored f) may)
    (λ f i gives plain is. law.one files i plain is c.args.name.now c.self.inside.base.nodes rest.named (rest.stored f) gives))

pub returns-in-Ok-clause-station : goal.returns-in-Ok-clause-station
returns-in-Ok-clause-station g c =
    let in_it = c.self.inside in
    let old : ClusterValue g.row.H.Denot = record { base = in_it.base; servers = in_it.servers; book = in_it.book; hosted = in_it.hosted; metadata = in_it.metadata; users = in_it.users } in
    let new : ClusterValue g.row.H.Denot = record old { base = c.end.new.ground; servers = c.end-in-Ok.new.self } in
    let name = c.args.name.now in
    let rest = c.in_ok-check.ensures.rest in
    let gone = expired_there old.servers.clock (server_named name old.servers) (subst (λ (o : ClusterValue g.row.H.Denot). option_map_or (has_expired o.servers.clock) (server_named name o.servers) false ≡ true) (sym c.self.view_is) c.requires) in
    let ends : EndsServer name old new = record {
      nodes = c.in-Ok.ensures.nodes;
      store = c.in-Ok.ensures.name;
      logs = c.in-Ok.ensures.logs;
      rest = ap (λ s. record old { base = c.end.new.ground; servers = s }) c.end-in-Ok.ensures;
    } in
    subst (λ (o : ClusterValue g.row.H.Denot). IsTrue (g.H.Host.state o.base.host).is_faithful → MovesStation g.H.Host.state None o new) c.self.view_is
    (λ f reading catalog known plain is.
    let goes = c.in-Ok.ensures.acts.goes is.runs in
    let ground = c.servers_may_be_taken_out.ensures.ground (g.H.Host.state in_it.base.host).files (g.H.Host.state c.end.new.ground.host).files reading catalog known plain is.of is.kept name in_it.base.nodes rest.named (rest.stored f) (goes.done f) in
    (_, ended_station g.H.Host.state reading catalog known plain name old new ends gone.server gone.at gone.is gone.dead (c.self.invariant is.runs) is goes.goes_on ground))
