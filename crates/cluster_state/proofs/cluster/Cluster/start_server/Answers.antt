use Rattle.std.proofs.Common.{◌≡◌, false, IsTrue, refl, sym, subst}
use Rattle.node_store.proofs.ImageLemmas.{one_nodes, stored_has}
use Rattle.node_store.specs.Image.{HasNodes}
use Rattle.store_layout.specs.Names.{nodes_name}
use Rattle.ground_store.specs.Acts.{Acts, GoesOn, stop_of}
use Rattle.server_list.specs.Servers.{is_listed}
use Rattle.server_nodes.specs.Starting.{Starts}
use Rattle.cluster_state.specs.Value.{ClusterValue}
use Rattle.cluster_state.specs.Events.{KeepsState}
use Rattle.cluster_state.specs.Station.{IsStationOf, MovesStation}
use Rattle.store_meaning.specs.Ground.{Ground}
use Rattle.cluster_state.specs.Starting.{StartsIn, StartsServer}
use Rattle.cluster_state.proofs.Keeps.{acts_keep}
use Rattle.cluster_state.proofs.Results.{at_ok, holds_unless}
use Rattle.cluster_state.proofs.Starts.{start_cluster}
use Rattle.cluster_state.proofs.Started.{started_station}
use Rattle.cluster_state.proofs.Stations.{unless}
use Rattle.cluster_state.proofs.cluster.Cluster.start_server.Goals as goal

pub invariant_of-self : goal.invariant_of-self
invariant_of-self g c = λ runs.
    let in_it = c.self.inside in
    let old : ClusterValue g.row.H.Denot = record { base = in_it.base; servers = in_it.servers; book = in_it.book; hosted = in_it.hosted; metadata = in_it.metadata; users = in_it.users } in
    start_cluster g.H.Host.state c.args.name.now in_it.base c.start_in.new.ground in_it.servers c.start_in.new.servers c.start_in.result c.start_in.ensures.acts c.in_ok-check.ensures.runs
    (subst (λ (o : ClusterValue g.row.H.Denot). is_listed c.args.name.now o.servers ≡ false) (sym c.self.view_is) c.requires) (c.self.invariant c.in_ok-check.ensures.runs) c.start_in.ensures.starts runs

pub returns-clause-keeps : goal.returns-clause-keeps
returns-clause-keeps g c =
    let rest = c.in_ok-check.ensures.rest in
    let law = c.a_server_may_start.ensures in
    let files = (g.H.Host.state c.self.inside.base.host).files in
    subst (λ (o : ClusterValue g.row.H.Denot). Acts g.H.Host.state KeepsState KeepsState (stop_of c.start_in.result) o.base c.start_in.new.ground) c.self.view_is
    (acts_keep g.H.Host.state (stop_of c.start_in.result) (g.met.H.Host.sound c.self.inside.base.host) c.start_in.ensures.acts
    (λ f i may plain is. law.inside files i plain is c.args.name.now c.self.inside.base.nodes rest.named (rest.stored f) may)
    (λ f i starts plain is. law.done files i plain is c.args.name.now c.self.inside.base.nodes rest.named (rest.stored f) starts))

pub returns-clause-station : goal.returns-clause-station
returns-clause-station g c =
    let in_it = c.self.inside in
    let old : ClusterValue g.row.H.Denot = record { base = in_it.base; servers = in_it.servers; book = in_it.book; hosted = in_it.hosted; metadata = in_it.metadata; users = in_it.users } in
    let new : ClusterValue g.row.H.Denot = record old { base = c.start_in.new.ground; servers = c.start_in.new.servers } in
    let name = c.args.name.now in
    let stop = stop_of c.start_in.result in
    let rest = c.in_ok-check.ensures.rest in
    let files = (g.H.Host.state in_it.base.host).files in
    let now_files = (g.H.Host.state c.start_in.new.ground.host).files in
    subst (λ (o : ClusterValue g.row.H.Denot). IsTrue (g.H.Host.state o.base.host).is_faithful → MovesStation g.H.Host.state stop o new) c.self.view_is
    (λ f reading catalog known plain is. unless stop ((now : Ground) × IsStationOf g.H.Host.state new reading catalog now plain) (λ none.
    let goes = c.start_in.ensures.acts.goes is.runs in
    let starts : StartsServer name old new = record { starts = at_ok c.start_in.result (StartsIn name in_it.base in_it.servers c.start_in.new.ground c.start_in.new.servers) c.start_in.ensures.starts none; rest = refl } in
    let done = holds_unless stop (Starts name in_it.base.nodes files now_files) (goes.done f) none in
    let ground = c.a_server_may_start.ensures.ground files now_files reading catalog known plain is.of is.kept name in_it.base.nodes rest.named (rest.stored f) done in
    let same_nodes = one_nodes nodes_name files known.nodes in_it.base.nodes.nodes is.of.nodes (subst (λ n. HasNodes n files in_it.base.nodes.nodes) rest.named (stored_has in_it.base.nodes files (rest.stored f))) in
    let runs = subst (λ s. GoesOn s c.start_in.new.ground.stopped (g.H.Host.state in_it.base.host) (g.H.Host.state c.start_in.new.ground.host)) none goes.goes_on in
    (_, started_station g.H.Host.state reading catalog known plain name old new starts is same_nodes runs ground)))
