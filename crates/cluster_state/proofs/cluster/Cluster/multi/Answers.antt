use Rattle.std.proofs.Common.{◌≡◌, IfErr, IsTrue, refl, subst}
use Rattle.node_store.specs.Answers.{IsRefusal}
use Rattle.ground_store.specs.Acts.{Acts, stop_in}
use Rattle.ground_store.proofs.EventLemmas.{acts_more}
use Rattle.cluster_state.specs.Value.{ClusterValue}
use Rattle.cluster_state.specs.Changing.{KeepsGiven, MayKeepGiven, StationGiven}
use Rattle.cluster_state.proofs.Changed.{may_give_keeps, gave_keeps, given_station, multi_cluster}
use Rattle.cluster_state.proofs.cluster.Cluster.multi.Goals as goal

pub invariant_of-self : goal.invariant_of-self
invariant_of-self g c = λ runs. multi_cluster g.H.Host.state c.args.ops.now c.self.inside.base c.multi.new.self c.self.inside.servers c.multi.result
    c.multi.ensures.acts c.in_ok-check.ensures.runs (c.self.invariant c.in_ok-check.ensures.runs) c.requires c.multi.ensures.nodes
    (λ stop at refusal. subst (λ r. IfErr r (λ s. IsRefusal s → c.multi.new.self ≡ c.self.inside.base)) at c.multi.ensures.refused refusal)
    c.multi.ensures.logs runs

pub returns-clause-keeps : goal.returns-clause-keeps
returns-clause-keeps g c =
    let rest = c.in_ok-check.ensures.rest in
    let base = c.self.inside.base in
    let files = (g.H.Host.state base.host).files in
    let now_files = (g.H.Host.state c.multi.new.self.host).files in
    subst (λ (o : ClusterValue g.row.H.Denot). Acts g.H.Host.state (MayKeepGiven c.args.ops.now) (KeepsGiven c.args.ops.now c.multi.result) (stop_in c.multi.result) o.base c.multi.new.self) c.self.view_is
    (acts_more g.H.Host.state (MayKeepGiven c.args.ops.now) (KeepsGiven c.args.ops.now c.multi.result) (stop_in c.multi.result) (g.met.H.Host.sound base.host) c.multi.ensures.acts
    (λ f i may. may_give_keeps c.args.ops.now base.nodes rest.named files (rest.stored f) i may)
    (λ f gave. gave_keeps c.args.ops.now base.nodes rest.named files (rest.stored f) now_files c.multi.result gave))

pub returns-clause-station : goal.returns-clause-station
returns-clause-station g c =
    let in_it = c.self.inside in
    let old : ClusterValue g.row.H.Denot = record { base = in_it.base; servers = in_it.servers; book = in_it.book; hosted = in_it.hosted; metadata = in_it.metadata; users = in_it.users } in
    let new : ClusterValue g.row.H.Denot = record old { base = c.multi.new.self } in
    let rest = c.in_ok-check.ensures.rest in
    subst (λ (o : ClusterValue g.row.H.Denot). IsTrue (g.H.Host.state o.base.host).is_faithful → StationGiven g.H.Host.state c.args.ops.now c.multi.result o new) c.self.view_is
    (λ f. given_station g.H.Host.state c.args.ops.now old new in_it.base.nodes c.multi.result refl rest.named (rest.stored f) c.multi.ensures.acts f)
