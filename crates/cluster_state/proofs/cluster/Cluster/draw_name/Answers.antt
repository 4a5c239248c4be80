use Rattle.std.proofs.Common.{IsTrue, refl, sym, ◌∙◌, ap, subst}
use Rattle.std.proofs.lemmas.Option.{none-some}
use Rattle.store_meaning.specs.Ground.{Ground}
use Rattle.ground_store.specs.Acts.{Acts, GoesOn, stop_of}
use Rattle.ground_store.specs.Drawing.{Draws, IsDrawn}
use Rattle.cluster_state.specs.Value.{ClusterValue}
use Rattle.cluster_state.specs.Events.{KeepsState}
use Rattle.cluster_state.specs.Station.{IsStationOf, MovesStation}
use Rattle.cluster_state.proofs.Keeps.{acts_keep}
use Rattle.cluster_state.proofs.Results.{holds_unless}
use Rattle.cluster_state.proofs.Stations.{unless}
use Rattle.cluster_state.proofs.Drawn.{may_draw_keeps, draw_keeps, draw_cluster, drawn_station}
use Rattle.cluster_state.proofs.cluster.Cluster.draw_name.Goals as goal

pub invariant_of-self : goal.invariant_of-self
invariant_of-self g c = λ runs. absurd (none-some c.in-Err.stop (sym runs ∙ ap (λ b. b.stopped) c.stop.ensures.kept))

pub invariant_of-self-2 : goal.invariant_of-self-2
invariant_of-self-2 g c = λ runs. draw_cluster g.H.Host.state c.self.inside.base c.draw_name.new.self c.self.inside.servers c.draw_name.result
    c.draw_name.ensures.acts c.in_ok-check.ensures.runs (c.self.invariant c.in_ok-check.ensures.runs) c.draw_name.ensures.drawn c.draw_name.ensures.logs runs

pub returns-clause-keeps : goal.returns-clause-keeps
returns-clause-keeps g c =
    let rest = c.in_ok-check.ensures.rest in
    let base = c.self.inside.base in
    let files = (g.H.Host.state base.host).files in
    let drawn = subst (λ n. IsDrawn n.nodes c.in-Ok.number) c.nodes.ensures c.in-Ok.ensures.number in
    subst (λ (o : ClusterValue g.row.H.Denot). Acts g.H.Host.state KeepsState KeepsState (stop_of c.draw_name.result) o.base c.draw_name.new.self) c.self.view_is
    (acts_keep g.H.Host.state (stop_of c.draw_name.result) (g.met.H.Host.sound base.host) c.draw_name.ensures.acts
    (λ f i may. may_draw_keeps base.nodes rest.named c.in-Ok.number drawn files (rest.stored f) i may)
    (λ f i draws. draw_keeps base.nodes rest.named c.in-Ok.number drawn files (rest.stored f) i draws))

pub returns-clause-station : goal.returns-clause-station
returns-clause-station g c =
    let in_it = c.self.inside in
    let old : ClusterValue g.row.H.Denot = record { base = in_it.base; servers = in_it.servers; book = in_it.book; hosted = in_it.hosted; metadata = in_it.metadata; users = in_it.users } in
    let new : ClusterValue g.row.H.Denot = record old { base = c.draw_name.new.self } in
    let stop = stop_of c.draw_name.result in
    let rest = c.in_ok-check.ensures.rest in
    let files = (g.H.Host.state in_it.base.host).files in
    let now_files = (g.H.Host.state c.draw_name.new.self.host).files in
    let drawn = subst (λ n. IsDrawn n.nodes c.in-Ok.number) c.nodes.ensures c.in-Ok.ensures.number in
    subst (λ (o : ClusterValue g.row.H.Denot). IsTrue (g.H.Host.state o.base.host).is_faithful → MovesStation g.H.Host.state stop o new) c.self.view_is
    (λ f reading catalog known plain is. unless stop ((now : Ground) × IsStationOf g.H.Host.state new reading catalog now plain) (λ none.
    let goes = c.draw_name.ensures.acts.goes is.runs in
    let done = holds_unless stop (Draws in_it.base.nodes files now_files) (goes.done f) none in
    let runs = subst (λ s. GoesOn s c.draw_name.new.self.stopped (g.H.Host.state in_it.base.host) (g.H.Host.state c.draw_name.new.self.host)) none goes.goes_on in
    drawn_station g.H.Host.state reading catalog known plain old new refl is runs in_it.base.nodes rest.named (rest.stored f) done c.in-Ok.number drawn))
