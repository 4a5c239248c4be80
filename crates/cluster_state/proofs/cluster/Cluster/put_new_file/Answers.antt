use Rattle.std.proofs.Common.{IsTrue, refl, subst}
use Rattle.store_meaning.specs.Ground.{Ground}
use Rattle.ground_store.specs.Acts.{Acts, GoesOn, stop_of}
use Rattle.new_files.specs.Putting.{PutsNew}
use Rattle.cluster_state.specs.Value.{ClusterValue}
use Rattle.cluster_state.specs.Events.{KeepsState}
use Rattle.cluster_state.specs.Station.{IsStationOf, MovesStation}
use Rattle.cluster_state.proofs.Keeps.{acts_keep}
use Rattle.cluster_state.proofs.Results.{holds_unless}
use Rattle.cluster_state.proofs.Stations.{unless}
use Rattle.cluster_state.proofs.Written.{file_cluster, written_station}
use Rattle.cluster_state.proofs.cluster.Cluster.put_new_file.Goals as goal

pub invariant_of-self : goal.invariant_of-self
invariant_of-self g c = λ runs. file_cluster g.H.Host.state c.args.table.now c.args.dir.now c.args.kind c.args.cells.now c.self.inside.base c.put_new_file.new.ground c.self.inside.servers c.put_new_file.result
    c.put_new_file.ensures.acts c.in_ok-check.ensures.runs (c.self.invariant c.in_ok-check.ensures.runs) c.put_new_file.ensures.file c.put_new_file.ensures.logs runs

pub returns-clause-keeps : goal.returns-clause-keeps
returns-clause-keeps g c =
    let rest = c.in_ok-check.ensures.rest in
    let law = c.a_new_file_may_be_written.ensures in
    let base = c.self.inside.base in
    let files = (g.H.Host.state base.host).files in
    subst (λ (o : ClusterValue g.row.H.Denot). Acts g.H.Host.state KeepsState KeepsState (stop_of c.put_new_file.result) o.base c.put_new_file.new.ground) c.self.view_is
    (acts_keep g.H.Host.state (stop_of c.put_new_file.result) (g.met.H.Host.sound base.host) c.put_new_file.ensures.acts
    (λ f i may plain is. law.inside files i plain is c.args.table.now c.args.dir.now c.args.kind base.nodes rest.named (rest.stored f) c.bytes_of.ensures.form c.requires.dir may)
    (λ f i puts plain is. law.done files i plain is c.args.table.now c.args.dir.now c.args.kind c.args.cells.now base.nodes rest.named (rest.stored f) c.bytes_of.ensures.form c.requires.dir puts))

pub returns-clause-station : goal.returns-clause-station
returns-clause-station g c =
    let in_it = c.self.inside in
    let old : ClusterValue g.row.H.Denot = record { base = in_it.base; servers = in_it.servers; book = in_it.book; hosted = in_it.hosted; metadata = in_it.metadata; users = in_it.users } in
    let new : ClusterValue g.row.H.Denot = record old { base = c.put_new_file.new.ground } in
    let stop = stop_of c.put_new_file.result in
    let rest = c.in_ok-check.ensures.rest in
    let files = (g.H.Host.state in_it.base.host).files in
    let now_files = (g.H.Host.state c.put_new_file.new.ground.host).files in
    subst (λ (o : ClusterValue g.row.H.Denot). IsTrue (g.H.Host.state o.base.host).is_faithful → MovesStation g.H.Host.state stop o new) c.self.view_is
    (λ f reading catalog known plain is. unless stop ((now : Ground) × IsStationOf g.H.Host.state new reading catalog now plain) (λ none.
    let goes = c.put_new_file.ensures.acts.goes is.runs in
    let done = holds_unless stop (PutsNew c.args.table.now c.args.dir.now c.args.kind c.args.cells.now in_it.base.nodes files now_files) (goes.done f) none in
    let written = c.a_new_file_may_be_written.ensures.told files now_files reading catalog known plain is.of is.kept c.args.table.now c.args.dir.now c.args.kind c.args.cells.now in_it.base.nodes rest.named (rest.stored f) c.bytes_of.ensures.form c.requires.dir done in
    let runs = subst (λ s. GoesOn s c.put_new_file.new.ground.stopped (g.H.Host.state in_it.base.host) (g.H.Host.state c.put_new_file.new.ground.host)) none goes.goes_on in
    (_, written_station g.H.Host.state reading catalog known plain c.args.table.now c.args.dir.now c.args.kind c.args.cells.now old new refl is runs written)))
