use Rattle.ground_store.specs.Acts.{stop_of}
use Rattle.server_nodes.specs.Ending.{clear_ops, servers_in, GivesAny}
use Rattle.server_nodes.specs.Grounds.{IsGroundWithout}
use Rattle.cluster_state.proofs.Keeps.{acts_keep}
use Rattle.cluster_state.proofs.Results.{on_ok, holds_unless}
use Rattle.cluster_state.proofs.opening.take_servers_out.Goals as goal

pub returns-clause-keeps : goal.returns-clause-keeps
returns-clause-keeps g c =
    let rest = c.in_ok-check.ensures.rest in
    let law = c.servers_may_be_taken_out.ensures in
    let old = c.args.ground.now in
    let files = (g.H.Host.state old.host).files in
    let acts = acts_keep g.H.Host.state (stop_of c.clear.result) (g.met.H.Host.sound old.host) c.clear.ensures.acts
    (λ f i may plain is. law.all_inside files i plain is old.nodes rest.named (rest.stored f) may)
    (λ f i gives plain is. law.all files i plain is old.nodes rest.named (rest.stored f) gives) in
    let goes = acts.goes c.in_ok-check.ensures.runs in
    record { quiet = goes.quiet; tried = goes.tried; leaves = goes.leaves }

pub returns-clause-left : goal.returns-clause-left
returns-clause-left g c = λ f known reading catalog plain of kept.
    let rest = c.in_ok-check.ensures.rest in
    let old = c.args.ground.now in
    let files = (g.H.Host.state old.host).files in
    let now = (g.H.Host.state c.clear.new.ground.host).files in
    let goes = c.clear.ensures.acts.goes c.in_ok-check.ensures.runs in
    on_ok c.clear.result (IsGroundWithout (servers_in old.nodes.nodes) reading catalog known plain now) (λ none.
    c.servers_may_be_taken_out.ensures.grounds files now reading catalog known plain of kept old.nodes rest.named (rest.stored f)
    (holds_unless (stop_of c.clear.result) (GivesAny (clear_ops old.nodes.nodes) old.nodes files now) (goes.done f) none))
