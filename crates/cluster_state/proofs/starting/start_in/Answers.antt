use Rattle.std.proofs.Common.{◌≡◌, OnOk, ◌∙◌, ap, subst}
use Rattle.node_store.specs.Value.{StoreValue}
use Rattle.ground_store.specs.Acts.{stop_of}
use Rattle.server_list.specs.Servers.{started}
use Rattle.cluster_state.proofs.Results.{err_weaker}
use Rattle.cluster_state.proofs.Starts.{listed_acts, listed_starts, list_cause}
use Rattle.cluster_state.proofs.starting.start_in.Goals as goal

pub returns-clause-acts : goal.returns-clause-acts
returns-clause-acts g c = listed_acts g.H.Host.state c.args.name.now (stop_of c.list_server.result) (g.met.H.Host.sound c.args.ground.now.host) c.in_ok-session.ensures.acts c.list_server.ensures.acts

pub returns-clause-starts : goal.returns-clause-starts
returns-clause-starts g c =
    let listed = subst (λ own. OnOk c.list_server.result (c.list_server.new.servers ≡ started own c.in_ok-session.session c.args.servers.now)) c.in-Ok.ensures.ok c.list_server.ensures.listed in
    listed_starts c.args.name.now c.in_ok-session.session c.args.ground.now c.start.new.ground c.list_server.new.ground c.args.servers.now c.list_server.new.servers c.list_server.result
    c.list_server.ensures.ok c.list_server.ensures.fresh listed c.in_ok-session.ensures.started c.in_ok-session.ensures.logs

pub returns-clause-name : goal.returns-clause-name
returns-clause-name g c = ap (λ (s : StoreValue). s.name) c.list_server.ensures.same.0 ∙ c.in_ok-session.ensures.name

pub returns-clause-stops : goal.returns-clause-stops
returns-clause-stops g c = err_weaker c.list_server.result
    (list_cause c.args.name.now c.in_ok-session.session c.args.ground.now.nodes c.start.new.ground.nodes c.args.servers.now (g.H.Host.state c.args.ground.now.host) (g.H.Host.state c.list_server.new.ground.host) c.in_ok-session.ensures.started)
    c.list_server.ensures.stops
