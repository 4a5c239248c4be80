use Rattle.std.proofs.Common.{◌∙◌}
use Rattle.ground_store.specs.Opening.{IsReady}
use Rattle.ground_store.proofs.MakingLemmas.{begins_nothing, ready_weak, nodes_started, nodes_given, nodes_new, first_of, multi_stops}
use Rattle.ground_store.proofs.making.make_nodes.Goals as goal

pub returns-in_err-ops-clause-begins : goal.returns-in_err-ops-clause-begins
returns-in_err-ops-clause-begins g c = begins_nothing IsReady ready_weak (g.met.H.Host.sound c.args.host.now)

pub returns-in_err-store-clause-begins : goal.returns-in_err-store-clause-begins
returns-in_err-store-clause-begins g c = nodes_started c.args.name.now c.requires.name (g.met.H.Host.sound c.args.host.now) c.in_err-store.ensures.alters

pub returns-in-Ok-clause-begins : goal.returns-in-Ok-clause-begins
returns-in-Ok-clause-begins g c =
    let first = first_of c.in_ok-store.store c.deref.result.now c.args.name.now c.in_ok-store.ensures.made c.requires.name (c.deref.ensures.value ∙ c.in_ok-ops.ensures) in
    nodes_given c.args.name.now c.requires.name c.in_ok-store.store c.deref.result.now first (g.met.H.Host.sound c.args.host.now) (g.met.H.Host.sound c.create.new.host) c.in_ok-store.ensures.alters c.in_ok-store.ensures.stored c.in-Ok.ensures.alters

pub returns-in-Ok-clause-new_store : goal.returns-in-Ok-clause-new_store
returns-in-Ok-clause-new_store g c =
    let first = first_of c.in_ok-store.store c.deref.result.now c.args.name.now c.in_ok-store.ensures.made c.requires.name (c.deref.ensures.value ∙ c.in_ok-ops.ensures) in
    nodes_new c.args.name.now c.requires.name c.in_ok-store.store c.deref.result.now first (g.met.H.Host.sound c.args.host.now) (g.met.H.Host.sound c.create.new.host) c.in_ok-store.ensures.alters c.in_ok-store.ensures.stored c.in-Ok.ensures.alters

pub returns-in-Err-Stop-clause-begins : goal.returns-in-Err-Stop-clause-begins
returns-in-Err-Stop-clause-begins g c =
    let first = first_of c.in_ok-store.store c.deref.result.now c.args.name.now c.in_ok-store.ensures.made c.requires.name (c.deref.ensures.value ∙ c.in_ok-ops.ensures) in
    nodes_given c.args.name.now c.requires.name c.in_ok-store.store c.deref.result.now first (g.met.H.Host.sound c.args.host.now) (g.met.H.Host.sound c.create.new.host) c.in_ok-store.ensures.alters c.in_ok-store.ensures.stored c.in-Err-Stop.ensures.alters

pub returns-in-Err-Stop-clause-stops : goal.returns-in-Err-Stop-clause-stops
returns-in-Err-Stop-clause-stops g c =
    rw c.in-Err-Stop.field-0-is (multi_stops c.in-Err-Stop.stop c.in_ok-store.store c.deref.result.now c.args.name.now (g.H.Host.state c.args.host.now) (g.H.Host.state c.create.new.host) (g.H.Host.state c.multi.new.host) c.in_ok-store.ensures.made c.requires.name (c.deref.ensures.value ∙ c.in_ok-ops.ensures) c.in_ok-store.ensures.alters.quiet.keeps (rw c.in-Err-Stop.field-0-is at c.in-Err-Stop.ensures.cause))
