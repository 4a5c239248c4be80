use Rattle.std.proofs.Common.{subst}
use Rattle.node_store.specs.Value.{StoreValue}
use Rattle.store_meaning.specs.Levels.{IsRootRecord}
use Rattle.level_scan.specs.Causes.{RootStop}
use Rattle.level_cache.proofs.RootLemmas.{root_is, root_undamaged, root_again}
use Rattle.level_cache.proofs.root.root_tablet.Goals as goal

pub returns-in-Ok-clause-told : goal.returns-in-Ok-clause-told
returns-in-Ok-clause-told g c = λ f reading known of is.
    (let rest = c.in_ok-check.ensures.rest in
    root_is (g.H.Host.state c.args.ground.now.host).files c.args.ground.now.nodes rest.named (rest.stored f) known reading of is c.in-Ok.root
    (subst (λ (store : StoreValue). IsRootRecord store.nodes c.in-Ok.root) c.nodes.ensures c.in-Ok.ensures.ok))

pub returns-in-Err-clause-undamaged : goal.returns-in-Err-clause-undamaged
returns-in-Err-clause-undamaged g c = λ runs f reading known of is.
    (let rest = c.in_ok-check.ensures.rest in
    let nodes = c.args.ground.now.nodes in
    root_undamaged (g.H.Host.state c.args.ground.now.host).files nodes rest.named (rest.stored f) known reading of is c.stop.result
    (root_again nodes.nodes c.in-Err.stop c.stop.result (subst (λ (store : StoreValue). RootStop store.nodes c.in-Err.stop) c.nodes.ensures c.in-Err.ensures.stops) c.stop.ensures.again))
