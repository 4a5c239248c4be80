use Rattle.std.proofs.Common.{refl}
use Rattle.ground_store.proofs.MultiLemmas.{rests_given, multi_gives, multi_fails}
use Rattle.ground_store.proofs.ground.Ground.multi.Goals as goal

pub invariant_of-self : goal.invariant_of-self
invariant_of-self g c = λ alive. rests_given c.args.ops.now c.multi.new.self c.self.inside.nodes (g.met.H.Host.sound c.self.inside.host) (c.self.invariant alive) c.multi.ensures.name (λ f. c.in-Ok.ensures.stored f) c.in-Ok.ensures.alters

pub returns-in-Ok-clause-acts : goal.returns-in-Ok-clause-acts
returns-in-Ok-clause-acts g c = multi_gives g.H.Host.state c.self.view_is c.in_default.is (g.met.H.Host.sound c.self.inside.host) (c.self.invariant c.in_default.is) c.args.ops.now _ c.in_default.is c.in-Ok.ensures.alters

pub returns-in-Err-clause-acts : goal.returns-in-Err-clause-acts
returns-in-Err-clause-acts g c =
    multi_fails g.H.Host.state c.self.view_is c.in_default.is (g.met.H.Host.sound c.self.inside.host) (c.self.invariant c.in_default.is) c.args.ops.now c.in-Err.stop c.keep_stop.result Unit _ c.keep_stop.ensures refl c.in-Err.ensures.untouched c.in-Err.ensures.cause c.in-Err.ensures.alters
