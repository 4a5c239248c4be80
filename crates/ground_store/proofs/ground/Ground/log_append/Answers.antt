use Rattle.ground_store.proofs.LogLemmas.{append_acts, append_stopped, rests_appended}
use Rattle.ground_store.proofs.ground.Ground.log_append.Goals as goal

pub invariant_of-self : goal.invariant_of-self
invariant_of-self g c = λ alive. rests_appended g.H.Host.state c.self.view_is alive (g.met.H.Host.sound c.self.inside.host) (c.self.invariant alive) c.args.log.now c.args.framed.now c.requires c.in-Ok.ensures.ok c.in-Ok.ensures.stores (λ f. c.in-Ok.ensures.opened f)

pub returns-in-Ok-clause-acts : goal.returns-in-Ok-clause-acts
returns-in-Ok-clause-acts g c = append_acts g.H.Host.state c.self.view_is c.in_default.is (g.met.H.Host.sound c.self.inside.host) (c.self.invariant c.in_default.is) c.args.log.now c.args.framed.now c.requires _ c.in_default.is c.in-Ok.ensures.stores

pub returns-in-Err-clause-acts : goal.returns-in-Err-clause-acts
returns-in-Err-clause-acts g c =
    append_stopped g.H.Host.state c.self.view_is c.in_default.is (g.met.H.Host.sound c.self.inside.host) (c.self.invariant c.in_default.is) c.args.log.now c.args.framed.now c.requires _ c.keep.ensures.kept c.keep.ensures.again c.in-Err.ensures.stops c.in-Err.ensures.stores
