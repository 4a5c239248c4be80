use Rattle.std.proofs.Common.{◌∙◌}
use Rattle.host_model.specs.declared.fault.Stop.TheVariants.{Full}
use Rattle.node_store.specs.declared.changes.NodeStop.TheVariants.{Stop}
use Rattle.ground_store.proofs.DrawLemmas.{own_plan, own_alive, has_drawn, full_not_made, not_full}
use Rattle.ground_store.proofs.ground.Ground.draw_name.Goals as goal

pub returns-in-Ok-multi-clause-drawn : goal.returns-in-Ok-multi-clause-drawn
returns-in-Ok-multi-clause-drawn g c = has_drawn c.in-Ok.plan.0 c.args.self.now.nodes.nodes c.multi.new.self.nodes.nodes c.deref.result.now (own_plan c.self.view_is c.in-Ok.ensures.drawn) (c.deref.ensures.value ∙ c.in-Ok.ensures.ops) c.in-Ok-multi.ensures.nodes

pub returns-in-Ok-multi-clause-full : goal.returns-in-Ok-multi-clause-full
returns-in-Ok-multi-clause-full g c = λ full.
    absurd (not_full c.in-Ok-multi.field-0 (c.in-Ok-multi.ensures.due (own_alive c.self.view_is c.in_default.is) (Stop Full) (full_not_made c.args.self.now.nodes c.in-Ok.plan.0 c.deref.result.now (own_plan c.self.view_is c.in-Ok.ensures.drawn) (c.deref.ensures.value ∙ c.in-Ok.ensures.ops) full)))
