use Rattle.std.proofs.Common.{◌∙◌, sym, ap, subst}
use Rattle.host_model.specs.declared.fault.Stop.TheVariants.{Full}
use Rattle.node_store.specs.declared.changes.NodeStop.TheVariants.{Stop}
use Rattle.node_store.specs.Answers.{IsFull}
use Rattle.node_store.specs.Nodes.{multi_applied}
use Rattle.log_writes.proofs.RootLemmas.{sets_root, set_record, stop_cause, not_full, full_or_short}
use Rattle.log_writes.proofs.setting.set_root.Goals as goal

pub returns-in-Err-clause-stops : goal.returns-in-Err-clause-stops
returns-in-Err-clause-stops g c = λ runs. stop_cause c.args.root.now c.args.ground.now.nodes c.in-Err.stop c.stop.result _ _ c.requires.there c.in-Err.ensures.stops c.stop.ensures.again

pub returns-in-Ok-multi-clause-root : goal.returns-in-Ok-multi-clause-root
returns-in-Ok-multi-clause-root g c =
    let ops = c.deref.ensures.value ∙ c.in-Ok.ensures.ops in
    set_record c.args.ground.now.nodes.nodes c.multi.new.self.nodes.nodes c.args.root.now c.requires.root
    (sets_root c.args.ground.now.nodes.nodes c.args.root.now c.multi.new.self.nodes.nodes (ap (λ l. multi_applied l c.args.ground.now.nodes.nodes) (sym ops) ∙ c.in-Ok-multi.ensures.nodes))

pub returns-in-Ok-multi-clause-full : goal.returns-in-Ok-multi-clause-full
returns-in-Ok-multi-clause-full g c = λ runs full.
    let ops = c.deref.ensures.value ∙ c.in-Ok.ensures.ops in
    absurd (not_full c.in-Ok-multi.field-0 (c.in-Ok-multi.ensures.due runs (Stop Full) (subst (λ l. IsFull l c.args.ground.now.nodes) (sym ops) full)))

pub returns-clause-full : goal.returns-clause-full
returns-clause-full g c = λ runs full.
    let ops = c.deref.ensures.value ∙ c.in-Ok.ensures.ops in
    full_or_short c.in-Err-multi.stop c.own_stop.result c.own_stop.ensures (c.in-Err-multi.ensures.due runs (Stop Full) (subst (λ l. IsFull l c.args.ground.now.nodes) (sym ops) full))
