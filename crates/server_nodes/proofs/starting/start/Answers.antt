use Rattle.std.proofs.Common.{◌∙◌, Err, sym, ap, subst}
use Rattle.host_model.specs.declared.fault.Stop.TheVariants.{Full}
use Rattle.node_store.specs.declared.changes.NodeStop.TheVariants.{Stop}
use Rattle.node_store.specs.Nodes.{multi_applied}
use Rattle.node_store.specs.Steps.{MayGive}
use Rattle.ground_store.specs.Acts.{Acts, stop_in}
use Rattle.ground_store.specs.Steps.{Gave}
use Rattle.server_nodes.specs.Starting.{start_ops, IsDrawable, IsStartFull}
use Rattle.server_nodes.proofs.StartLemmas.{never_refused, not_refused, has_started, full_not_made, not_full}
use Rattle.server_nodes.proofs.StartActs.{starts, starts_no_server}
use Rattle.server_nodes.proofs.starting.start.Goals as goal

pub own_stop-requires : goal.own_stop-requires
own_stop-requires g c =
    let drawn = subst (λ n. IsDrawable n.nodes c.in-Ok.plan.number) (c.nodes.ensures ∙ sym c.in_ok-make_log.ensures.nodes) c.in-Ok.ensures.number in
    let ops = c.deref.ensures.value ∙ c.in-Ok.ensures.ops ∙ ap (λ n. start_ops n.nodes c.args.name.now c.in-Ok.plan.number) (c.nodes.ensures ∙ sym c.in_ok-make_log.ensures.nodes) in
    never_refused c.deref.result.now c.make_log.new.self.nodes c.in-Err-multi.stop _ _ (λ stop. not_refused c.make_log.new.self.nodes.nodes c.args.name.now c.in-Ok.plan.number c.deref.result.now stop drawn.next ops)
    (c.in-Err-multi.ensures.stops (c.in_ok-make_log.ensures.acts.goes c.in_ok-check.ensures.runs).goes_on)

pub returns-in-Ok-multi-clause-acts : goal.returns-in-Ok-multi-clause-acts
returns-in-Ok-multi-clause-acts g c =
    starts g.H.Host.state (g.met.H.Host.sound c.args.ground.now.host) c.args.name.now c.in-Ok.plan.number c.in-Ok.plan.log c.deref.result.now (subst (λ n. IsDrawable n.nodes c.in-Ok.plan.number) c.nodes.ensures c.in-Ok.ensures.number) c.in-Ok.ensures.log
    (c.deref.ensures.value ∙ c.in-Ok.ensures.ops ∙ ap (λ n. start_ops n.nodes c.args.name.now c.in-Ok.plan.number) c.nodes.ensures) c.in_ok-make_log.ensures.nodes c.in_ok-make_log.ensures.acts c.in-Ok-multi.ensures.acts

pub returns-in-Ok-multi-clause-started : goal.returns-in-Ok-multi-clause-started
returns-in-Ok-multi-clause-started g c =
    let drawn = subst (λ n. IsDrawable n.nodes c.in-Ok.plan.number) c.nodes.ensures c.in-Ok.ensures.number in
    let ops = c.deref.ensures.value ∙ c.in-Ok.ensures.ops ∙ ap (λ n. start_ops n.nodes c.args.name.now c.in-Ok.plan.number) c.nodes.ensures in
    record {
      number = c.in-Ok.plan.number;
      drawn = drawn;
      is = c.in-Ok.ensures.session;
      nodes = has_started c.args.ground.now.nodes.nodes c.args.name.now c.in-Ok.plan.number c.multi.new.self.nodes.nodes drawn.next
          (ap (λ l. multi_applied l c.args.ground.now.nodes.nodes) (sym ops) ∙ ap (λ n. multi_applied c.deref.result.now n.nodes) (sym c.in_ok-make_log.ensures.nodes) ∙ c.in-Ok-multi.ensures.nodes);
    }

pub returns-in-Ok-multi-clause-full : goal.returns-in-Ok-multi-clause-full
returns-in-Ok-multi-clause-full g c = λ full.
    let same = c.nodes.ensures ∙ sym c.in_ok-make_log.ensures.nodes in
    absurd (not_full c.in-Ok-multi.field-0 (c.in-Ok-multi.ensures.due (c.in_ok-make_log.ensures.acts.goes c.in_ok-check.ensures.runs).goes_on (Stop Full)
    (full_not_made c.args.name.now c.make_log.new.self.nodes c.in-Ok.plan.number c.deref.result.now (subst (λ n. IsDrawable n.nodes c.in-Ok.plan.number) same c.in-Ok.ensures.number)
    (c.deref.ensures.value ∙ c.in-Ok.ensures.ops ∙ ap (λ n. start_ops n.nodes c.args.name.now c.in-Ok.plan.number) same) (subst (IsStartFull c.args.name.now) (sym c.in_ok-make_log.ensures.nodes) full))))

pub returns-in-Err-multi-clause-acts : goal.returns-in-Err-multi-clause-acts
returns-in-Err-multi-clause-acts g c =
    starts_no_server g.H.Host.state (g.met.H.Host.sound c.args.ground.now.host) c.args.name.now c.in-Ok.plan.number c.in-Ok.plan.log c.deref.result.now (subst (λ n. IsDrawable n.nodes c.in-Ok.plan.number) c.nodes.ensures c.in-Ok.ensures.number) c.in-Ok.ensures.log
    (c.deref.ensures.value ∙ c.in-Ok.ensures.ops ∙ ap (λ n. start_ops n.nodes c.args.name.now c.in-Ok.plan.number) c.nodes.ensures) c.in_ok-make_log.ensures.nodes c.in_ok-make_log.ensures.acts
    (subst (λ s. Acts g.H.Host.state (MayGive c.deref.result.now c.make_log.new.self.nodes) (Gave {T = Unit {0}} c.deref.result.now c.make_log.new.self.nodes (Err s)) (stop_in {T = Unit {0}} (Err s)) c.make_log.new.self c.multi.new.self) c.own_stop.ensures c.in-Err-multi.ensures.acts)
