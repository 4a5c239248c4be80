use Rattle.std.proofs.Common.{◌<◌, ◌^◌, ◌∙◌, false, None, refl, sym, ap, subst, arith}
use Rattle.node_store.specs.declared.changes.NodeOp.TheVariants.{Delete}
use Rattle.fate_trial.specs.Layout.{slot_path, has, Applies}
use Rattle.fate_trial.specs.Stops.{never}
use Rattle.fate_trial.specs.Towers.{TakeChanges}
use Rattle.fate_trial.proofs.StopLemmas.{changes_stop}
use Rattle.fate_trial.proofs.SiteLemmas.{site_nodes}
use Rattle.fate_trial.proofs.PartLemmas.{part_acts, part_still, delete_applies}
use Rattle.fate_trial.proofs.works.take.Goals as goal

pub returns-clause-acts : goal.returns-clause-acts
returns-clause-acts g c =
    part_still c.args.part c.args.tid false (g.met.H.Host.sound c.args.env.now.host)
    (λ f. ap (λ n. has n c.args.part c.args.tid) (site_nodes g.H.Host.state c.args.env.now c.requires.live c.in_ok-going.ensures.runs f) ∙ sym c.in_ok-is_there.ensures ∙ c.if-branch.false)

pub change-requires-clause-applies : goal.change-requires-clause-applies
change-requires-clause-applies g c =
    let small : c.args.tid < 2 ^ 64 = omega arith in
    subst (λ l. Applies l c.args.env.now.nodes.nodes) (sym (c.deref.ensures.value ∙ c.in_ok-ops.ensures)) (delete_applies c.args.env.now.nodes.nodes c.args.part c.args.tid small (sym c.in_ok-is_there.ensures ∙ c.if-branch.true))

pub returns-then-branch-clause-acts : goal.returns-then-branch-clause-acts
returns-then-branch-clause-acts g c =
    let small : c.args.tid < 2 ^ 64 = omega arith in
    part_acts c.args.part c.args.tid small (Delete (slot_path c.args.part c.args.tid) None) false c.deref.result.now (c.deref.ensures.value ∙ c.in_ok-ops.ensures) refl refl c.change.ensures.acts

pub returns-then-branch-clause-stops : goal.returns-then-branch-clause-stops
returns-then-branch-clause-stops g c =
    changes_stop g.H.Host.state (TakeChanges c.args.env.now.nodes.nodes c.args.part c.args.tid) never _ _ c.change.result c.in_ok-ops.ops.items c.deref.result.now c.deref.ensures.value
    (record { there = sym c.in_ok-is_there.ensures ∙ c.if-branch.true; is = c.in_ok-ops.ensures }) c.change.ensures.stops
