use Rattle.std.proofs.Common.{◌<◌, ◌^◌, ◌∙◌, ◌∷◌, [], true, refl, sym, ap, subst, arith}
use Rattle.node_store.specs.declared.changes.NodeOp.TheVariants.{Create}
use Rattle.fate_trial.specs.Layout.{slot_path, has, Applies}
use Rattle.fate_trial.specs.Stops.{never}
use Rattle.fate_trial.specs.Towers.{MakeChanges}
use Rattle.fate_trial.proofs.StopLemmas.{changes_stop}
use Rattle.fate_trial.proofs.SiteLemmas.{site_nodes}
use Rattle.fate_trial.proofs.PartLemmas.{part_acts, part_still, create_applies}
use Rattle.fate_trial.proofs.works.make.Goals as goal

pub returns-then-branch-clause-acts : goal.returns-then-branch-clause-acts
returns-then-branch-clause-acts g c =
    part_still c.args.part c.args.tid true (g.met.H.Host.sound c.args.env.now.host)
    (λ f. ap (λ n. has n c.args.part c.args.tid) (site_nodes g.H.Host.state c.args.env.now c.requires.live c.in_ok-going.ensures.runs f) ∙ sym c.in_ok-is_there.ensures ∙ c.if-branch.true)

pub change-requires-clause-applies : goal.change-requires-clause-applies
change-requires-clause-applies g c =
    let small : c.args.tid < 2 ^ 64 = omega arith in
    subst (λ l. Applies l c.args.env.now.nodes.nodes) (sym (c.deref.ensures.value ∙ c.in_ok-ops.ensures)) (create_applies c.args.env.now.nodes.nodes c.args.part c.args.tid small c.in_ok-value.value (sym c.in_ok-is_there.ensures ∙ c.if-branch.false))

pub returns-clause-acts : goal.returns-clause-acts
returns-clause-acts g c =
    let small : c.args.tid < 2 ^ 64 = omega arith in
    part_acts c.args.part c.args.tid small (Create (slot_path c.args.part c.args.tid) c.in_ok-value.value) true c.deref.result.now (c.deref.ensures.value ∙ c.in_ok-ops.ensures) refl refl c.change.ensures.acts

pub returns-clause-stops : goal.returns-clause-stops
returns-clause-stops g c =
    changes_stop g.H.Host.state (MakeChanges c.args.env.now.nodes.nodes c.args.part c.args.tid) never _ _ c.change.result c.in_ok-ops.ops.items c.deref.result.now c.deref.ensures.value
    (record { none = sym c.in_ok-is_there.ensures ∙ c.if-branch.false; is = c.in_ok-ops.ensures ∙ ap (λ v. Create (slot_path c.args.part c.args.tid) v ∷ []) c.in_ok-value.ensures }) c.change.ensures.stops
