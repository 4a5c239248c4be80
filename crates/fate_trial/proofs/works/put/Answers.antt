use Rattle.node_store.specs.declared.changes.NodeOp.TheVariants.{Create}
use Rattle.node_store.specs.Nodes.{multi_applied}
use Rattle.std.specs.Prelude.{OnOk}
use Rattle.std.proofs.Common.{◌≡◌, ◌∙◌, ◌∷◌, [], Ok, false, is_some, sym, ap, subst}
use Rattle.fate_trial.specs.Layout.{Applies, value_at, putting}
use Rattle.fate_trial.specs.Stops.{never, PutChanges}
use Rattle.fate_trial.proofs.StopLemmas.{changes_stop}
use Rattle.fate_trial.proofs.PartLemmas.{free_applies, none_of}
use Rattle.fate_trial.proofs.works.put.Goals as goal

pub change-requires-clause-applies : goal.change-requires-clause-applies
change-requires-clause-applies g c =
    let free : is_some (value_at c.args.env.now.nodes.nodes c.args.path) ≡ false =
    ap (λ p. is_some (value_at c.args.env.now.nodes.nodes p)) (sym c.as_bytes.ensures.bytes) ∙ sym c.in_ok-has_node.ensures ∙ c.if-branch.false in
    subst (λ l. Applies l c.args.env.now.nodes.nodes) (sym (c.deref.ensures.value ∙ c.in_ok-ops.ensures)) (free_applies c.args.env.now.nodes.nodes c.args.path c.in_ok-value.value free)

pub returns-clause-stops : goal.returns-clause-stops
returns-clause-stops g c =
    let free : is_some (value_at c.args.env.now.nodes.nodes c.args.path) ≡ false =
    ap (λ p. is_some (value_at c.args.env.now.nodes.nodes p)) (sym c.as_bytes.ensures.bytes) ∙ sym c.in_ok-has_node.ensures ∙ c.if-branch.false in
    changes_stop g.H.Host.state (PutChanges c.args.env.now.nodes.nodes c.args.path c.args.value.now) never _ _ c.change.result c.in_ok-ops.ops.items c.deref.result.now c.deref.ensures.value
    (record { free = none_of (value_at c.args.env.now.nodes.nodes c.args.path) free; is = c.in_ok-ops.ensures ∙ ap (λ v. Create c.args.path v ∷ []) c.in_ok-value.ensures }) c.change.ensures.stops

pub returns-clause-made : goal.returns-clause-made
returns-clause-made g c =
    let free : is_some (value_at c.args.env.now.nodes.nodes c.args.path) ≡ false =
    ap (λ p. is_some (value_at c.args.env.now.nodes.nodes p)) (sym c.as_bytes.ensures.bytes) ∙ sym c.in_ok-has_node.ensures ∙ c.if-branch.false in
    let is = c.deref.ensures.value ∙ c.in_ok-ops.ensures ∙ ap (λ v. Create c.args.path v ∷ []) c.in_ok-value.ensures ∙ ap (λ b. putting c.args.path c.args.value.now b) (sym free) in
    subst (λ l. OnOk c.change.result (multi_applied l c.args.env.now.nodes.nodes ≡ Ok c.change.new.self.nodes.nodes)) is c.change.ensures.made
