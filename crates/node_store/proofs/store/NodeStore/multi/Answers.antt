use Rattle.std.proofs.Common.{◌∙◌, inl, inr, ⊎_elim, Ok, Err, Result, refl, sym, ap, subst}
use Rattle.host_model.specs.Alters.{Alters}
use Rattle.host_model.proofs.CallsLemmas.{was_faithful}
use Rattle.host_model.proofs.StoresLemmas.{stores_ok}
use Rattle.journal_core.specs.Value.{JournalValue}
use Rattle.std.proofs.lemmas.Result.{err_from_is_err_and}
use Rattle.node_store.proofs.StopLemmas.{early_causes}
use Rattle.node_store.specs.declared.changes.NodeStop.{NodeStop}
use Rattle.node_store.specs.Value.{StoreValue}
use Rattle.node_store.specs.Nodes.{multi_applied}
use Rattle.node_store.specs.Reading.{Spells}
use Rattle.node_store.specs.Image.{IsNodeFile, IsStored}
use Rattle.node_store.specs.Steps.{MayGive, Gives}
use Rattle.node_store.proofs.UnaskedLemmas.{turns_of}
use Rattle.node_store.proofs.ImageLemmas.{alters_nothing, alters_multi, alters_failed, stored_after}
use Rattle.node_store.proofs.store.NodeStore.multi.Goals as goal

pub returns-in_err-apply-clause-alters : goal.returns-in_err-apply-clause-alters
returns-in_err-apply-clause-alters g c = alters_nothing c.args.ops.now c.args.self.now c.from_residual.result (g.H.Host.state c.args.host.now) c.from_residual.ensures.0 (g.met.H.Host.sound c.args.host.now)

pub returns-in_err-apply-clause-cause : goal.returns-in_err-apply-clause-cause
returns-in_err-apply-clause-cause g c =
    let p = err_from_is_err_and c.from_residual.result c.from_residual.ensures.1 in
    let why = ⊎_elim (λ refused. inl (sym (ap (λ (s : StoreValue). multi_applied c.args.ops.now s.nodes) c.self.view_is) ∙ refused.0)) (λ memory. inr memory) c.in_err-apply.ensures.err in
    early_causes c.args.ops.now c.args.self.now c.from_residual.result c.in_err-apply.field-0.0 (g.H.Host.state c.args.host.now) (p.1 ∙ ap (λ e. Err e) p.2) why

pub returns-in_err-payload-clause-alters : goal.returns-in_err-payload-clause-alters
returns-in_err-payload-clause-alters g c =
    alters_nothing c.args.ops.now c.args.self.now c.from_residual-in_err-payload.result (g.H.Host.state c.args.host.now) c.from_residual-in_err-payload.ensures.0 (g.met.H.Host.sound c.args.host.now)

pub returns-in_default-clause-alters : goal.returns-in_default-clause-alters
returns-in_default-clause-alters g c = alters_nothing c.args.ops.now c.args.self.now (Err _) (g.H.Host.state c.args.host.now) refl (g.met.H.Host.sound c.args.host.now)

pub returns-in_err-append-clause-alters : goal.returns-in_err-append-clause-alters
returns-in_err-append-clause-alters g c =
    let store : StoreValue = record { name = c.self.inside.journal.name; nodes = c.self.inside.nodes; end = c.self.inside.journal.end } in
    let ops = c.args.ops.now in
    let payload = c.deref.result.now in
    let after = c.apply.new.nodes in
    let found = rw c.in-Some.is at c.in_ok-payload.ensures in
    let applies = c.in_ok-apply.ensures.ok in
    let turns = turns_of payload ops store.nodes after (subst (λ bytes. Spells bytes ops) (sym c.deref.ensures.value) found.0) applies in
    let result = c.from_residual-in_err-append.result in
    subst (λ (s : StoreValue). Alters (IsNodeFile s.name) (MayGive ops s) (Gives ops s) result (g.H.Host.state c.args.host.now) (g.H.Host.state c.append.new.host)) c.self.view_is
    (alters_failed ops store payload after applies turns result c.from_residual-in_err-append.ensures.0 (g.met.H.Host.sound c.args.host.now) c.in_err-append.ensures.stores)

pub returns-clause-alters : goal.returns-clause-alters
returns-clause-alters g c =
    let store : StoreValue = record { name = c.self.inside.journal.name; nodes = c.self.inside.nodes; end = c.self.inside.journal.end } in
    let ops = c.args.ops.now in
    let payload = c.deref.result.now in
    let after = c.apply.new.nodes in
    let found = rw c.in-Some.is at c.in_ok-payload.ensures in
    let applies = c.in_ok-apply.ensures.ok in
    let turns = turns_of payload ops store.nodes after (subst (λ bytes. Spells bytes ops) (sym c.deref.ensures.value) found.0) applies in
    let result : Result (Unit {0}) NodeStop = Ok tt in
    subst (λ (s : StoreValue). Alters (IsNodeFile s.name) (MayGive ops s) (Gives ops s) result (g.H.Host.state c.args.host.now) (g.H.Host.state c.append.new.host)) c.self.view_is
    (alters_multi ops store payload after applies turns (g.met.H.Host.sound c.args.host.now) (stores_ok NodeStop tt c.in_ok-append.ensures.stores))

pub returns-clause-stored : goal.returns-clause-stored
returns-clause-stored g c = λ faithful.
    let store : StoreValue = record { name = c.self.inside.journal.name; nodes = c.self.inside.nodes; end = c.self.inside.journal.end } in
    let ops = c.args.ops.now in
    let payload = c.deref.result.now in
    let after = c.apply.new.nodes in
    let found = rw c.in-Some.is at c.in_ok-payload.ensures in
    let applies = c.in_ok-apply.ensures.ok in
    let turns = turns_of payload ops store.nodes after (subst (λ bytes. Spells bytes ops) (sym c.deref.ensures.value) found.0) applies in
    let stores = c.in_ok-append.ensures.stores in
    let was = was_faithful stores.quiet.keeps faithful in
    let stored = subst (λ s. IsStored s (g.H.Host.state c.args.host.now).files) (sym c.self.view_is) (c.requires was) in
    let done = stored_after ops store payload after applies turns (g.H.Host.state c.args.host.now).files (g.H.Host.state c.append.new.host).files stored (stores.done was) in
    subst (λ (journal : JournalValue). IsStored (record { name = journal.name; nodes = after; end = journal.end }) (g.H.Host.state c.append.new.host).files) (sym c.in_ok-append.ensures.ok) done
