use Rattle.std.proofs.Common.{◌≡◌, None, ◌<◌, ◌^◌, sym, subst, arith}
use Rattle.std.specs.Prelude.{MatchOption}
use Rattle.fate_runner.specs.Book.{with_status}
use Rattle.fate_trial.specs.Layout.{slot_path, value_at, Applies}
use Rattle.fate_trial.specs.declared.layout.Slot.TheVariants.{Status}
use Rattle.fate_trial.specs.Stored.{StatusChanges}
use Rattle.fate_trial.specs.Stops.{RefusesStatus}
use Rattle.fate_trial.proofs.StatusLemmas.{status_writes, has_status}
use Rattle.fate_trial.proofs.BookLemmas.{site_sets}
use Rattle.fate_trial.proofs.StopLemmas.{changes_stop}
use Rattle.fate_trial.proofs.stacks.change_status.Goals as goal

pub change-requires-clause-applies : goal.change-requires-clause-applies
change-requires-clause-applies g c =
    let small : c.args.tid < 2 ^ 64 = omega arith in
    let changes : StatusChanges c.args.env.now.nodes.nodes c.args.tid c.args.status c.args.cause c.in-Some.ops.items = subst (λ o. MatchOption o (value_at c.args.env.now.nodes.nodes (slot_path Status c.args.tid) ≡ None) (λ ops. StatusChanges c.args.env.now.nodes.nodes c.args.tid c.args.status c.args.cause ops.items)) c.in-Some.is c.in_ok-ops.ensures in
    subst (λ l. Applies l c.args.env.now.nodes.nodes) (sym c.deref.ensures.value) (status_writes c.args.env.now.nodes.nodes c.args.tid small c.args.status c.args.cause c.in-Some.ops.items changes).applies

pub returns-in-Some-clause-sets : goal.returns-in-Some-clause-sets
returns-in-Some-clause-sets g c =
    let small : c.args.tid < 2 ^ 64 = omega arith in
    let changes : StatusChanges c.args.env.now.nodes.nodes c.args.tid c.args.status c.args.cause c.in-Some.ops.items = subst (λ o. MatchOption o (value_at c.args.env.now.nodes.nodes (slot_path Status c.args.tid) ≡ None) (λ ops. StatusChanges c.args.env.now.nodes.nodes c.args.tid c.args.status c.args.cause ops.items)) c.in-Some.is c.in_ok-ops.ensures in
    site_sets c.args.tid small g.H.Host.state g.met.H.Host.sound (with_status c.args.status c.args.cause) c.args.env.now c.change.new.self.host c.in-Some.ops.items c.deref.result.now c.deref.ensures.value c.requires.live c.requires.runs (status_writes c.args.env.now.nodes.nodes c.args.tid small c.args.status c.args.cause c.in-Some.ops.items changes) c.change.ensures.acts

pub returns-in-Some-clause-stops : goal.returns-in-Some-clause-stops
returns-in-Some-clause-stops g c =
    let changes : StatusChanges c.args.env.now.nodes.nodes c.args.tid c.args.status c.args.cause c.in-Some.ops.items = subst (λ o. MatchOption o (value_at c.args.env.now.nodes.nodes (slot_path Status c.args.tid) ≡ None) (λ ops. StatusChanges c.args.env.now.nodes.nodes c.args.tid c.args.status c.args.cause ops.items)) c.in-Some.is c.in_ok-ops.ensures in
    changes_stop g.H.Host.state (StatusChanges c.args.env.now.nodes.nodes c.args.tid c.args.status c.args.cause) (RefusesStatus c.args.env.now.nodes.nodes c.args.tid) _ _ c.change.result c.in-Some.ops.items c.deref.result.now c.deref.ensures.value changes c.change.ensures.stops

pub returns-in-Some-clause-damaged : goal.returns-in-Some-clause-damaged
returns-in-Some-clause-damaged g c = λ refused.
    let small : c.args.tid < 2 ^ 64 = omega arith in
    let changes : StatusChanges c.args.env.now.nodes.nodes c.args.tid c.args.status c.args.cause c.in-Some.ops.items = subst (λ o. MatchOption o (value_at c.args.env.now.nodes.nodes (slot_path Status c.args.tid) ≡ None) (λ ops. StatusChanges c.args.env.now.nodes.nodes c.args.tid c.args.status c.args.cause ops.items)) c.in-Some.is c.in_ok-ops.ensures in
    absurd (has_status c.args.env.now.nodes.nodes c.args.tid c.args.status c.args.cause c.in-Some.ops.items changes refused)
