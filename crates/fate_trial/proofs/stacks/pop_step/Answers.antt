use Rattle.std.proofs.Common.{None, ◌<◌, ◌^◌, sym, subst, arith}
use Rattle.std.specs.Prelude.{MatchOption}
use Rattle.fate_runner.specs.Book.{popped}
use Rattle.fate_trial.specs.Layout.{Applies}
use Rattle.fate_trial.specs.Stored.{IsTopSlot, PopChanges}
use Rattle.fate_trial.specs.Stops.{RefusesPop}
use Rattle.fate_trial.proofs.StackLemmas.{pop_writes, has_top}
use Rattle.fate_trial.proofs.BookLemmas.{site_sets}
use Rattle.fate_trial.proofs.StopLemmas.{changes_stop}
use Rattle.fate_trial.proofs.stacks.pop_step.Goals as goal

pub change-requires-clause-applies : goal.change-requires-clause-applies
change-requires-clause-applies g c =
    let small : c.args.tid < 2 ^ 64 = omega arith in
    let changes : PopChanges c.args.env.now.nodes.nodes c.args.tid c.in-Some.ops.items = subst (λ o. MatchOption o (IsTopSlot c.args.env.now.nodes.nodes c.args.tid None) (λ ops. PopChanges c.args.env.now.nodes.nodes c.args.tid ops.items)) c.in-Some.is c.in_ok-ops.ensures in
    subst (λ l. Applies l c.args.env.now.nodes.nodes) (sym c.deref.ensures.value) (pop_writes c.args.env.now.nodes.nodes c.args.tid small c.in-Some.ops.items changes).applies

pub returns-in-Some-clause-sets : goal.returns-in-Some-clause-sets
returns-in-Some-clause-sets g c =
    let small : c.args.tid < 2 ^ 64 = omega arith in
    let changes : PopChanges c.args.env.now.nodes.nodes c.args.tid c.in-Some.ops.items = subst (λ o. MatchOption o (IsTopSlot c.args.env.now.nodes.nodes c.args.tid None) (λ ops. PopChanges c.args.env.now.nodes.nodes c.args.tid ops.items)) c.in-Some.is c.in_ok-ops.ensures in
    site_sets c.args.tid small g.H.Host.state g.met.H.Host.sound popped c.args.env.now c.change.new.self.host c.in-Some.ops.items c.deref.result.now c.deref.ensures.value c.requires.live c.requires.runs (pop_writes c.args.env.now.nodes.nodes c.args.tid small c.in-Some.ops.items changes) c.change.ensures.acts

pub returns-in-Some-clause-stops : goal.returns-in-Some-clause-stops
returns-in-Some-clause-stops g c =
    let changes : PopChanges c.args.env.now.nodes.nodes c.args.tid c.in-Some.ops.items = subst (λ o. MatchOption o (IsTopSlot c.args.env.now.nodes.nodes c.args.tid None) (λ ops. PopChanges c.args.env.now.nodes.nodes c.args.tid ops.items)) c.in-Some.is c.in_ok-ops.ensures in
    changes_stop g.H.Host.state (PopChanges c.args.env.now.nodes.nodes c.args.tid) (RefusesPop c.args.env.now.nodes.nodes c.args.tid) _ _ c.change.result c.in-Some.ops.items c.deref.result.now c.deref.ensures.value changes c.change.ensures.stops

pub returns-in-Some-clause-damaged : goal.returns-in-Some-clause-damaged
returns-in-Some-clause-damaged g c = λ refused.
    let small : c.args.tid < 2 ^ 64 = omega arith in
    let changes : PopChanges c.args.env.now.nodes.nodes c.args.tid c.in-Some.ops.items = subst (λ o. MatchOption o (IsTopSlot c.args.env.now.nodes.nodes c.args.tid None) (λ ops. PopChanges c.args.env.now.nodes.nodes c.args.tid ops.items)) c.in-Some.is c.in_ok-ops.ensures in
    absurd (has_top c.args.env.now.nodes.nodes c.args.tid small c.in-Some.ops.items changes refused)
