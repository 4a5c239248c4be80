use Rattle.std.proofs.Common.{◌<◌, ◌^◌, sym, subst, arith}
use Rattle.std.specs.Prelude.{MatchOption}
use Rattle.fate_runner.specs.Book.{pushed}
use Rattle.fate_trial.specs.Layout.{Applies}
use Rattle.fate_trial.specs.Stored.{HasNoPlace, PushChanges}
use Rattle.fate_trial.specs.Stops.{RefusesPush}
use Rattle.fate_trial.proofs.StackLemmas.{push_writes, has_place}
use Rattle.fate_trial.proofs.BookLemmas.{site_sets}
use Rattle.fate_trial.proofs.StopLemmas.{changes_stop}
use Rattle.fate_trial.proofs.stacks.push_words.Goals as goal

pub change-requires-clause-applies : goal.change-requires-clause-applies
change-requires-clause-applies g c =
    let small : c.args.tid < 2 ^ 64 = omega arith in
    let changes : PushChanges c.args.env.now.nodes.nodes c.args.tid c.args.words.now c.in-Some.ops.items = subst (λ o. MatchOption o (HasNoPlace c.args.env.now.nodes.nodes c.args.tid c.args.words.now) (λ ops. PushChanges c.args.env.now.nodes.nodes c.args.tid c.args.words.now ops.items)) c.in-Some.is c.in_ok-ops.ensures in
    subst (λ l. Applies l c.args.env.now.nodes.nodes) (sym c.deref.ensures.value) (push_writes c.args.env.now.nodes.nodes c.args.tid small c.args.words.now c.in-Some.ops.items changes).applies

pub returns-in-Some-clause-sets : goal.returns-in-Some-clause-sets
returns-in-Some-clause-sets g c =
    let small : c.args.tid < 2 ^ 64 = omega arith in
    let changes : PushChanges c.args.env.now.nodes.nodes c.args.tid c.args.words.now c.in-Some.ops.items = subst (λ o. MatchOption o (HasNoPlace c.args.env.now.nodes.nodes c.args.tid c.args.words.now) (λ ops. PushChanges c.args.env.now.nodes.nodes c.args.tid c.args.words.now ops.items)) c.in-Some.is c.in_ok-ops.ensures in
    site_sets c.args.tid small g.H.Host.state g.met.H.Host.sound (pushed c.args.words.now) c.args.env.now c.change.new.self.host c.in-Some.ops.items c.deref.result.now c.deref.ensures.value c.requires.live c.requires.runs (push_writes c.args.env.now.nodes.nodes c.args.tid small c.args.words.now c.in-Some.ops.items changes) c.change.ensures.acts

pub returns-in-Some-clause-stops : goal.returns-in-Some-clause-stops
returns-in-Some-clause-stops g c =
    let changes : PushChanges c.args.env.now.nodes.nodes c.args.tid c.args.words.now c.in-Some.ops.items = subst (λ o. MatchOption o (HasNoPlace c.args.env.now.nodes.nodes c.args.tid c.args.words.now) (λ ops. PushChanges c.args.env.now.nodes.nodes c.args.tid c.args.words.now ops.items)) c.in-Some.is c.in_ok-ops.ensures in
    changes_stop g.H.Host.state (PushChanges c.args.env.now.nodes.nodes c.args.tid c.args.words.now) (RefusesPush c.args.env.now.nodes.nodes c.args.tid c.args.words.now) _ _ c.change.result c.in-Some.ops.items c.deref.result.now c.deref.ensures.value changes c.change.ensures.stops

pub returns-in-Some-clause-full : goal.returns-in-Some-clause-full
returns-in-Some-clause-full g c = λ refused.
    let small : c.args.tid < 2 ^ 64 = omega arith in
    let changes : PushChanges c.args.env.now.nodes.nodes c.args.tid c.args.words.now c.in-Some.ops.items = subst (λ o. MatchOption o (HasNoPlace c.args.env.now.nodes.nodes c.args.tid c.args.words.now) (λ ops. PushChanges c.args.env.now.nodes.nodes c.args.tid c.args.words.now ops.items)) c.in-Some.is c.in_ok-ops.ensures in
    absurd (has_place c.args.env.now.nodes.nodes c.args.tid small c.args.words.now c.in-Some.ops.items changes refused)
