use Rattle.std.proofs.Common.{◌∙◌, sym, subst, refl, ◌+◌, List, [], ◌∷◌, ◌++◌}
use Rattle.std.proofs.lemmas.Bool.{false≢true}
use Rattle.metadata_schema.specs.declared.mutation.Update.{Update}
use Rattle.log_files.specs.Mutations.{spelled_update, FitsUpdate, AreRising}
use Rattle.log_files.specs.Parts.{StartsMany}
use Rattle.log_files.proofs.ManyLemmas.{many_none, many_more, cut_short, out_of_order}
use Rattle.log_files.proofs.RisingLemmas.{rising-front}
use Rattle.log_files.proofs.UpdateLemmas.{IsPrefixFree-update}
use Rattle.log_files.proofs.updates.take_each.Goals as goal

pub loop-init : goal.loop-init
loop-init c = subst (λ (l : List Update). StartsMany FitsUpdate AreRising spelled_update 0 c.args.bytes.now l c.args.bytes.now) (sym c.new-updates.ensures.items) (many_none FitsUpdate AreRising spelled_update c.args.bytes.now refl)

pub returns-in_default : goal.returns-in_default
returns-in_default c =
    let none = rw c.in_default.is at c.in_ok-update.ensures in
    cut_short FitsUpdate AreRising spelled_update IsPrefixFree-update c.loop.counter c.args.count c.args.bytes.now c.loop.updates.items c.loop.rest.now c.loop.invariant c.loop-test.true none

pub returns-then-not-follows : goal.returns-then-not-follows
returns-then-not-follows c =
    let there = rw c.in-Some.is at c.in_ok-update.ensures in
    out_of_order FitsUpdate AreRising spelled_update IsPrefixFree-update rising-front c.loop.counter c.args.count c.args.bytes.now c.loop.updates.items c.loop.rest.now c.in-Some.update c.in-Some.after.now c.loop.invariant c.loop-test.true there
    (λ rises. false≢true (sym c.if-not-follows.true ∙ c.follows.ensures.1 (subst (λ (l : List Update). AreRising (l ++ c.in-Some.update ∷ [])) (sym c.deref.ensures.value) rises)))

pub loop-preserved : goal.loop-preserved
loop-preserved c =
    let there = rw c.in-Some.is at c.in_ok-update.ensures in
    subst (λ (l : List Update). StartsMany FitsUpdate AreRising spelled_update (c.loop.counter + 1) c.args.bytes.now l c.in-Some.after.now) (sym c.in_ok-push.ensures.items)
    (many_more FitsUpdate AreRising spelled_update c.loop.counter c.args.bytes.now c.loop.updates.items c.loop.rest.now c.in-Some.update c.in-Some.after.now c.loop.invariant there (subst (λ (l : List Update). AreRising (l ++ c.in-Some.update ∷ [])) c.deref.ensures.value (c.follows.ensures.0 c.if-not-follows.false)))
