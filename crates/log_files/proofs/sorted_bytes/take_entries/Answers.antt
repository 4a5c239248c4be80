use Rattle.std.proofs.Common.{◌∙◌, sym, subst, ◌+◌, List, [], ◌∷◌, ◌++◌}
use Rattle.std.proofs.lemmas.Bool.{false≢true}
use Rattle.metadata_schema.specs.declared.mutation.Mutation.{Mutation}
use Rattle.log_files.specs.Mutations.{IsLogged}
use Rattle.log_files.specs.Sorted.{spelled_entry, AreInOrder}
use Rattle.log_files.specs.Parts.{StartsMany}
use Rattle.log_files.proofs.ManyLemmas.{many_none, many_more, cut_short, out_of_order}
use Rattle.log_files.proofs.OrderLemmas.{in_order-none, in_order-front}
use Rattle.log_files.proofs.SortedLemmas.{IsPrefixFree-entry}
use Rattle.log_files.proofs.sorted_bytes.take_entries.Goals as goal

pub loop-init : goal.loop-init
loop-init c = subst (λ (l : List Mutation). StartsMany IsLogged AreInOrder spelled_entry 0 c.args.bytes.now l c.args.bytes.now) (sym c.new-mutations.ensures.items) (many_none IsLogged AreInOrder spelled_entry c.args.bytes.now in_order-none)

pub returns-in_default : goal.returns-in_default
returns-in_default c =
    let none = rw c.in_default.is at c.in_ok-mutation.ensures in
    cut_short IsLogged AreInOrder spelled_entry IsPrefixFree-entry c.loop.counter c.args.count c.args.bytes.now c.loop.mutations.items c.loop.rest.now c.loop.invariant c.loop-test.true none

pub returns-then-not-follows : goal.returns-then-not-follows
returns-then-not-follows c =
    let there = rw c.in-Some.is at c.in_ok-mutation.ensures in
    out_of_order IsLogged AreInOrder spelled_entry IsPrefixFree-entry in_order-front c.loop.counter c.args.count c.args.bytes.now c.loop.mutations.items c.loop.rest.now c.in-Some.mutation c.in-Some.after.now c.loop.invariant c.loop-test.true there
    (λ rises. false≢true (sym c.if-not-follows.true ∙ c.follows.ensures.1 (subst (λ (l : List Mutation). AreInOrder (l ++ c.in-Some.mutation ∷ [])) (sym c.deref.ensures.value) rises)))

pub loop-preserved : goal.loop-preserved
loop-preserved c =
    let there = rw c.in-Some.is at c.in_ok-mutation.ensures in
    subst (λ (l : List Mutation). StartsMany IsLogged AreInOrder spelled_entry (c.loop.counter + 1) c.args.bytes.now l c.in-Some.after.now) (sym c.in_ok-push.ensures.items)
    (many_more IsLogged AreInOrder spelled_entry c.loop.counter c.args.bytes.now c.loop.mutations.items c.loop.rest.now c.in-Some.mutation c.in-Some.after.now c.loop.invariant there (subst (λ (l : List Mutation). AreInOrder (l ++ c.in-Some.mutation ∷ [])) c.deref.ensures.value (c.follows.ensures.0 c.if-not-follows.false)))
