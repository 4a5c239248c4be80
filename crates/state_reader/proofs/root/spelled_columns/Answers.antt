use Rattle.std.proofs.Common.{◌==◌, ℕ, List, length, ap, subst, ◌∙◌}
use Rattle.std.specs.Prelude.{IsSome}
use Rattle.std.specs.List.{All}
use Rattle.std.proofs.lemmas.Bool.{false≢true}
use Rattle.metadata_schema.specs.declared.mutation.Update.{Update}
use Rattle.state_reader.proofs.RootReads.{no_front, more_behind, removed_there}
use Rattle.state_reader.proofs.root.spelled_columns.Goals as goal

pub returns-in_default : goal.returns-in_default
returns-in_default c = no_front c.args.value.now c.requires (rw c.in_default.is at c.in_ok-columns.ensures)

pub returns-then-not-is_empty : goal.returns-then-not-is_empty
returns-then-not-is_empty c =
    more_behind c.args.value.now c.in-Some.columns.items c.in-Some.rest.now c.requires (rw c.in-Some.is at c.in_ok-columns.ensures) (λ none. false≢true (c.if-not-is_empty.ensures ∙ ap (λ l. length {A = ℕ} l == 0) none))

pub returns-then-not-are_written : goal.returns-then-not-are_written
returns-then-not-are_written c =
    removed_there c.args.value.now c.in-Some.columns.items c.in-Some.rest.now c.requires (rw c.in-Some.is at c.in_ok-columns.ensures)
    (subst (λ (us : List Update). All (λ (update : Update). IsSome update.value) us → ⊥) c.deref.ensures.value c.if-not-are_written.ensures)
