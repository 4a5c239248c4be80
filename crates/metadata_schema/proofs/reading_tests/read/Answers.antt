use Rattle.std.proofs.Common.{sym, ◌∙◌, subst, refl}
use Rattle.std.specs.Prelude.{IsSome}
use Rattle.std.proofs.lemmas.List.Elements.{All-map}
use Rattle.metadata_schema.specs.declared.mutation.Update.{Update}
use Rattle.metadata_schema.specs.Columns.{written}
use Rattle.metadata_schema.specs.Refusals.{AreColumns}
use Rattle.metadata_schema.proofs.reading_tests.read.Goals as goal

pub record_of-requires-clause-columns : goal.record_of-requires-clause-columns
record_of-requires-clause-columns c =
    subst AreColumns (sym (c.deref.ensures.value ∙ c.in_ok-columns.ensures))
    (record { written = All-map (λ (update : Update). IsSome update.value) (λ cell. written cell.0.now cell.1.now cell.2.now) c.args.cells.now (λ k d within. refl); order = c.requires })
