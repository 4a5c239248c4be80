use Rattle.std.proofs.Common.{sym, ◌∙◌, subst}
use Rattle.metadata_schema.specs.Refusals.{AreColumns}
use Rattle.metadata_schema.proofs.AcceptedLemmas.{are_columns}
use Rattle.metadata_schema.proofs.tests.read_back.Goals as goal

pub record_of-requires-clause-columns : goal.record_of-requires-clause-columns
record_of-requires-clause-columns c = subst AreColumns (sym (c.deref.ensures.value ∙ c.in_ok-columns.ensures)) (are_columns c.args.before.now c.requires)
