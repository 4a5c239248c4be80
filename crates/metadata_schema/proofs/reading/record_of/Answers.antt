use Rattle.metadata_schema.proofs.AcceptedLemmas.{read_where_ok}
use Rattle.metadata_schema.proofs.reading.record_of.Goals as goal

pub returns-clause-in_form : goal.returns-clause-in_form
returns-clause-in_form c = read_where_ok c.args.row.now c.args.updates.now c.read_columns.result _ c.read_columns.ensures
