use Rattle.metadata_schema.proofs.AcceptedLemmas.{are_columns, prev_there, columns_named, values_formed}
use Rattle.metadata_schema.proofs.laws.columns_of_records_are_read.Goals as goal

pub returns : goal.returns
returns c = record { given = λ tablet form. are_columns tablet form.order; prev = λ tablet form. prev_there tablet; columns = columns_named; values = values_formed }
