use Rattle.metadata_schema.proofs.OneToOne.{same_columns}
use Rattle.metadata_schema.proofs.laws.records_are_one_to_one.Goals as goal

pub returns : goal.returns
returns c = same_columns
