use Rattle.std.proofs.Common.{sym, ◌∙◌}
use Rattle.metadata_schema.proofs.OneToOne.{same_record}
use Rattle.metadata_schema.proofs.laws.rows_have_one_record.Goals as goal

pub returns : goal.returns
returns c = λ row updates one other first second.
    let names = c.metadata_rows_are_one_to_one.ensures one.table other.table one.end other.end first.named.name second.named.name (sym first.named.is ∙ second.named.is) in
    same_record one other names.0 names.1 first.form second.form (sym first.spelled ∙ second.spelled)
