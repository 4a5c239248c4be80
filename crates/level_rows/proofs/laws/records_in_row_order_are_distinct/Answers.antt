use Rattle.level_rows.proofs.OneListLemmas.{rows_rise}
use Rattle.level_rows.proofs.laws.records_in_row_order_are_distinct.Goals as goal

pub returns : goal.returns
returns c = rows_rise
