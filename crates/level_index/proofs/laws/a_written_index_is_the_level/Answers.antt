use Rattle.level_index.proofs.LawLemmas.{row_written, cells_written}
use Rattle.level_index.proofs.laws.a_written_index_is_the_level.Goals as goal

pub returns-clause-row : goal.returns-clause-row
returns-clause-row c = row_written

pub returns-clause-cells : goal.returns-clause-cells
returns-clause-cells c = λ index write prepared old new leads prepares. cells_written index write prepared leads prepares old new
