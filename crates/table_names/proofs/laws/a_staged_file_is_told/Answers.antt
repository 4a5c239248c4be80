use Rattle.table_names.proofs.ChangeLemmas.{stage_tells, unstage_tells}
use Rattle.table_names.proofs.laws.a_staged_file_is_told.Goals as goal

pub returns : goal.returns
returns c = record { staged = stage_tells; unstaged = unstage_tells }
