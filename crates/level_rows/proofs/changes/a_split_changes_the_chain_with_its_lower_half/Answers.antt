use Rattle.level_rows.proofs.SplitLemmas.{moment_one, moment_two, moment_three, taken_back}
use Rattle.level_rows.proofs.changes.a_split_changes_the_chain_with_its_lower_half.Goals as goal

pub returns : goal.returns
returns c = record { first = moment_one; second = moment_two; third = moment_three; back = taken_back }
