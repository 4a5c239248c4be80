use Rattle.level_rows.proofs.BesideLemmas.{linked_chain}
use Rattle.level_rows.proofs.changes.linked_rows_are_a_chain_once_whole.Goals as goal

pub returns : goal.returns
returns c = linked_chain
