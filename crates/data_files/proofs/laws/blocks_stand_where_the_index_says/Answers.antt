use Rattle.data_files.proofs.BlockLemmas.{has_block, has_index}
use Rattle.data_files.proofs.laws.blocks_stand_where_the_index_says.Goals as goal

pub returns : goal.returns
returns c = record { block = has_block; index = has_index }
