use Rattle.state_reader.proofs.LackLemmas.{chain_of_table}
use Rattle.plain_reader.proofs.table.cells_of.Goals as goal

pub chain_cells-requires : goal.chain_cells-requires
chain_cells-requires c = chain_of_table c.args.table.now c.args.records.now c.args.tablets.now c.requires
