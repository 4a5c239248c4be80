use Rattle.std.proofs.Common.{sym, subst}
use Rattle.store_meaning.specs.Levels.{metadata_id}
use Rattle.state_reader.specs.Lacks.{AreOfTable}
use Rattle.state_reader.proofs.LackLemmas.{chain_of_table}
use Rattle.state_reader.proofs.reading.metadata_cells.Goals as goal

pub chain_cells-requires : goal.chain_cells-requires
chain_cells-requires c = subst (λ id. AreOfTable id c.args.tablets.now) (sym c.in_ok-table.ensures) (chain_of_table metadata_id c.args.rows.now.records c.args.tablets.now c.requires.is)
