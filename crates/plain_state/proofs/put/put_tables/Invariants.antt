use Rattle.std.proofs.Common.{take}
use Rattle.state_reader.specs.Still.{ground_of}
use Rattle.state_reader.specs.Reads.{reading_of}
use Rattle.plain_state.specs.States.{ArePut}
use Rattle.plain_state.proofs.put.put_tables.Given as goal

abbrev pub invariant-loop-table : goal.invariant-loop-table
invariant-loop-table l = ArePut (ground_of l.still) (reading_of l.read) (take l.table-index l.tables) l.state
