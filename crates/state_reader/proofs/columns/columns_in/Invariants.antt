use Rattle.std.proofs.Common.{◌≡◌, take}
use Rattle.state_reader.specs.Columns.{columns_in}
use Rattle.state_reader.proofs.columns.columns_in.Given as goal

abbrev pub invariant-loop-pair : goal.invariant-loop-pair
invariant-loop-pair l = l.columns.items ≡ columns_in (take l.pair-index l.pairs) l.row
