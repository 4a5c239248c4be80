use Rattle.std.proofs.Common.{◌≡◌, ◌++◌, ◌≤◌}
use Rattle.std.specs.Prelude.{reverse}
use Rattle.table_names.specs.Draws.{base36}
use Rattle.table_names.proofs.draws.digits.Given as goal

abbrev pub invariant-loop-rest : goal.invariant-loop-rest
invariant-loop-rest l = record {
  spelled : base36 l.rest ++ reverse l.digits.items ≡ base36 l.number;
  falls : l.rest ≤ l.number;
}

abbrev pub decreases-loop-rest : goal.decreases-loop-rest
decreases-loop-rest l = l.rest
