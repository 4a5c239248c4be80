use Rattle.std.proofs.Common.{◌≡◌, drop}
use Rattle.table_names.specs.Tables.{first_named}
use Rattle.table_names.proofs.table_nodes.place_named.Given as goal

abbrev pub invariant-loop-at : goal.invariant-loop-at
invariant-loop-at l = first_named l.name (drop l.at l.tables) ≡ first_named l.name l.tables
