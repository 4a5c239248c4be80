use Rattle.std.proofs.Common.{All, take}
use Rattle.table_store.specs.Reading.{HasNext}
use Rattle.table_store.proofs.reading.has_counters.Given as goal

abbrev pub invariant-loop-path : goal.invariant-loop-path
invariant-loop-path l = All (HasNext l.nodes.nodes) (take l.path-index l.path-items)
