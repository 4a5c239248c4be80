use Rattle.std.proofs.Common.{◌≡◌, drop}
use Rattle.table_store.specs.Numbers.{value_from}
use Rattle.table_store.proofs.ids.number_of.Given as goal

abbrev pub invariant-loop-byte : goal.invariant-loop-byte
invariant-loop-byte l = value_from l.number (drop l.byte-index l.id) ≡ value_from 0 l.id
