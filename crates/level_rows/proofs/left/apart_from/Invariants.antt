use Rattle.std.proofs.Common.{◌≡◌, ◌++◌, map}
use Rattle.std.specs.List.{filter}
use Rattle.std.specs.Map.Iter.{deref}
use Rattle.level_rows.specs.Index.{is_apart, records_in}
use Rattle.level_rows.proofs.left.apart_from.Given as goal

abbrev pub invariant-loop-tablet : goal.invariant-loop-tablet
invariant-loop-tablet l = l.left.items ++ filter (is_apart l.others) (map deref l.tablet-iterator) ≡ filter (is_apart l.others) (records_in l.fn.ends)
