use Rattle.std.proofs.Common.{◌≡◌, ◌++◌, take}
use Rattle.std.specs.FinMap as map
use Rattle.plain_model.specs.State.{with_points}
use Rattle.plain_model.specs.Listed.{listed, point_item}
use Rattle.plain_model.proofs.points.points_in_order.Given as goal

abbrev pub invariant-loop-row : goal.invariant-loop-row
invariant-loop-row l = l.set.keys ≡ listed point_item (with_points (take l.row-index l.rows) map.empty)

abbrev pub invariant-loop-point : goal.invariant-loop-point
invariant-loop-point l = l.points ++ l.point-iterator ≡ l.initial.point-iterator
