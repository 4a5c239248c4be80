use Rattle.std.proofs.Common.{◌≡◌, take}
use Rattle.std.specs.Prelude.{filter}
use Rattle.plain_state.specs.Paths.{is_behind}
use Rattle.plain_state.proofs.paths.paths_behind.Given as goal

abbrev pub invariant-loop-path : goal.invariant-loop-path
invariant-loop-path l = l.behind.items ≡ filter (is_behind l.front) (take l.path-index l.path-items)
