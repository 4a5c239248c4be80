use Rattle.std.proofs.Common.{◌↔◌, ℕ, List, take, Contains}
use Rattle.level_cache.proofs.ListedLemmas.{IsNamedIn}
use Rattle.level_cache.proofs.listed.listed_files.Given as goal

abbrev pub invariant-loop-node : goal.invariant-loop-node
invariant-loop-node l = (path : List ℕ) → Contains l.paths.items path ↔ IsNamedIn (take l.node-index l.node-items) path
