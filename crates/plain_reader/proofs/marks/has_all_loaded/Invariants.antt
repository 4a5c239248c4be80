use Rattle.std.proofs.Common.{◌≡◌, drop}
use Rattle.std.specs.List.{list_all}
use Rattle.store_meaning.specs.Marked.{has_loaded}
use Rattle.plain_reader.proofs.marks.has_all_loaded.Given as goal

abbrev pub invariant-loop-path : goal.invariant-loop-path
invariant-loop-path l = list_all (has_loaded l.tid l.tablet) (drop l.path-index l.paths) ≡ list_all (has_loaded l.tid l.tablet) l.paths
