use Rattle.std.proofs.Common.{take}
use Rattle.table_names.specs.Staged.{AreStagedAt}
use Rattle.table_names.proofs.staged_nodes.files_at.Given as goal

abbrev pub invariant-loop-path : goal.invariant-loop-path
invariant-loop-path l = AreStagedAt l.nodes.nodes (take l.path-index l.paths) l.files.items
