use Rattle.std.proofs.Common.{take}
use Rattle.cell_merge.specs.Newest.{joined}
use Rattle.cell_merge.specs.Index.{IsIndexOf}
use Rattle.cell_merge.proofs.merging.merge_sources.Given as goal

abbrev pub invariant-loop-source : goal.invariant-loop-source
invariant-loop-source l = IsIndexOf (joined (take l.source-index l.sources)) l.latest
