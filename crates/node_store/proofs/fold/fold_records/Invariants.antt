use Rattle.node_store.proofs.FoldLemmas.{FoldsFrom}
use Rattle.node_store.proofs.fold.fold_records.Given as goal

abbrev pub invariant-loop-record : goal.invariant-loop-record
invariant-loop-record l = FoldsFrom l.records l.record-index l.nodes
