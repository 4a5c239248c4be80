use Rattle.kept_meaning.specs.Nodes.{new_table}
use Rattle.kept_meaning.proofs.NewTableLemmas.{comes_online, is_create}
use Rattle.kept_meaning.proofs.OnlineLemmas.{online_kept}
use Rattle.kept_meaning.proofs.nodes.a_new_table_is_created.Goals as goal

pub returns : goal.returns
returns c = record {
  create = is_create;
  kept = λ reading catalog known state is nodes id node splits creates. online_kept reading catalog known state nodes id node (new_table node.name splits) (comes_online reading catalog known state nodes id node splits creates) is;
}
