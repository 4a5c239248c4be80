use Rattle.kept_meaning.proofs.OnlineLemmas.{online_stands, online_kept}
use Rattle.kept_meaning.proofs.nodes.a_table_comes_online.Goals as goal

pub returns : goal.returns
returns c = record {
  stands = λ reading catalog known state is nodes id node table makes. online_stands reading catalog known state nodes id node table makes is;
  kept = λ reading catalog known state is nodes id node table makes. online_kept reading catalog known state nodes id node table makes is;
}
