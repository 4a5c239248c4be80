use Rattle.kept_meaning.proofs.NodeLemmas.{drawn_stands, drawn_kept}
use Rattle.kept_meaning.proofs.nodes.a_number_may_be_drawn.Goals as goal

pub returns : goal.returns
returns c = record {
  stands = λ reading catalog known state is nodes draws. drawn_stands reading catalog known state nodes draws is;
  kept = λ reading catalog known state is nodes draws. drawn_kept reading catalog known state nodes draws is;
}
