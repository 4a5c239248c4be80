use Rattle.store_meaning.proofs.StateLemmas.{online, others, none}
use Rattle.store_meaning.proofs.tables.the_state_has_the_online_tables.Goals as goal

pub returns : goal.returns
returns c = record {
  online = λ reading catalog known state id node is. online reading catalog known state id is node;
  others = λ reading catalog known state id node is. others reading catalog known state id is node;
  none = λ reading catalog known state id is. none reading catalog known state id is;
}
