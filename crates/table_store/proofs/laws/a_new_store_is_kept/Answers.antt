use Rattle.table_store.proofs.FirstLemmas.{reading_first}
use Rattle.table_store.proofs.laws.a_new_store_is_kept.Goals as goal

pub returns : goal.returns
returns c = λ image new. record {
  says = record { nodes = new.nodes; has = new.has; reading = reading_first new.nodes new.made };
  readable = c.a_new_store_is_readable.ensures image new;
}
