use Rattle.store_meaning.proofs.OneState.{one_state}
use Rattle.store_meaning.proofs.stands.an_image_stands_for_one_state.Goals as goal

pub returns : goal.returns
returns c = λ image one other p q.
    one_state c.a_table_has_one_chain.ensures p.known q.known (c.grounds_of_an_image_agree.ensures image p.known q.known p.of q.of) c.tables_are_one_to_one.ensures.catalogs p.reading q.reading p.catalog q.catalog one other p.stands q.stands
