use Rattle.store_meaning.proofs.TabletLemmas.{has_what_its_tablet_has}
use Rattle.store_meaning.proofs.tables.a_key_has_what_its_tablet_has.Goals as goal

pub returns : goal.returns
returns c = λ known rows chain cells content tablet key is e there holds told.
    has_what_its_tablet_has known rows key tablet content told (λ tablets of. c.each_row_lies_in_one_extent.ensures.down rows tablets key.row of) chain cells is e there holds
