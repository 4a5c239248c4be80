use Rattle.store_meaning.proofs.FirstWriteLemmas.{first_assigned}
use Rattle.store_meaning.proofs.FirstFlushLemmas.{first_row}
use Rattle.store_meaning.proofs.writes.a_new_store_may_be_written.Goals as goal

pub returns : goal.returns
returns c = record {
  future = λ image holder new form. first_assigned image new c.new_tablets_are_well_formed.ensures.each holder form;
  table = λ image holder new form. first_row image new c.new_tablets_are_well_formed.ensures.each holder form;
}
