use Rattle.store_meaning.proofs.StateLemmas.{with_mark, without_mark}
use Rattle.store_meaning.proofs.tables.a_table_has_what_its_tablets_have.Goals as goal

pub returns : goal.returns
returns c = record {
  loaded = λ known rows node table is tablet content key there holds told. without_mark c.each_row_lies_in_one_extent.ensures.down known rows node table is tablet content key there holds told;
  lacking = λ known rows node table is tablet content key there holds told. with_mark c.each_row_lies_in_one_extent.ensures.down known rows node table is tablet content key there holds told;
}
