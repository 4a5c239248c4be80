use Rattle.store_meaning.proofs.ExtentLemmas.{narrower_content, halves_same}
use Rattle.store_meaning.proofs.contents.a_narrower_extent_has_its_part_of_the_cells.Goals as goal

pub returns : goal.returns
returns c = record {
  narrower = narrower_content;
  halves = λ known low at whole high lower halves was is. halves_same known low at whole high lower halves was is;
}
