use Rattle.store_meaning.proofs.ExtentLemmas.{no_content, no_contents}
use Rattle.store_meaning.proofs.contents.tablets_that_name_nothing_have_no_cells.Goals as goal

pub returns : goal.returns
returns c = record { tablet = no_content; chain = no_contents }
