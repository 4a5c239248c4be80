use Rattle.kept_meaning.proofs.DrawnLemmas.{new_name}
use Rattle.kept_meaning.proofs.drawn.a_drawn_name_is_new.Goals as goal

pub returns : goal.returns
returns c = new_name
