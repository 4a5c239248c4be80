use Rattle.kept_meaning.proofs.DrawnLemmas.{new_session}
use Rattle.kept_meaning.proofs.drawn.a_drawn_session_is_new.Goals as goal

pub returns : goal.returns
returns c = new_session
