use Rattle.kept_meaning.proofs.DrawnLemmas.{new_id, no_rows, no_table}
use Rattle.kept_meaning.proofs.drawn.a_drawn_id_is_new.Goals as goal

pub returns : goal.returns
returns c = record { new = new_id; rows = no_rows; state = no_table }
