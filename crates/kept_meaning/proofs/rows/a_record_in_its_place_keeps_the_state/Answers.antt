use Rattle.kept_meaning.proofs.PlaceLemmas.{rewrite_stands, rewrite_kept}
use Rattle.kept_meaning.proofs.rows.a_record_in_its_place_keeps_the_state.Goals as goal

pub returns : goal.returns
returns c = record { stands = rewrite_stands; kept = rewrite_kept }
