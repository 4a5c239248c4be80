use Rattle.kept_meaning.proofs.AsideLemmas.{aside_stands, aside_is_kept}
use Rattle.kept_meaning.proofs.rows.a_row_aside_keeps_the_state.Goals as goal

pub returns : goal.returns
returns c = record { stands = aside_stands; kept = aside_is_kept }
