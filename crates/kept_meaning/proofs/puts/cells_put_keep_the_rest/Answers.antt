use Rattle.kept_meaning.proofs.PutLemmas.{put_stands, put_kept}
use Rattle.kept_meaning.proofs.puts.cells_put_keep_the_rest.Goals as goal

pub returns : goal.returns
returns c = record { stands = put_stands; kept = put_kept }
