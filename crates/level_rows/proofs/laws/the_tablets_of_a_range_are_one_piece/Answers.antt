use Rattle.level_rows.proofs.RangeLemmas.{piece_of}
use Rattle.level_rows.proofs.laws.the_tablets_of_a_range_are_one_piece.Goals as goal

pub returns : goal.returns
returns c = piece_of
