use Rattle.level_rows.proofs.SplitLemmas.{merged_at, left_between}
use Rattle.level_rows.proofs.changes.a_merge_leaves_one_record_for_its_piece.Goals as goal

pub returns : goal.returns
returns c = record { chain = merged_at; left = left_between }
