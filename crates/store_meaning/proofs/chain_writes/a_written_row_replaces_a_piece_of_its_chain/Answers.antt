use Rattle.store_meaning.proofs.ChainWriteLemmas.{user_piece_content, user_piece_covered, user_tablet_piece, user_tablet_covered}
use Rattle.store_meaning.proofs.chain_writes.a_written_row_replaces_a_piece_of_its_chain.Goals as goal

pub returns : goal.returns
returns c = record {
  content = λ known reading is consistent write table piece replaces. user_piece_content known reading is consistent write table piece replaces;
  covered = λ known reading is consistent write table piece replaces. user_piece_covered known reading is consistent write table piece replaces;
  in_place = λ known reading is. user_tablet_piece known reading is;
  in_place_covered = λ known reading is consistent write change rewrites. user_tablet_covered known reading is consistent write change rewrites;
}
