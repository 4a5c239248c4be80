use Rattle.store_meaning.proofs.PieceLemmas.{piece_content, piece_covered}
use Rattle.store_meaning.proofs.RecordPieces.{record_replaced, record_content}
use Rattle.store_meaning.proofs.chain_writes.a_replaced_piece_leaves_the_rest.Goals as goal

pub returns : goal.returns
returns c = record {
  content = λ known old new piece replaces. piece_content known old new piece replaces;
  covered = λ known old new piece replaces all was is. piece_covered known old new piece replaces all was is;
  in_place = record_replaced;
  in_place_content = record_content;
}
