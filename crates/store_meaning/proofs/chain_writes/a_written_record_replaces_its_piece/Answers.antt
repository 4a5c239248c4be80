use Rattle.store_meaning.proofs.RecordPieces.{over_piece, free_piece}
use Rattle.store_meaning.proofs.chain_writes.a_written_record_replaces_its_piece.Goals as goal

pub returns : goal.returns
returns c = record { over = over_piece; free = free_piece }
