use Rattle.store_meaning.specs.ChainWrites.{chain_after, piece_of}
use Rattle.kept_meaning.proofs.MetadataLemmas.{metadata_stands, metadata_kept}
use Rattle.kept_meaning.proofs.UpperLemmas.{metadata_holder, metadata_flush, metadata_files}
use Rattle.kept_meaning.proofs.upper_rows.a_metadata_row_keeps_the_state.Goals as goal

pub returns : goal.returns
returns c = record {
  stands = λ reading catalog known state is write chain change. metadata_stands reading catalog known state write chain change is;
  kept = λ reading catalog known state is write chain change. metadata_kept reading catalog known state write chain change is;
  holder = λ reading catalog known state is write change holder. metadata_kept reading catalog known state write (chain_after (piece_of change)) (metadata_holder reading known is.stands.read.levels write change holder) is;
  flush = λ reading catalog known state is write change flush. metadata_kept reading catalog known state write (chain_after (piece_of change)) (metadata_flush reading known is.stands.read.levels write change flush) is;
  files = λ reading catalog known state is write change files. metadata_kept reading catalog known state write (chain_after (piece_of change)) (metadata_files reading known is.stands.read.levels write change files) is;
}
