use Rattle.store_meaning.proofs.ChainWriteLemmas.{user_aside_content, metadata_aside}
use Rattle.store_meaning.proofs.PieceLemmas.{chains_stand}
use Rattle.store_meaning.proofs.chain_writes.a_row_aside_leaves_a_chain.Goals as goal

pub returns : goal.returns
returns c = record {
  stands = chains_stand;
  content = λ known reading is consistent write writes. user_aside_content known reading is consistent write writes;
  metadata = λ known reading is. metadata_aside known reading is;
}
