use Rattle.store_meaning.proofs.ChainWriteLemmas.{put_reading, put_gained, put_consistent, put_elsewhere}
use Rattle.store_meaning.proofs.NamingLemmas.{put_read}
use Rattle.store_meaning.proofs.chain_writes.cells_put_count_in_their_table_alone.Goals as goal

pub returns : goal.returns
returns c = record {
  reading = λ known reading is log mutation chain puts. put_reading known reading is log mutation chain puts;
  readable = λ known reading is log mutation chain puts unsorted. put_read known reading is log mutation chain puts unsorted;
  gained = λ known reading is log mutation chain puts. put_gained known reading is log mutation chain puts;
  consistent = λ known reading is log mutation chain puts. put_consistent known reading is log mutation chain puts;
  elsewhere = λ known reading is log mutation chain puts. put_elsewhere known reading is log mutation chain puts;
}
