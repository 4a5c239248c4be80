use Rattle.store_meaning.proofs.NamingLemmas.{user_read, metadata_read, root_read}
use Rattle.store_meaning.proofs.writes.a_written_row_leaves_a_readable_ground.Goals as goal

pub returns : goal.returns
returns c = record {
  user = λ known reading write is writes names unsorted. user_read known reading is write writes names unsorted;
  metadata = λ known reading write chain is writes names unsorted. metadata_read known reading is write chain writes names unsorted;
  root = λ known reading nodes root is writes names. root_read known reading is nodes root writes names;
}
