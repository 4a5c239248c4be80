use Rattle.store_meaning.proofs.WrittenLemmas.{user_reading, metadata_reading, root_reading}
use Rattle.store_meaning.proofs.writes.a_written_row_replaces_that_row_alone.Goals as goal

pub returns : goal.returns
returns c = record {
  user = λ known reading write is consistent writes. user_reading known reading is consistent write writes;
  metadata = λ known reading write chain is root consistent writes. metadata_reading known reading is root consistent write chain writes;
  root = λ known reading nodes root is consistent writes. root_reading known reading is consistent nodes root writes;
}
