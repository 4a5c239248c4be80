use Rattle.std.proofs.Common.{refl}
use Rattle.store_meaning.proofs.ChainWriteLemmas.{rows_with_record, rows_without_record, rows_of_other_table}
use Rattle.store_meaning.proofs.chain_writes.a_written_record_is_one_of_its_table.Goals as goal

pub returns : goal.returns
returns c = record {
  written = rows_with_record;
  taken_out = rows_without_record;
  other_tables = rows_of_other_table;
  candidates = λ level path is_there. refl;
  flags = λ level path flag. refl;
}
