use Rattle.level_rows.proofs.LookupLemmas.{gone-at, gone-elsewhere}
use Rattle.level_rows.proofs.changes.a_row_taken_out_is_gone.Goals as goal

pub returns : goal.returns
returns c = record {
  same_table = λ table gone before after first second w i end. gone-at table gone before after first second w end i;
  other_tables = λ table gone before after first second w other apart i end. gone-elsewhere table gone before after first second w other apart end i;
}
