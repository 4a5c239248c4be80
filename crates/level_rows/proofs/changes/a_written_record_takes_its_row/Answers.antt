use Rattle.level_rows.proofs.LookupLemmas.{written-at, written-elsewhere}
use Rattle.level_rows.proofs.changes.a_written_record_takes_its_row.Goals as goal

pub returns : goal.returns
returns c = record {
  same_table = λ tablet before after first second w i end. written-at tablet before after first second w end i;
  other_tables = λ tablet before after first second w table other i end. written-elsewhere tablet before after first second w table other end i;
}
