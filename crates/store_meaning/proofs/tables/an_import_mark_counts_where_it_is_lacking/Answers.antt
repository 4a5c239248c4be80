use Rattle.store_meaning.proofs.MarkLemmas.{outside, inside}
use Rattle.store_meaning.proofs.tables.an_import_mark_counts_where_it_is_lacking.Goals as goal

pub returns : goal.returns
returns c = record {
  outside = λ known rows chain mark layers key below brought. outside known rows chain mark layers key below brought;
  inside = λ known rows chain mark layers key below brought. inside known rows chain mark layers key below brought;
}
