use Rattle.level_index.proofs.RowLemmas.{tablet_row_of, marked_row_of}
use Rattle.level_index.proofs.rows.is_row_of.Goals as goal

pub returns-in-Some-clause-ok : goal.returns-in-Some-clause-ok
returns-in-Some-clause-ok c = tablet_row_of c.args.kind c.args.row.now c.in-Some.table _ (rw c.in-Some.is at c.in_ok-table.ensures.ok) c.is_of_kind.result c.is_of_kind.ensures

pub returns-clause-ok : goal.returns-clause-ok
returns-clause-ok c = marked_row_of c.args.kind c.args.row.now (rw c.in-None.is at c.in_ok-table.ensures.ok) c.is_marked.result c.is_marked.ensures
