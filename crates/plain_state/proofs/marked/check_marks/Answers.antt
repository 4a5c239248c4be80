use Rattle.std.proofs.Common.{List, take, sym, subst}
use Rattle.store_layout.specs.declared.tables.TableNode.{TableNode}
use Rattle.state_reader.specs.Still.{ground_of}
use Rattle.state_reader.proofs.RowLists.{one_more}
use Rattle.plain_state.specs.Catalogs.{AreMarksTold}
use Rattle.plain_state.proofs.CatalogLemmas.{marks_more}
use Rattle.plain_state.proofs.marked.check_marks.Goals as goal

pub loop-table-preserved : goal.loop-table-preserved
loop-table-preserved c =
    let known = ground_of c.args.still.now in
    let tables = c.args.tables.now in
    let table = c.table-item.result in
    subst (λ (l : List TableNode). AreMarksTold known l) (sym (one_more tables c.loop-table.table-index table c.loop-table-test.true c.table-item.is))
    (marks_more known (take c.loop-table.table-index tables) table c.loop-table.invariant (rw c.in_default.is at c.in_ok-path.ensures))
