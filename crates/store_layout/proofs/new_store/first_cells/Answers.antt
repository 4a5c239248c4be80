use Rattle.std.proofs.Common.{◌≤◌, ◌++◌, ◌∙◌, length, sym, ap, subst, lit≤}
use Rattle.std.specs.Prelude.{IfSome}
use Rattle.metadata_schema.specs.declared.tablet.TabletRecord.{TabletRecord}
use Rattle.data_files.specs.Cells.{AreFileCells}
use Rattle.store_layout.specs.NewStore.{record_cells, table_info}
use Rattle.store_layout.proofs.FirstLemmas.{first_form}
use Rattle.store_layout.proofs.new_store.first_cells.Goals as goal

pub push_record-requires : goal.push_record-requires
push_record-requires c = subst (λ (t : TabletRecord). IfSome t.end (λ row. length row ≤ 256)) (sym c.in_ok-info.ensures) (lit≤ tt)

pub push_record-requires-2 : goal.push_record-requires-2
push_record-requires-2 c = subst (λ (t : TabletRecord). IfSome t.end (λ row. length row ≤ 256)) (sym c.in_ok-last.ensures) tt

pub returns-clause-cells : goal.returns-clause-cells
returns-clause-cells c =
    c.in_ok-push_record-2.ensures
    ∙ ap (λ l. l ++ record_cells c.in_ok-last.last) (c.in_ok-push_record.ensures ∙ ap (λ l. l ++ record_cells c.in_ok-info.info) c.new-cells.ensures.items)
    ∙ ap (λ (t : TabletRecord). record_cells t ++ record_cells c.in_ok-last.last) c.in_ok-info.ensures
    ∙ ap (λ (t : TabletRecord). record_cells table_info ++ record_cells t) c.in_ok-last.ensures

pub returns-clause-form : goal.returns-clause-form
returns-clause-form c = subst AreFileCells (sym (returns-clause-cells c)) first_form
