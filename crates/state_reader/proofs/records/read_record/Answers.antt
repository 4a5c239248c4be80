use Rattle.std.proofs.Common.{◌∙◌, sym, ap, subst}
use Rattle.std.specs.Prelude.{IsErrOf}
use Rattle.metadata_schema.specs.Refusals.{AreColumns, HasPrev, HasColumns, HasValues}
use Rattle.state_reader.specs.Columns.{HasPair}
use Rattle.state_reader.specs.LevelRows.{IsBadTablet}
use Rattle.state_reader.proofs.ColumnLemmas.{are_columns}
use Rattle.state_reader.proofs.RecordReads.{not_of_kind, record_in}
use Rattle.state_reader.proofs.BadRows.{bad_tablet, refused}
use Rattle.state_reader.proofs.records.read_record.Goals as goal

pub returns-then-not-is_of_kind-clause-ok : goal.returns-then-not-is_of_kind-clause-ok
returns-then-not-is_of_kind-clause-ok c = not_of_kind c.args.kind c.args.row.now c.in-Some.table _ (rw c.in-Some.is at c.in_ok-table.ensures.ok) c.if-not-is_of_kind.ensures

pub record_of-requires-clause-columns : goal.record_of-requires-clause-columns
record_of-requires-clause-columns c = subst AreColumns (sym (c.deref.ensures.value ∙ c.in_ok-columns.ensures)) (are_columns c.args.row.now c.args.pairs.now c.requires)

pub returns-in-Ok-clause-ok : goal.returns-in-Ok-clause-ok
returns-in-Ok-clause-ok c =
    record_in c.args.kind c.args.pairs.now c.args.row.now c.in-Some.table _ c.deref.result.now c.in-Ok.tablet (rw c.in-Some.is at c.in_ok-table.ensures.ok) c.if-not-is_of_kind.ensures (c.deref.ensures.value ∙ c.in_ok-columns.ensures) c.in-Ok.ensures.ok

pub returns-clause-err : goal.returns-clause-err
returns-clause-err c = λ cells newest has.
    let columns = c.deref.ensures.value ∙ c.in_ok-columns.ensures in
    subst (IsBadTablet c.args.kind cells) (sym c.in_ok-copy.ensures) (bad_tablet cells c.args.pairs.now newest c.args.row.now has c.args.kind c.in-Some.table _ c.if-not-is_of_kind.ensures (rw c.in-Some.is at c.in_ok-table.ensures.ok)
    (λ prev named valued. refused c.deref.result.now c.record_of.result c.in-Err.fault c.in-Err.is c.if-is_no_memory.ensures c.record_of.ensures.no_prev c.record_of.ensures.bad_column c.record_of.ensures.bad_value
    (subst HasPrev (sym columns) prev) (subst HasColumns (sym columns) named) (subst HasValues (sym columns) valued)))
