use Rattle.std.proofs.Common.{sym, subst, ◌∙◌, rules}
use Rattle.metadata_schema.specs.Refusals.{HasPrev, HasColumns, HasValues}
use Rattle.metadata_schema.specs.Records.{IsRecordOf}
use Rattle.state_reader.specs.Roots.{SpellsColumns}
use Rattle.state_reader.proofs.BadRows.{refused}
use Rattle.state_reader.proofs.RootReads.{root_read, no_record}
use Rattle.state_reader.proofs.root.root_of.Goals as goal

pub returns-in-Ok : goal.returns-in-Ok
returns-in-Ok c =
    root_read c.args.value.now c.in-Some.columns.items c.in_ok-row.row c.in-Ok.root (rw c.in-Some.is at c.in_ok-columns.ensures) c.in_ok-row.ensures.is (subst (λ us. IsRecordOf c.in_ok-row.row us c.in-Ok.root) c.deref.ensures.value c.in-Ok.ensures.ok)

pub returns : goal.returns
returns c =
    no_record c.args.value.now c.in-Some.columns.items c.requires (rw c.in-Some.is at c.in_ok-columns.ensures)
    (λ prev named valued. refused c.deref.result.now c.record_of.result c.in-Err.fault c.in-Err.is c.if-is_no_memory.ensures c.record_of.ensures.no_prev c.record_of.ensures.bad_column c.record_of.ensures.bad_value
    (subst HasPrev (sym c.deref.ensures.value) prev) (subst HasColumns (sym c.deref.ensures.value) named) (subst HasValues (sym c.deref.ensures.value) valued))
