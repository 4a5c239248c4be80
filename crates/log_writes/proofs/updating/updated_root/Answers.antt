use Rattle.std.proofs.Common.{◌∙◌, List, sym, ap, subst}
use Rattle.metadata_schema.specs.declared.mutation.Update.{Update}
use Rattle.metadata_schema.specs.Records.{IsRecordOf}
use Rattle.metadata_schema.specs.Refusals.{HasPrev, HasColumns, HasValues}
use Rattle.cell_merge.specs.declared.cell.Cell.{Cell}
use Rattle.store_meaning.specs.Levels.{SpellsRow}
use Rattle.state_reader.proofs.BadRows.{refused}
use Rattle.log_writes.specs.Updating.{updated_cells}
use Rattle.log_writes.proofs.UpdateLemmas.{updates_root, updates_none, cause_of}
use Rattle.log_writes.proofs.updating.updated_root.Goals as goal

pub returns-in-Ok-clause-ok : goal.returns-in-Ok-clause-ok
returns-in-Ok-clause-ok c =
    let row = c.in_ok-row.row in
    let columns = c.in_ok-columns.columns in
    let cells = c.deref-2.ensures.value ∙ c.in_ok-cells.ensures ∙ ap (λ (old : List Update). updated_cells old row c.args.updates.now) (c.deref.ensures.value ∙ c.in_ok-old.ensures) in
    let spells = subst (λ (l : List Cell). SpellsRow l row columns) cells c.in_ok-columns.ensures.spells in
    updates_root c.args.root.now c.args.updates.now row c.in_ok-row.ensures.is columns spells c.in-Ok.updated (subst (λ (l : List Update). IsRecordOf row l c.in-Ok.updated) c.as_slice.ensures c.in-Ok.ensures.ok)

pub returns-clause-cause : goal.returns-clause-cause
returns-clause-cause c =
    let row = c.in_ok-row.row in
    let columns = c.in_ok-columns.columns in
    let cells = c.deref-2.ensures.value ∙ c.in_ok-cells.ensures ∙ ap (λ (old : List Update). updated_cells old row c.args.updates.now) (c.deref.ensures.value ∙ c.in_ok-old.ensures) in
    let spells = subst (λ (l : List Cell). SpellsRow l row columns) cells c.in_ok-columns.ensures.spells in
    cause_of c.args.root.now c.args.updates.now c.in-Err.fault c.fault_of.result c.fault_of.ensures
    (λ other. updates_none c.args.root.now c.args.updates.now row c.in_ok-row.ensures.is columns spells c.in_ok-columns.ensures.columns
    (λ prev named valued. refused c.as_slice.result.now c.record_of.result c.in-Err.fault c.in-Err.is other c.record_of.ensures.no_prev c.record_of.ensures.bad_column c.record_of.ensures.bad_value
    (subst HasPrev (sym c.as_slice.ensures) prev) (subst HasColumns (sym c.as_slice.ensures) named) (subst HasValues (sym c.as_slice.ensures) valued)))
