use Rattle.std.proofs.Common.{sym, subst, ◌∙◌}
use Rattle.metadata_schema.specs.Refusals.{AreColumns}
use Rattle.cell_merge.specs.Newest.{IsNewest}
use Rattle.store_meaning.specs.Levels.{SpellsRow}
use Rattle.state_reader.proofs.ColumnLemmas.{spells_in, are_columns}
use Rattle.state_reader.proofs.columns.row_columns.Goals as goal

pub returns-clause-spells : goal.returns-clause-spells
returns-clause-spells c =
    let newest = subst (IsNewest c.args.cells.now) (sym c.deref.ensures.value) c.in_ok-pairs.ensures in
    subst (SpellsRow c.args.cells.now c.args.row.now) (sym (c.from_vec.ensures ∙ c.in_ok-columns.ensures)) (spells_in c.args.cells.now c.deref.result.now newest c.args.row.now)

pub returns-clause-columns : goal.returns-clause-columns
returns-clause-columns c =
    let newest = subst (IsNewest c.args.cells.now) (sym c.deref.ensures.value) c.in_ok-pairs.ensures in
    subst AreColumns (sym (c.from_vec.ensures ∙ c.in_ok-columns.ensures)) (are_columns c.args.row.now c.deref.result.now newest.rising)
