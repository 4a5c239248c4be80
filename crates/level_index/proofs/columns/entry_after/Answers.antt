use Rattle.std.proofs.Common.{◌≡◌, ◌∙◌, List, Some, None, sym, subst, ap}
use Rattle.cell_merge.specs.declared.cell.Cell.{Cell}
use Rattle.cell_merge.specs.declared.cell.Pair.{Pair}
use Rattle.cell_merge.specs.Newest.{IsNewest}
use Rattle.std.specs.Prelude.{slice_get}
use Rattle.state_reader.specs.Columns.{HasPair}
use Rattle.level_index.specs.RowReads.{IsEntryIn}
use Rattle.level_index.specs.Writes.{GivesEntry, updated_cells}
use Rattle.level_index.proofs.MakeLemmas.{if_nothing, first_none, first_some}
use Rattle.level_index.proofs.WriteLemmas.{gives_nothing, gives_entry, gives_bad, has_row}
use Rattle.level_index.proofs.columns.entry_after.Goals as goal

pub returns-in_default-clause-ok : goal.returns-in_default-clause-ok
returns-in_default-clause-ok c =
    let newest = subst (λ (l : List Cell). IsNewest l c.in_ok-pairs.pairs.items) (c.deref.ensures.value ∙ c.in_ok-cells.ensures) c.in_ok-pairs.ensures in
    let none : slice_get c.in_ok-pairs.pairs.items 0 ≡ None = ap (λ (l : List Pair). slice_get l 0) (sym c.deref-2.ensures.value) ∙ sym c.in_default.ensures.value in
    if_nothing c.args.kind c.args.row.now c.nothing_at.result (GivesEntry c.args.kind c.args.columns.now c.args.row.now c.args.updates.now) c.nothing_at.ensures.none c.nothing_at.ensures.ok
    (gives_nothing c.args.columns.now c.args.row.now c.args.updates.now c.args.kind c.in_ok-pairs.pairs.items newest (first_none c.in_ok-pairs.pairs.items none))

pub returns-in-Ok-Some-clause-ok : goal.returns-in-Ok-Some-clause-ok
returns-in-Ok-Some-clause-ok c =
    let newest = subst (λ (l : List Cell). IsNewest l c.in_ok-pairs.pairs.items) (c.deref.ensures.value ∙ c.in_ok-cells.ensures) c.in_ok-pairs.ensures in
    let found = subst (λ (l : List Pair). IsEntryIn c.args.kind l c.args.row.now c.in-Ok-Some.entry) c.deref-3.ensures.value (rw c.in-Ok-Some.field-0-is at c.in-Ok-Some.ensures.ok) in
    gives_entry c.args.columns.now c.args.row.now c.args.updates.now c.args.kind c.in_ok-pairs.pairs.items newest c.in-Ok-Some.entry found

pub returns-in-Err-Bad-clause-cause : goal.returns-in-Err-Bad-clause-cause
returns-in-Err-Bad-clause-cause c =
    let newest = subst (λ (l : List Cell). IsNewest l c.in_ok-pairs.pairs.items) (c.deref.ensures.value ∙ c.in_ok-cells.ensures) c.in_ok-pairs.ensures in
    let some : slice_get c.in_ok-pairs.pairs.items 0 ≡ Some c.in-Some._first.now = ap (λ (l : List Pair). slice_get l 0) (sym c.deref-2.ensures.value) ∙ sym c.in-Some.ensures.value in
    let has = has_row c.args.columns.now c.args.row.now c.args.updates.now c.args.kind c.in_ok-pairs.pairs.items newest c.in-Some._first.now (first_some c.in_ok-pairs.pairs.items c.in-Some._first.now some) in
    let cells = updated_cells c.args.columns.now c.args.row.now c.args.updates.now in
    gives_bad c.args.columns.now c.args.row.now c.args.updates.now c.args.kind c.in-Err-Bad.field-0-0
    ((rw c.in-Err-Bad.field-0-is at c.in-Err-Bad.ensures.err) cells (subst (IsNewest cells) (sym c.deref-3.ensures.value) newest) (subst (λ (l : List Pair). HasPair l c.args.row.now) (sym c.deref-3.ensures.value) has))
