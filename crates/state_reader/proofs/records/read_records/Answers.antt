use Rattle.std.proofs.Common.{◌∙◌, ◌++◌, ◌∷◌, [], List, ℕ, take, sym, ap, subst, rules}
use Rattle.std.specs.Prelude.{IfErr}
use Rattle.std.specs.Option.{MatchOption}
use Rattle.std.proofs.lemmas.Result.{IfErr-weaker}
use Rattle.metadata_schema.specs.declared.tablet.TabletRecord.{TabletRecord}
use Rattle.cell_merge.specs.declared.cell.Cell.{Cell}
use Rattle.cell_merge.specs.Newest.{IsNewest}
use Rattle.state_reader.specs.Columns.{HasPair}
use Rattle.state_reader.specs.LevelRows.{LevelCause}
use Rattle.state_reader.specs.RowReads.{AreRecordsIn, IsRecordIn, IsNoTabletRow}
use Rattle.state_reader.proofs.BadRows.{IsCauseAt}
use Rattle.state_reader.proofs.RowLists.{one_more}
use Rattle.state_reader.proofs.RecordReads.{records_none, records_push}
use Rattle.state_reader.proofs.records.read_records.Goals.{in-Some+in_ok-push_item, in_default}
use Rattle.state_reader.proofs.records.read_records.Goals as goal

pub returns-in_err-tablet-clause-err : goal.returns-in_err-tablet-clause-err
returns-in_err-tablet-clause-err c =
    let row = c.row-item.result in
    let cause : IsCauseAt c.args.kind c.args.pairs.now row c.in_err-tablet.field-0.0 = record { why = c.in_err-tablet.ensures.err } in
    let known : IfErr c.from_residual.result (IsCauseAt c.args.kind c.args.pairs.now row) = search rules in
    IfErr-weaker c.from_residual.result _ _ (λ fault is cells newest all. is.why cells newest (all row (c.loop-row.row-index, c.loop-row-test.true, sym c.row-item.is))) known

pub loop-row-preserved : goal.loop-row-preserved
loop-row-preserved c =
    let kind = c.args.kind in
    let pairs = c.args.pairs.now in
    let rows = take c.loop-row.row-index c.args.rows.now in
    let row = c.row-item.result in
    let records = c.loop-row.records.items in
    let more = sym (one_more c.args.rows.now c.loop-row.row-index row c.loop-row-test.true c.row-item.is) in
    subst (λ (l : List (List ℕ)). AreRecordsIn kind pairs l c.match-branch-2.records.items) more (elim c.match-branch-2.branch [
      | in-Some+in_ok-push_item w ↦
          let pushed = ap (λ v. v.items) w.records-is ∙ w.in_ok-push_item.ensures in
          let one = subst (λ o. MatchOption o (IsNoTabletRow kind row) (IsRecordIn kind pairs row)) w.in-Some.is c.in_ok-tablet.ensures.ok in
          subst (AreRecordsIn kind pairs (rows ++ row ∷ [])) (sym pushed) (records_push kind pairs rows row records c.loop-row.invariant w.in-Some.tablet one)
      | in_default w ↦
          let none = subst (λ o. MatchOption o (IsNoTabletRow kind row) (IsRecordIn kind pairs row)) w.in_default.is c.in_ok-tablet.ensures.ok in
          subst (AreRecordsIn kind pairs (rows ++ row ∷ [])) (sym (ap (λ v. v.items) w.records-is)) (records_none kind pairs rows row records c.loop-row.invariant none)
    ])
