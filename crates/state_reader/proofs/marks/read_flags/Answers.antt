use Rattle.std.proofs.Common.{◌∙◌, ◌++◌, ◌∷◌, [], List, ℕ, take, sym, ap, subst, rules}
use Rattle.std.specs.Prelude.{IfErr}
use Rattle.std.specs.Option.{MatchOption}
use Rattle.std.proofs.lemmas.Result.{IfErr-weaker}
use Rattle.cell_merge.specs.declared.cell.Cell.{Cell}
use Rattle.cell_merge.specs.Newest.{IsNewest}
use Rattle.state_reader.specs.declared.level.LevelKind.{LevelKind}
use Rattle.state_reader.specs.Columns.{HasPair}
use Rattle.state_reader.specs.LevelRows.{LevelCause}
use Rattle.state_reader.specs.RowReads.{AreFlagsIn, IsFlagIn, IsNoFlagRow}
use Rattle.state_reader.proofs.BadRows.{IsCauseOfBoth}
use Rattle.state_reader.proofs.RowLists.{one_more}
use Rattle.state_reader.proofs.RecordReads.{flags_none, flags_push}
use Rattle.state_reader.proofs.marks.read_flags.Goals.{in-Some+in_ok-push_item, in_default}
use Rattle.state_reader.proofs.marks.read_flags.Goals as goal

pub returns-in_err-flag-clause-err : goal.returns-in_err-flag-clause-err
returns-in_err-flag-clause-err c =
    let row = c.row-item.result in
    let cause : IsCauseOfBoth c.args.pairs.now row c.in_err-flag.field-0.0 = record { why = c.in_err-flag.ensures.err } in
    let known : IfErr c.from_residual.result (IsCauseOfBoth c.args.pairs.now row) = search rules in
    IfErr-weaker c.from_residual.result _ _ (λ fault is kind cells newest all. is.why kind cells newest (all row (c.loop-row.row-index, c.loop-row-test.true, sym c.row-item.is))) known

pub loop-row-preserved : goal.loop-row-preserved
loop-row-preserved c =
    let pairs = c.args.pairs.now in
    let rows = take c.loop-row.row-index c.args.rows.now in
    let row = c.row-item.result in
    let flags = c.loop-row.flags.items in
    let more = sym (one_more c.args.rows.now c.loop-row.row-index row c.loop-row-test.true c.row-item.is) in
    subst (λ (l : List (List ℕ)). AreFlagsIn pairs l c.match-branch-2.flags.items) more (elim c.match-branch-2.branch [
      | in-Some+in_ok-push_item w ↦
          let pushed = ap (λ v. v.items) w.flags-is ∙ w.in_ok-push_item.ensures in
          let one = subst (λ o. MatchOption o (IsNoFlagRow row) (IsFlagIn pairs row)) w.in-Some.is c.in_ok-flag.ensures.ok in
          subst (AreFlagsIn pairs (rows ++ row ∷ [])) (sym pushed) (flags_push pairs rows row flags c.loop-row.invariant w.in-Some.flag one)
      | in_default w ↦
          let none = subst (λ o. MatchOption o (IsNoFlagRow row) (IsFlagIn pairs row)) w.in_default.is c.in_ok-flag.ensures.ok in
          subst (AreFlagsIn pairs (rows ++ row ∷ [])) (sym (ap (λ v. v.items) w.flags-is)) (flags_none pairs rows row flags c.loop-row.invariant none)
    ])
