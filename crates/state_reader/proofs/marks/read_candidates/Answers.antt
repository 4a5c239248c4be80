use Rattle.std.proofs.Common.{◌∙◌, ◌++◌, ◌∷◌, [], List, ℕ, take, sym, ap, subst, rules}
use Rattle.std.specs.Prelude.{IfErr}
use Rattle.std.specs.Option.{MatchOption}
use Rattle.std.proofs.lemmas.Result.{IfErr-weaker}
use Rattle.cell_merge.specs.declared.cell.Cell.{Cell}
use Rattle.cell_merge.specs.Newest.{IsNewest}
use Rattle.state_reader.specs.declared.level.LevelKind.{LevelKind}
use Rattle.state_reader.specs.Columns.{HasPair}
use Rattle.state_reader.specs.LevelRows.{LevelCause}
use Rattle.state_reader.specs.RowReads.{AreCandidatesIn, IsCandidateIn, IsNoCandidateRow}
use Rattle.state_reader.proofs.BadRows.{IsCauseOfBoth}
use Rattle.state_reader.proofs.RowLists.{one_more}
use Rattle.state_reader.proofs.RecordReads.{candidates_none, candidates_push}
use Rattle.state_reader.proofs.marks.read_candidates.Goals.{in-Some+in_ok-push_item, in_default}
use Rattle.state_reader.proofs.marks.read_candidates.Goals as goal

pub returns-in_err-path-clause-err : goal.returns-in_err-path-clause-err
returns-in_err-path-clause-err c =
    let row = c.row-item.result in
    let cause : IsCauseOfBoth c.args.pairs.now row c.in_err-path.field-0.0 = record { why = c.in_err-path.ensures.err } in
    let known : IfErr c.from_residual.result (IsCauseOfBoth c.args.pairs.now row) = search rules in
    IfErr-weaker c.from_residual.result _ _ (λ fault is kind cells newest all. is.why kind cells newest (all row (c.loop-row.row-index, c.loop-row-test.true, sym c.row-item.is))) known

pub loop-row-preserved : goal.loop-row-preserved
loop-row-preserved c =
    let pairs = c.args.pairs.now in
    let rows = take c.loop-row.row-index c.args.rows.now in
    let row = c.row-item.result in
    let paths = c.loop-row.paths.items in
    let more = sym (one_more c.args.rows.now c.loop-row.row-index row c.loop-row-test.true c.row-item.is) in
    subst (λ (l : List (List ℕ)). AreCandidatesIn pairs l c.match-branch-2.paths.items) more (elim c.match-branch-2.branch [
      | in-Some+in_ok-push_item w ↦
          let pushed = ap (λ v. v.items) w.paths-is ∙ w.in_ok-push_item.ensures in
          let one = subst (λ o. MatchOption o (IsNoCandidateRow row) (IsCandidateIn pairs row)) w.in-Some.is c.in_ok-path.ensures.ok in
          subst (AreCandidatesIn pairs (rows ++ row ∷ [])) (sym pushed) (candidates_push pairs rows row paths c.loop-row.invariant w.in-Some.path one)
      | in_default w ↦
          let none = subst (λ o. MatchOption o (IsNoCandidateRow row) (IsCandidateIn pairs row)) w.in_default.is c.in_ok-path.ensures.ok in
          subst (AreCandidatesIn pairs (rows ++ row ∷ [])) (sym (ap (λ v. v.items) w.paths-is)) (candidates_none pairs rows row paths c.loop-row.invariant none)
    ])
