use Rattle.std.proofs.Common.{◌∙◌, List, ℕ, sym, subst, rules}
use Rattle.std.specs.Prelude.{IfErr}
use Rattle.std.proofs.lemmas.Result.{IfErr-weaker}
use Rattle.cell_merge.specs.declared.cell.Pair.{Pair}
use Rattle.cell_merge.specs.Newest.{IsNewest}
use Rattle.state_reader.specs.Columns.{AreRowsOf}
use Rattle.state_reader.specs.RowReads.{AreRecordsIn, AreCandidatesIn, AreFlagsIn}
use Rattle.state_reader.proofs.LevelReads.{level_is}
use Rattle.state_reader.proofs.NoLevels.{IsLevelCause, excludes, all_paired, rows_in}
use Rattle.state_reader.proofs.reading_level.read_level.Goals as goal

pub returns-in_err-records-clause-cause : goal.returns-in_err-records-clause-cause
returns-in_err-records-clause-cause c =
    let cells = c.args.cells.now in
    let newest = subst (IsNewest cells) (sym c.deref-2.ensures.value) c.in_ok-pairs.ensures in
    let rows = rows_in c.deref.result.now c.deref-2.result.now c.in_ok-rows.rows.items c.deref-3.result.now (c.deref.ensures.value ∙ sym c.deref-2.ensures.value) (sym c.deref-3.ensures.value) c.in_ok-rows.ensures in
    let cause : IsLevelCause c.args.kind cells c.in_err-records.field-0.0 = record { why = c.in_err-records.ensures.err cells newest (all_paired c.deref-2.result.now c.deref-3.result.now rows) } in
    let known : IfErr c.from_residual-in_err-records.result (IsLevelCause c.args.kind cells) = search rules in
    IfErr-weaker c.from_residual-in_err-records.result _ _ (λ fault is. is.why) known

pub returns-in_err-records-clause-none : goal.returns-in_err-records-clause-none
returns-in_err-records-clause-none c =
    let cells = c.args.cells.now in
    let newest = subst (IsNewest cells) (sym c.deref-2.ensures.value) c.in_ok-pairs.ensures in
    let rows = rows_in c.deref.result.now c.deref-2.result.now c.in_ok-rows.rows.items c.deref-3.result.now (c.deref.ensures.value ∙ sym c.deref-2.ensures.value) (sym c.deref-3.ensures.value) c.in_ok-rows.ensures in
    let cause : IsLevelCause c.args.kind cells c.in_err-records.field-0.0 = record { why = c.in_err-records.ensures.err cells newest (all_paired c.deref-2.result.now c.deref-3.result.now rows) } in
    let known : IfErr c.from_residual-in_err-records.result (IsLevelCause c.args.kind cells) = search rules in
    IfErr-weaker c.from_residual-in_err-records.result _ _ (λ fault is. excludes c.args.kind cells fault is) known

pub returns-in_err-candidates-clause-cause : goal.returns-in_err-candidates-clause-cause
returns-in_err-candidates-clause-cause c =
    let cells = c.args.cells.now in
    let newest = subst (IsNewest cells) (sym c.deref-4.ensures.value) c.in_ok-pairs.ensures in
    let rows = rows_in c.deref.result.now c.deref-4.result.now c.in_ok-rows.rows.items c.deref-5.result.now (c.deref.ensures.value ∙ sym c.deref-4.ensures.value) (sym c.deref-5.ensures.value) c.in_ok-rows.ensures in
    let cause : IsLevelCause c.args.kind cells c.in_err-candidates.field-0.0 = record { why = c.in_err-candidates.ensures.err c.args.kind cells newest (all_paired c.deref-4.result.now c.deref-5.result.now rows) } in
    let known : IfErr c.from_residual-in_err-candidates.result (IsLevelCause c.args.kind cells) = search rules in
    IfErr-weaker c.from_residual-in_err-candidates.result _ _ (λ fault is. is.why) known

pub returns-in_err-candidates-clause-none : goal.returns-in_err-candidates-clause-none
returns-in_err-candidates-clause-none c =
    let cells = c.args.cells.now in
    let newest = subst (IsNewest cells) (sym c.deref-4.ensures.value) c.in_ok-pairs.ensures in
    let rows = rows_in c.deref.result.now c.deref-4.result.now c.in_ok-rows.rows.items c.deref-5.result.now (c.deref.ensures.value ∙ sym c.deref-4.ensures.value) (sym c.deref-5.ensures.value) c.in_ok-rows.ensures in
    let cause : IsLevelCause c.args.kind cells c.in_err-candidates.field-0.0 = record { why = c.in_err-candidates.ensures.err c.args.kind cells newest (all_paired c.deref-4.result.now c.deref-5.result.now rows) } in
    let known : IfErr c.from_residual-in_err-candidates.result (IsLevelCause c.args.kind cells) = search rules in
    IfErr-weaker c.from_residual-in_err-candidates.result _ _ (λ fault is. excludes c.args.kind cells fault is) known

pub returns-in_err-flags-clause-cause : goal.returns-in_err-flags-clause-cause
returns-in_err-flags-clause-cause c =
    let cells = c.args.cells.now in
    let newest = subst (IsNewest cells) (sym c.deref-6.ensures.value) c.in_ok-pairs.ensures in
    let rows = rows_in c.deref.result.now c.deref-6.result.now c.in_ok-rows.rows.items c.deref-7.result.now (c.deref.ensures.value ∙ sym c.deref-6.ensures.value) (sym c.deref-7.ensures.value) c.in_ok-rows.ensures in
    let cause : IsLevelCause c.args.kind cells c.in_err-flags.field-0.0 = record { why = c.in_err-flags.ensures.err c.args.kind cells newest (all_paired c.deref-6.result.now c.deref-7.result.now rows) } in
    let known : IfErr c.from_residual-in_err-flags.result (IsLevelCause c.args.kind cells) = search rules in
    IfErr-weaker c.from_residual-in_err-flags.result _ _ (λ fault is. is.why) known

pub returns-in_err-flags-clause-none : goal.returns-in_err-flags-clause-none
returns-in_err-flags-clause-none c =
    let cells = c.args.cells.now in
    let newest = subst (IsNewest cells) (sym c.deref-6.ensures.value) c.in_ok-pairs.ensures in
    let rows = rows_in c.deref.result.now c.deref-6.result.now c.in_ok-rows.rows.items c.deref-7.result.now (c.deref.ensures.value ∙ sym c.deref-6.ensures.value) (sym c.deref-7.ensures.value) c.in_ok-rows.ensures in
    let cause : IsLevelCause c.args.kind cells c.in_err-flags.field-0.0 = record { why = c.in_err-flags.ensures.err c.args.kind cells newest (all_paired c.deref-6.result.now c.deref-7.result.now rows) } in
    let known : IfErr c.from_residual-in_err-flags.result (IsLevelCause c.args.kind cells) = search rules in
    IfErr-weaker c.from_residual-in_err-flags.result _ _ (λ fault is. excludes c.args.kind cells fault is) known

pub returns-clause-ok : goal.returns-clause-ok
returns-clause-ok c =
    let kind = c.args.kind in
    let pairs = c.in_ok-pairs.pairs.items in
    let rows = c.in_ok-rows.rows.items in
    let are = subst (λ (l : List Pair). AreRowsOf l rows) c.deref.ensures.value c.in_ok-rows.ensures in
    let records = subst (λ (l : List Pair). AreRecordsIn kind l rows c.in_ok-records.records) c.deref-2.ensures.value (subst (λ (l : List (List ℕ)). AreRecordsIn kind c.deref-2.result.now l c.in_ok-records.records) c.deref-3.ensures.value c.in_ok-records.ensures.ok) in
    let candidates = subst (λ (l : List Pair). AreCandidatesIn l rows c.in_ok-candidates.candidates) c.deref-4.ensures.value (subst (λ (l : List (List ℕ)). AreCandidatesIn c.deref-4.result.now l c.in_ok-candidates.candidates) c.deref-5.ensures.value c.in_ok-candidates.ensures.ok) in
    let flags = subst (λ (l : List Pair). AreFlagsIn l rows c.in_ok-flags.flags) c.deref-6.ensures.value (subst (λ (l : List (List ℕ)). AreFlagsIn c.deref-6.result.now l c.in_ok-flags.flags) c.deref-7.ensures.value c.in_ok-flags.ensures.ok) in
    level_is kind c.args.cells.now pairs c.in_ok-pairs.ensures rows are (record { records = c.in_ok-records.records; candidates = c.in_ok-candidates.candidates; flags = c.in_ok-flags.flags }) records candidates flags
