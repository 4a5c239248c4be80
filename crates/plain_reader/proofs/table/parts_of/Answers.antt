use Rattle.std.proofs.Common.{sym, subst, rules}
use Rattle.std.specs.Prelude.{IfErr}
use Rattle.std.proofs.lemmas.Result.{IfErr-weaker}
use Rattle.level_rows.specs.Chain.{rows_of}
use Rattle.state_reader.specs.Lacks.{AreOfTable}
use Rattle.state_reader.specs.Still.{ground_of}
use Rattle.state_reader.proofs.LackLemmas.{chain_of_table}
use Rattle.plain_reader.proofs.PartLemmas.{IsAnyCause, IsTabletCause, IsMarkCause}
use Rattle.plain_reader.proofs.table.parts_of.Goals as goal

pub returns-in_err-chain-clause-cause : goal.returns-in_err-chain-clause-cause
returns-in_err-chain-clause-cause c =
    let rows = rows_of c.args.table.now c.args.records.now in
    let cause : IsAnyCause rows c.in_err-chain.field-0.0 = record { why = c.in_err-chain.ensures.cause } in
    let known : IfErr c.from_residual.result (IsAnyCause rows) = search rules in
    IfErr-weaker c.from_residual.result _ _ (λ fault is. is.why (ground_of c.args.still.now) c.args.mark.now) known

pub returns-in_err-cells-clause-cause : goal.returns-in_err-cells-clause-cause
returns-in_err-cells-clause-cause c =
    let ground = ground_of c.args.still.now in
    let rows = rows_of c.args.table.now c.args.records.now in
    let cause : IsTabletCause ground rows c.in_err-cells.field-0.0 = record { why = c.in_err-cells.ensures.cause } in
    let known : IfErr c.from_residual-in_err-cells.result (IsTabletCause ground rows) = search rules in
    IfErr-weaker c.from_residual-in_err-cells.result _ _ (λ fault is. is.why c.args.mark.now) known

pub returns-in_err-check_tablets-clause-cause : goal.returns-in_err-check_tablets-clause-cause
returns-in_err-check_tablets-clause-cause c =
    let ground = ground_of c.args.still.now in
    let rows = rows_of c.args.table.now c.args.records.now in
    let cause : IsTabletCause ground rows c.in_err-check_tablets.field-0.0 = record { why = c.in_err-check_tablets.ensures.cause } in
    let known : IfErr c.from_residual-in_err-check_tablets.result (IsTabletCause ground rows) = search rules in
    IfErr-weaker c.from_residual-in_err-check_tablets.result _ _ (λ fault is. is.why c.args.mark.now) known

pub mark_layers-requires : goal.mark_layers-requires
mark_layers-requires c = subst (AreOfTable c.args.table.now) (sym c.deref-3.ensures.value) (chain_of_table c.args.table.now c.args.records.now c.in_ok-chain.chain.items c.in_ok-chain.ensures.ok)

pub returns-in_err-layers-clause-cause : goal.returns-in_err-layers-clause-cause
returns-in_err-layers-clause-cause c =
    let ground = ground_of c.args.still.now in
    let mark = c.args.mark.now in
    let cause : IsMarkCause ground mark c.in_err-layers.field-0.0 = record { why = c.in_err-layers.ensures.cause } in
    let known : IfErr c.from_residual-in_err-layers.result (IsMarkCause ground mark) = search rules in
    IfErr-weaker c.from_residual-in_err-layers.result _ _ (λ fault is. is.why (rows_of c.args.table.now c.args.records.now)) known
