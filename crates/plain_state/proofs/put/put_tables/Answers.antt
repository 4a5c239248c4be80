use Rattle.std.proofs.Common.{◌≡◌, Contains, List, [], ◌∷◌, ◌++◌, true, false, sym, ◌∙◌, subst, rules, take}
use Rattle.std.specs.Prelude.{IfErr}
use Rattle.std.proofs.lemmas.List.{take_all}
use Rattle.std.proofs.lemmas.Result.{IfErr-weaker}
use Rattle.store_layout.specs.declared.tables.TableNode.{TableNode}
use Rattle.state_reader.specs.Reads.{reading_of}
use Rattle.state_reader.specs.Still.{ground_of}
use Rattle.state_reader.proofs.RowLists.{one_more}
use Rattle.store_meaning.specs.Stands.{is_online}
use Rattle.metadata_schema.specs.declared.tablet.TabletRecord.{TabletRecord}
use Rattle.level_rows.specs.Chain.{rows_of}
use Rattle.plain_reader.specs.Tables.{PutsTable}
use Rattle.plain_state.specs.States.{ArePut, PutFails}
use Rattle.plain_state.proofs.CatalogLemmas.{table_once}
use Rattle.plain_state.proofs.TableLemmas.{put_none, put_skipped, put_more}
use Rattle.plain_state.proofs.PutCauses.{in_front, IsPutFailure, cause_of_put}
use Rattle.plain_state.proofs.put.put_tables.Goals.{then-is_online+in_ok-put, else-is_online}
use Rattle.plain_state.proofs.put.put_tables.Goals as goal

pub loop-table-init : goal.loop-table-init
loop-table-init c = put_none (ground_of c.args.still.now) (reading_of c.args.read.now) c.args.state.now c.requires.nothing

pub loop-table-preserved : goal.loop-table-preserved
loop-table-preserved c =
    let known = ground_of c.args.still.now in
    let reading = reading_of c.args.read.now in
    let tables = c.args.tables.now in
    let table = c.table-item.result in
    let front = take c.loop-table.table-index tables in
    let fresh = table_once known.nodes tables c.requires.tables c.loop-table.table-index table c.loop-table-test.true c.table-item.is in
    subst (λ (l : List TableNode). ArePut known reading l c.if-is_online.state) (sym (one_more tables c.loop-table.table-index table c.loop-table-test.true c.table-item.is)) (elim c.if-is_online.branch [
      | then-is_online+in_ok-put w ↦
          let online : is_online table.state ≡ true = sym c.is_online.ensures ∙ w.if-is_online.true in
          let puts = subst (λ (l : List TabletRecord). PutsTable known (rows_of table.id l) table c.loop-table.state w.put.new.state) w.as_slice.ensures w.in_ok-put.ensures.ok in
          subst (ArePut known reading (front ++ table ∷ [])) (sym w.state-is) (put_more known reading front table c.loop-table.state c.loop-table.invariant fresh w.put.new.state online puts w.in_ok-put.ensures.free)
      | else-is_online w ↦
          let offline : is_online table.state ≡ false = sym c.is_online.ensures ∙ w.if-is_online.false in
          subst (ArePut known reading (front ++ table ∷ [])) (sym w.state-is) (put_skipped known reading front table c.loop-table.state c.loop-table.invariant fresh offline)
    ])

pub returns-in_err-put-clause-cause : goal.returns-in_err-put-clause-cause
returns-in_err-put-clause-cause c =
    let known = ground_of c.args.still.now in
    let reading = reading_of c.args.read.now in
    let tables = c.args.tables.now in
    let table = c.table-item.result in
    let front = take c.loop-table.table-index tables in
    let there : Contains tables table = (c.loop-table.table-index, c.loop-table-test.true, sym c.table-item.is) in
    let fresh = table_once known.nodes tables c.requires.tables c.loop-table.table-index table c.loop-table-test.true c.table-item.is in
    let online : is_online table.state ≡ true = sym c.is_online.ensures ∙ c.if-is_online.true in
    let cause : IsPutFailure known (reading.users.records table.id) table c.loop-table.state c.in_err-put.field-0.0 = record { why = subst (λ (l : List TabletRecord). PutFails known (rows_of table.id l) table c.loop-table.state c.in_err-put.field-0.0) c.as_slice.ensures c.in_err-put.ensures.fails } in
    let failure : IfErr c.from_residual.result (IsPutFailure known (reading.users.records table.id) table c.loop-table.state) = search rules in
    IfErr-weaker c.from_residual.result _ _ (λ fault is. cause_of_put known reading tables front table c.loop-table.state c.requires.levels c.requires.tables (in_front c.loop-table.table-index tables) there c.loop-table.invariant fresh online fault is.why) failure
