use Rattle.std.proofs.Common.{sym, subst, List}
use Rattle.std.proofs.lemmas.Result.{IfOk-weaker}
use Rattle.metadata_schema.specs.declared.tablet.TabletRecord.{TabletRecord}
use Rattle.level_rows.specs.Chain.{Rows, rows_of, IsChain}
use Rattle.level_rows.specs.Broken.{IsBroken}
use Rattle.level_rows.specs.LeftOver.{AreLeftOver}
use Rattle.level_rows.specs.Index.{IsIndexOf, found_at}
use Rattle.level_rows.proofs.ChoiceLemmas.{some_of, some_unless, last_there, chain_not_broken}
use Rattle.level_rows.proofs.IndexLemmas.{finds_own, finds_as}
use Rattle.level_rows.proofs.LeftLemmas.{left_over}
use Rattle.level_rows.proofs.left.leftover.Goals as goal

pub unwrap-last-requires : goal.unwrap-last-requires
unwrap-last-requires c = last_there (rows_of c.args.table.now c.args.records.now) c.find.result c.requires.chained c.find.ensures

pub way_down-requires-clause-own : goal.way_down-requires-clause-own
way_down-requires-clause-own c = finds_own c.args.table.now c.args.records.now c.in_ok-ends.ends c.in_ok-ends.ensures

pub unwrap-way-requires : goal.unwrap-way-requires
unwrap-way-requires c =
    some_unless c.in_ok-way_down.field-0 (IsBroken (found_at c.in_ok-ends.ends)) c.in_ok-way_down.ensures.none
    (λ broken. chain_not_broken (rows_of c.args.table.now c.args.records.now) c.requires.chained
    (subst IsBroken (finds_as c.args.table.now c.args.records.now c.in_ok-ends.ends c.in_ok-ends.ensures) broken))

pub returns : goal.returns
returns c =
    let table = c.args.table.now in
    let records = c.args.records.now in
    let way = c.unwrap-way.result.items in
    let ends = c.in_ok-ends.ends in
    let found : IsChain (found_at ends) way = some_of c.in_ok-way_down.field-0 c.unwrap-way.result _ c.unwrap-way.ensures c.in_ok-way_down.ensures.way in
    let chained : IsChain (rows_of table records) way = subst (λ (rows : Rows). IsChain rows way) (finds_as table records ends c.in_ok-ends.ensures) found in
    let on_way : IsIndexOf table way c.in_ok-chained.chained = subst (λ (l : List TabletRecord). IsIndexOf table l c.in_ok-chained.chained) c.deref.ensures.value c.in_ok-chained.ensures in
    IfOk-weaker c.apart_from.result _ _ (λ left is chain p. subst (AreLeftOver table records chain) (sym is)
    (left_over table records way ends c.in_ok-chained.chained c.requires.distinct c.in_ok-ends.ensures on_way chained chain p)) c.apart_from.ensures
