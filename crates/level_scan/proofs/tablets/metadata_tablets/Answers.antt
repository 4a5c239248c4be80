use Rattle.std.proofs.Common.{◌≡◌, ◌∙◌, List, reverse, sym, subst}
use Rattle.metadata_schema.specs.declared.tablet.TabletRecord.{TabletRecord}
use Rattle.level_rows.specs.Chain.{Rows, IsChain, rows_of}
use Rattle.level_rows.specs.Broken.{IsBroken}
use Rattle.store_meaning.specs.Levels.{metadata_id}
use Rattle.level_index.specs.Entries.{level_of}
use Rattle.level_scan.proofs.RowLemmas.{own_records, chain_at}
use Rattle.level_scan.proofs.tablets.metadata_tablets.Goals as goal

pub returns-in_default-clause-cause : goal.returns-in_default-clause-cause
returns-in_default-clause-cause c =
    let same = own_records (level_of c.args.metadata.now) c.in_ok-table.table c.in_ok-records.records.items c.deref.result.now c.in_ok-records.ensures c.in_ok-table.ensures c.deref.ensures.value in
    subst (λ (rows : Rows). IsBroken rows) same (rw c.in_default.is at c.in_ok-tablets.ensures.none)

pub returns-clause-rows : goal.returns-clause-rows
returns-clause-rows c = own_records (level_of c.args.metadata.now) c.in_ok-table.table c.in_ok-records.records.items c.from_vec.result c.in_ok-records.ensures c.in_ok-table.ensures c.from_vec.ensures

pub returns-clause-chain : goal.returns-clause-chain
returns-clause-chain c =
    let table = c.in_ok-table.table in
    let tablets = c.from_vec-2.result in
    let same = own_records (level_of c.args.metadata.now) table c.in_ok-records.records.items c.deref.result.now c.in_ok-records.ensures c.in_ok-table.ensures c.deref.ensures.value in
    let list : tablets ≡ reverse c.in-Some.tablets.items = c.from_vec-2.ensures ∙ c.reverse.ensures.items in
    let way : IsChain (rows_of table c.deref.result.now) (reverse c.in-Some.tablets.items) = rw c.in-Some.is at c.in_ok-tablets.ensures.chain in
    subst (λ (rows : Rows). IsChain rows tablets) same (subst (λ (l : List TabletRecord). IsChain (rows_of table c.deref.result.now) l) (sym list) way)

pub returns-clause-at : goal.returns-clause-at
returns-clause-at c = chain_at (level_of c.args.metadata.now) c.in_ok-table.table c.in_ok-records.records.items c.in_ok-records.ensures metadata_id c.in_ok-table.ensures c.from_vec-2.result (returns-clause-chain c)
