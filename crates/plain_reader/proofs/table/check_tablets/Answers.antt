use Rattle.std.proofs.Common.{Contains, [], ◌∷◌, take, sym, subst, rules}
use Rattle.std.proofs.lemmas.List.{take_all}
use Rattle.level_rows.specs.Chain.{rows_of}
use Rattle.state_reader.specs.Lacks.{HasLacking}
use Rattle.state_reader.specs.Still.{ground_of}
use Rattle.state_reader.proofs.LackLemmas.{chain_of_table}
use Rattle.state_reader.proofs.RowLists.{one_more}
use Rattle.plain_reader.specs.Parts.{IsConsistentIn, IsTwiceIn, IsLackingTable}
use Rattle.plain_reader.proofs.PartLemmas.{AreAllConsistent, all_more, have_consistent, lacking_table, twice_table}
use Rattle.plain_reader.proofs.table.check_tablets.Goals as goal

pub returns-in-Err-Lacks-clause-cause : goal.returns-in-Err-Lacks-clause-cause
returns-in-Err-Lacks-clause-cause c =
    let ground = ground_of c.args.still.now in
    let rows = rows_of c.args.table.now c.args.records.now in
    let has : HasLacking ground (c.tablet-item.result ∷ []) c.in-Err-Lacks.end c.in-Err-Lacks.untold = search rules in
    let there : Contains c.args.tablets.now c.tablet-item.result = (c.loop-tablet.tablet-index, c.loop-tablet-test.true, sym c.tablet-item.is) in
    let lacks : IsLackingTable ground rows c.in-Err-Lacks.end c.in-Err-Lacks.untold =
    lacking_table ground rows c.args.tablets.now c.tablet-item.result c.in-Err-Lacks.end c.in-Err-Lacks.untold c.requires there has in
    λ mark. search rules

pub returns-then-not-consistent-clause-cause : goal.returns-then-not-consistent-clause-cause
returns-then-not-consistent-clause-cause c = λ mark.
    let ground = ground_of c.args.still.now in
    let table = c.args.table.now in
    let records = c.args.records.now in
    let tablet = c.tablet-item.result in
    let there : Contains c.args.tablets.now tablet = (c.loop-tablet.tablet-index, c.loop-tablet-test.true, sym c.tablet-item.is) in
    let same = (chain_of_table table records c.args.tablets.now c.requires).each tablet there in
    twice_table ground (rows_of table records) c.args.tablets.now tablet c.in_ok-copy_of.field-0 c.requires there (sym c.in_ok-copy_of.ensures)
    (subst (λ id. IsTwiceIn ground (rows_of id records) tablet) same (rw c.if-not-consistent.true at c.in-Ok.ensures.ok))

pub loop-tablet-preserved : goal.loop-tablet-preserved
loop-tablet-preserved c =
    let ground = ground_of c.args.still.now in
    let table = c.args.table.now in
    let records = c.args.records.now in
    let tablet = c.tablet-item.result in
    let there : Contains c.args.tablets.now tablet = (c.loop-tablet.tablet-index, c.loop-tablet-test.true, sym c.tablet-item.is) in
    let same = (chain_of_table table records c.args.tablets.now c.requires).each tablet there in
    let here = subst (λ id. IsConsistentIn ground (rows_of id records) tablet) same (rw c.if-not-consistent.false at c.in-Ok.ensures.ok) in
    subst (AreAllConsistent ground (rows_of table records)) (sym (one_more c.args.tablets.now c.loop-tablet.tablet-index tablet c.loop-tablet-test.true c.tablet-item.is))
    (all_more ground (rows_of table records) (take c.loop-tablet.tablet-index c.args.tablets.now) tablet c.loop-tablet.invariant here)

pub returns-clause-ok : goal.returns-clause-ok
returns-clause-ok c =
    have_consistent (ground_of c.args.still.now) (rows_of c.args.table.now c.args.records.now) c.args.tablets.now
    (subst (AreAllConsistent (ground_of c.args.still.now) (rows_of c.args.table.now c.args.records.now)) (take_all c.loop-tablet.tablet-index c.args.tablets.now c.loop-tablet-test.false) c.loop-tablet.invariant)
