use Rattle.std.proofs.Common.{Contains, List, take, sym, subst}
use Rattle.metadata_schema.specs.declared.tablet.TabletRecord.{TabletRecord}
use Rattle.state_reader.specs.Reads.{reading_of}
use Rattle.state_reader.specs.Still.{ground_of}
use Rattle.state_reader.proofs.RowLists.{one_more}
use Rattle.plain_state.specs.Records.{AreAllTold}
use Rattle.plain_state.proofs.RecordLemmas.{all_told_more}
use Rattle.plain_state.proofs.in_use.check_records.Goals as goal

pub returns-in-Some-clause-cause : goal.returns-in-Some-clause-cause
returns-in-Some-clause-cause c =
    let tablet = c.tablet-item.result in
    let there : Contains c.args.records.now tablet = (c.loop-tablet.tablet-index, c.loop-tablet-test.true, sym c.tablet-item.is) in
    record { reading = reading_of c.args.read.now; read = c.requires.levels; tablet = tablet; of = (c.requires.records.each tablet).0 there; lacks = rw c.in-Some.is at c.in_ok-untold.ensures }

pub loop-tablet-preserved : goal.loop-tablet-preserved
loop-tablet-preserved c =
    let records = c.args.records.now in
    let tablet = c.tablet-item.result in
    subst (λ (l : List TabletRecord). AreAllTold (ground_of c.args.still.now) l) (sym (one_more records c.loop-tablet.tablet-index tablet c.loop-tablet-test.true c.tablet-item.is))
    (all_told_more (ground_of c.args.still.now) (take c.loop-tablet.tablet-index records) tablet c.loop-tablet.invariant (rw c.in_default.is at c.in_ok-untold.ensures))
