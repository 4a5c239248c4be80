use Rattle.std.proofs.Common.{Contains, List, ℕ, take, sym, ◌∙◌, subst}
use Rattle.metadata_schema.specs.declared.tablet.TabletRecord.{TabletRecord}
use Rattle.state_reader.proofs.RowLists.{one_more}
use Rattle.plain_state.specs.Logs.{AreAmong, IsMissing, HaveLogsAmong}
use Rattle.plain_state.proofs.LogLemmas.{named_more}
use Rattle.state_reader.specs.Reads.{reading_of}
use Rattle.plain_state.proofs.listed.check_listed.Goals as goal

pub returns-in-Some-clause-cause : goal.returns-in-Some-clause-cause
returns-in-Some-clause-cause c =
    let tablet = c.tablet-item.result in
    let there : Contains c.args.records.now tablet = (c.loop-tablet.tablet-index, c.loop-tablet-test.true, sym c.tablet-item.is) in
    let missing = subst (λ (l : List (List ℕ)). IsMissing c.args.listed.now l c.in-Some.log) (c.deref.ensures.value ∙ c.in_ok-logs.ensures) (rw c.in-Some.is at c.in_ok-log.ensures) in
    record {
      reading = reading_of c.args.read.now;
      read = c.requires.levels;
      named = record { tablet = tablet; of = (c.requires.records.each tablet).0 there; there = missing.there };
      unlisted = λ is. missing.none ((c.requires.listed.each c.in-Some.log).1 is);
    }

pub loop-tablet-preserved : goal.loop-tablet-preserved
loop-tablet-preserved c =
    let listed = c.args.listed.now in
    let records = c.args.records.now in
    let tablet = c.tablet-item.result in
    let here = subst (λ (l : List (List ℕ)). AreAmong listed l) (c.deref.ensures.value ∙ c.in_ok-logs.ensures) (rw c.in_default.is at c.in_ok-log.ensures) in
    subst (λ (l : List TabletRecord). HaveLogsAmong listed l) (sym (one_more records c.loop-tablet.tablet-index tablet c.loop-tablet-test.true c.tablet-item.is))
    (named_more listed (take c.loop-tablet.tablet-index records) tablet c.loop-tablet.invariant here)
