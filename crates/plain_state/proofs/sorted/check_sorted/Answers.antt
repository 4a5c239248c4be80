use Rattle.std.proofs.Common.{ℕ, List, Contains, take, sym, ◌∙◌, subst}
use Rattle.store_meaning.specs.Readable.{IsSortedThere}
use Rattle.state_reader.specs.Still.{ground_of}
use Rattle.state_reader.proofs.RowLists.{one_more}
use Rattle.plain_state.specs.Logs.{AreSortedThere}
use Rattle.plain_state.specs.Causes.{HasUnlistedSorted}
use Rattle.plain_state.proofs.LogLemmas.{sorted_there_more}
use Rattle.plain_state.proofs.sorted.check_sorted.Goals as goal

pub returns-then-not-is_among-clause-cause : goal.returns-then-not-is_among-clause-cause
returns-then-not-is_among-clause-cause c =
    let known = ground_of c.args.still.now in
    let log = c.log-item.result in
    let there : Contains c.args.listed_sorted.now log = (c.loop-log.log-index, c.loop-log-test.true, sym c.log-item.is) in
    let none = rw c.if-not-is_among.true at c.is_among.ensures in
    subst (HasUnlistedSorted known) (sym c.in_ok-copy.ensures) (record {
      sorted = (c.requires.listed_sorted.each log).0 there;
      unlisted = λ is. none (subst (Contains c.args.listed.now) (sym c.as_bytes.ensures) ((c.requires.listed.each log).1 is));
    })

pub loop-log-preserved : goal.loop-log-preserved
loop-log-preserved c =
    let known = ground_of c.args.still.now in
    let logs = c.args.listed_sorted.now in
    let log = c.log-item.result in
    let one = subst (Contains c.args.listed.now) c.as_bytes.ensures (rw c.if-not-is_among.false at c.is_among.ensures) in
    let sorted = subst (IsSortedThere known) c.as_bytes-in-loop-log.ensures (rw c.if-not-branch.false at c.in_ok-is_sorted_there.ensures) in
    subst (λ (l : List (List ℕ)). AreSortedThere known c.args.listed.now l) (sym (one_more logs c.loop-log.log-index log c.loop-log-test.true c.log-item.is))
    (sorted_there_more known c.args.listed.now (take c.loop-log.log-index logs) log c.loop-log.invariant one sorted)
