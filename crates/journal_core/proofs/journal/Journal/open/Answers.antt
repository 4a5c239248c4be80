use Rattle.std.proofs.Common.{rules}
use Rattle.host_model.proofs.CallsLemmas.{looks-refl}
use Rattle.journal_core.specs.Records.{HasNone}
use Rattle.journal_core.specs.Journal.{Holds}
use Rattle.journal_core.proofs.JournalLemmas.{damaged}
use Rattle.journal_core.proofs.journal.Journal.open.Goals as goal

pub returns-in_err-own-clause-looks : goal.returns-in_err-own-clause-looks
returns-in_err-own-clause-looks g c = looks-refl (g.H.Host.state c.args.host.now)

pub returns-in-Some-2-clause-damaged : goal.returns-in-Some-2-clause-damaged
returns-in-Some-2-clause-damaged g c = λ f none.
    let holds : Holds c.args.name.now c.in-Some-2.contents.end c.in-Some-2.contents.records.items (g.H.Host.state c.args.host.now).files = search rules in
    absurd (none.none _ _ holds)

pub returns-clause-stops : goal.returns-clause-stops
returns-clause-stops g c = (
  c.in_ok-own.ensures,
  λ f.
      let is = rw c.in-Some.is at (c.in_ok-bytes.ensures.is f) in
      let none : HasNone c.deref.result.now = rw c.in-None.is at c.in_ok-contents.ensures in
      damaged is (rw c.deref.ensures.value at none),
  c.in_ok-bytes.ensures.last,
)
