use Rattle.std.proofs.Common.{subst, List}
use Rattle.std.proofs.lemmas.Result.{err_from_is_err_and}
use Rattle.host_model.proofs.CallsLemmas.{looks-refl}
use Rattle.journal_core.specs.Journal.{OpenCause}
use Rattle.log_files.specs.Mutations.{Bytes}
use Rattle.log_files.specs.Logs.{HasLog, IsNoLog}
use Rattle.log_files.specs.Parts.{AreMutations, AreNoMutations}
use Rattle.log_files.proofs.LogLemmas.{has_log, no_mutations, not_opened}
use Rattle.log_files.proofs.logs.mutations.Goals as goal

pub returns-in_err-name-clause-looks : goal.returns-in_err-name-clause-looks
returns-in_err-name-clause-looks g c = looks-refl (g.H.Host.state c.args.host.now)

pub returns-in_err-journal-clause-stops : goal.returns-in_err-journal-clause-stops
returns-in_err-journal-clause-stops g c =
    let p = err_from_is_err_and c.from_residual-in_err-journal.result c.from_residual-in_err-journal.ensures.1 in
    let cause = subst (λ (name : Bytes). OpenCause name c.in_err-journal.field-0.0 (g.H.Host.state c.args.host.now) (g.H.Host.state c.open.new.host)) c.in_ok-name.ensures c.in_err-journal.ensures.stops in
    rw (p.1, p.2) (not_opened c.args.log.now c.in_err-journal.field-0.0 (g.H.Host.state c.args.host.now) (g.H.Host.state c.open.new.host) cause)

pub returns-in-Some-clause-damaged : goal.returns-in-Some-clause-damaged
returns-in-Some-clause-damaged g c = λ f none.
    let are = subst (λ (records : List Bytes). AreMutations records c.in-Some.mutations.items) c.records.ensures (rw c.in-Some.is at c.in_ok-mutations.ensures) in
    let has = subst (λ (name : Bytes). HasLog name c.in-Some.mutations.items (g.H.Host.state c.args.host.now).files) c.in_ok-name.ensures (has_log (c.in_ok-journal.ensures.holds f) are) in
    absurd (none.none _ has)

pub returns-in-None-clause-stops : goal.returns-in-None-clause-stops
returns-in-None-clause-stops g c = (
  c.in_ok-name.ensures,
  λ f.
      let none = subst (λ (records : List Bytes). AreNoMutations records) c.records.ensures (rw c.in-None.is at c.in_ok-mutations.ensures) in
      subst (λ (name : Bytes). IsNoLog name (g.H.Host.state c.args.host.now).files) c.in_ok-name.ensures (no_mutations (c.in_ok-journal.ensures.holds f) none),
)
