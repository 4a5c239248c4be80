use Rattle.std.proofs.Common.{rules}
use Rattle.host_model.proofs.CallsLemmas.{looks-refl}
use Rattle.log_files.specs.Sorted.{sorted_name, HasSorted}
use Rattle.log_files.proofs.sorted_log.read_sorted.Goals as goal

pub returns-in_err-name-clause-looks : goal.returns-in_err-name-clause-looks
returns-in_err-name-clause-looks g c = looks-refl (g.H.Host.state c.args.host.now)

pub returns-in-Some-2-clause-damaged : goal.returns-in-Some-2-clause-damaged
returns-in-Some-2-clause-damaged g c = λ f none.
    let holds : HasSorted (sorted_name c.args.log.now) c.in-Some-2.mutations.items (g.H.Host.state c.args.host.now).files = search rules in
    absurd (none.none _ holds)
