use Rattle.std.proofs.Common.{rules}
use Rattle.host_model.proofs.CallsLemmas.{looks-refl}
use Rattle.data_files.specs.Files.{HoldsCells}
use Rattle.data_files.proofs.data_file.read_file.Goals as goal

pub returns-in_err-own-clause-looks : goal.returns-in_err-own-clause-looks
returns-in_err-own-clause-looks g c = looks-refl (g.H.Host.state c.args.host.now)

pub returns-in-Some-2-clause-damaged : goal.returns-in-Some-2-clause-damaged
returns-in-Some-2-clause-damaged g c = λ f none.
    let holds : HoldsCells c.args.name.now c.in-Some-2.cells.items (g.H.Host.state c.args.host.now).files = search rules in
    absurd (none.none _ holds)
