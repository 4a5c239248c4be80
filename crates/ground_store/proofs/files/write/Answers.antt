use Rattle.std.proofs.lemmas.Result.{err_from_is_err_and}
use Rattle.std.proofs.Common.{Some}
use Rattle.host_model.specs.Picture.{Becomes}
use Rattle.data_files.specs.Files.{spelled_file}
use Rattle.store_layout.specs.Names.{file_of}
use Rattle.ground_store.specs.Steps.{Anything}
use Rattle.ground_store.proofs.StepLemmas.{alters_file, alters_nothing, stores_renamed}
use Rattle.ground_store.proofs.files.write.Goals as goal

pub returns-in_err-name-clause-alters : goal.returns-in_err-name-clause-alters
returns-in_err-name-clause-alters g c =
    let p = err_from_is_err_and c.from_residual.result c.from_residual.ensures.1 in
    alters_nothing (file_of c.args.path.now) Anything (Becomes (Some (spelled_file c.args.cells.now))) c.from_residual.result p.0 (g.H.Host.state c.args.host.now) p.1 (g.met.H.Host.sound c.args.host.now) (λ x. tt)

pub returns-clause-alters : goal.returns-clause-alters
returns-clause-alters g c = alters_file Anything (Becomes (Some (spelled_file c.args.cells.now))) (g.met.H.Host.sound c.args.host.now) (stores_renamed c.in_ok-name.ensures c.write_file.ensures.stores) (λ x y d. tt) (λ x y a. a)
