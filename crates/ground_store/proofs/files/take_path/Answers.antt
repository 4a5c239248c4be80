use Rattle.std.proofs.Common.{None, inl, refl}
use Rattle.std.proofs.lemmas.Result.{err_from_is_err_and}
use Rattle.host_model.specs.Picture.{Becomes, MayBecome}
use Rattle.store_layout.specs.Names.{file_of}
use Rattle.ground_store.proofs.StepLemmas.{alters_nothing}
use Rattle.ground_store.proofs.files.take_path.Goals as goal

pub returns-in_err-name-clause-alters : goal.returns-in_err-name-clause-alters
returns-in_err-name-clause-alters g c =
    let p = err_from_is_err_and c.from_residual.result c.from_residual.ensures.1 in
    alters_nothing (file_of c.args.path.now) (MayBecome None) (Becomes None) c.from_residual.result p.0 (g.H.Host.state c.args.host.now) p.1 (g.met.H.Host.sound c.args.host.now) (λ x. inl refl)
