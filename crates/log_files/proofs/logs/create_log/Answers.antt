use Rattle.std.proofs.Common.{inl, refl}
use Rattle.std.proofs.lemmas.Result.{err_from_is_err_and}
use Rattle.host_model.proofs.StoresLemmas.{stores_nothing}
use Rattle.log_files.proofs.logs.create_log.Goals as goal

pub returns-in_err-name-clause-stores : goal.returns-in_err-name-clause-stores
returns-in_err-name-clause-stores g c =
    let p = err_from_is_err_and c.from_residual.result c.from_residual.ensures.1 in
    rw p.1 (stores_nothing _ _ _ _ _ (g.met.H.Host.sound c.args.host.now) (λ f. inl refl))
