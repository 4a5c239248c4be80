use Rattle.std.proofs.Common.{[], inl, refl, ◌∙◌, arith}
use Rattle.std.proofs.lemmas.Result.{err_from_is_err_and}
use Rattle.host_model.proofs.CallsLemmas.{was_faithful}
use Rattle.host_model.proofs.Images.{after_change}
use Rattle.host_model.proofs.StoresLemmas.{stores_nothing, stores_failed, stores_ok}
use Rattle.journal_core.proofs.JournalLemmas.{create_failed, create_both, holds_none}
use Rattle.journal_core.proofs.journal.Journal.create.Goals as goal

pub returns-in_err-own-clause-stores : goal.returns-in_err-own-clause-stores
returns-in_err-own-clause-stores g c =
    let p = err_from_is_err_and c.from_residual.result c.from_residual.ensures.1 in
    rw p.1 (stores_nothing _ _ _ _ _ (g.met.H.Host.sound c.args.host.now) (λ f. inl refl))

pub returns-in_err-create-clause-stores : goal.returns-in_err-create-clause-stores
returns-in_err-create-clause-stores g c =
    let p = err_from_is_err_and c.from_residual-in_err-create.result c.from_residual-in_err-create.ensures.1 in
    rw p.1 (create_failed _ _ (g.met.H.Host.sound c.args.host.now) c.in_err-create.ensures)

pub write_synced-requires : goal.write_synced-requires
write_synced-requires g c = λ f.
    let there = c.in_ok-create.ensures.done (was_faithful c.in_ok-create.ensures.quiet.keeps f) in
    record { file = []; is = after_change there ∙ there.steps; within = omega arith }

pub returns-in_err-write_synced-clause-stores : goal.returns-in_err-write_synced-clause-stores
returns-in_err-write_synced-clause-stores g c =
    let p = err_from_is_err_and c.from_residual-in_err-write_synced.result c.from_residual-in_err-write_synced.ensures.1 in
    let both = create_both (g.met.H.Host.sound c.args.host.now) c.in_ok-create.ensures c.in_err-write_synced.ensures.stores in
    rw p.1 (stores_failed _ _ _ both (λ x y m. m))

pub returns-clause-stores : goal.returns-clause-stores
returns-clause-stores g c = stores_ok _ _ (create_both (g.met.H.Host.sound c.args.host.now) c.in_ok-create.ensures c.in_ok-write_synced.ensures.stores)

pub returns-clause-holds : goal.returns-clause-holds
returns-clause-holds g c = λ f.
    let stores = returns-clause-stores g c in
    holds_none (stores.done (was_faithful stores.quiet.keeps f))

pub returns-clause-opened : goal.returns-clause-opened
returns-clause-opened g c = λ f. record { records = []; holds = returns-clause-holds g c f }
