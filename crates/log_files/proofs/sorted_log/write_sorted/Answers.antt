use Rattle.std.proofs.Common.{inl, refl, map, sym, subst, length, Ok, Err}
use Rattle.std.proofs.lemmas.List.Sorted.{All-permutation}
use Rattle.std.proofs.lemmas.Result.{err_from_is_err_and}
use Rattle.host_model.proofs.StoresLemmas.{stores_nothing, stores_failed, stores_ok}
use Rattle.host_model.specs.declared.fault.Stop.{Stop}
use Rattle.host_model.specs.Stores.{Stores}
use Rattle.journal_core.specs.Changes.{MayMake}
use Rattle.log_files.specs.Mutations.{Bytes, IsLogged}
use Rattle.log_files.specs.Sorted.{spelled_sorted, IsStableSortOf, IsSortedLog, BecomesSortOf}
use Rattle.log_files.proofs.SortLemmas.{shown}
use Rattle.log_files.proofs.SortedLemmas.{sorted_stores, writes_sorted}
use Rattle.log_files.proofs.sorted_log.write_sorted.Goals as goal

pub returns-in_err-name-clause-stores : goal.returns-in_err-name-clause-stores
returns-in_err-name-clause-stores g c =
    let p = err_from_is_err_and c.from_residual.result c.from_residual.ensures.1 in
    rw p.1 (stores_nothing _ _ _ _ _ (g.met.H.Host.sound c.args.host.now) (λ f. inl refl))

pub returns-in_err-sorted-clause-stores : goal.returns-in_err-sorted-clause-stores
returns-in_err-sorted-clause-stores g c =
    let p = err_from_is_err_and c.from_residual-in_err-sorted.result c.from_residual-in_err-sorted.ensures.1 in
    rw p.1 (stores_nothing _ _ _ _ _ (g.met.H.Host.sound c.args.host.now) (λ f. inl refl))

pub spell-requires-clause-each : goal.spell-requires-clause-each
spell-requires-clause-each g c =
    let sorts = subst (λ rs. IsStableSortOf c.args.mutations.now (map shown rs)) (sym c.deref.ensures.value) c.in_ok-sorted.ensures in
    All-permutation IsLogged c.args.mutations.now (map shown c.deref.result.now) sorts.same c.requires

pub returns-in_err-bytes-clause-stores : goal.returns-in_err-bytes-clause-stores
returns-in_err-bytes-clause-stores g c =
    let p = err_from_is_err_and c.from_residual-in_err-bytes.result c.from_residual-in_err-bytes.ensures.1 in
    rw p.1 (stores_nothing _ _ _ _ _ (g.met.H.Host.sound c.args.host.now) (λ f. inl refl))

pub returns-in_err-write_synced-clause-stores : goal.returns-in_err-write_synced-clause-stores
returns-in_err-write_synced-clause-stores g c =
    let p = err_from_is_err_and c.from_residual-in_err-write_synced.result c.from_residual-in_err-write_synced.ensures.1 in
    let sorts = subst (λ rs. IsStableSortOf c.args.mutations.now (map shown rs)) (sym c.deref.ensures.value) c.in_ok-sorted.ensures in
    let is = subst (λ (l : Bytes). IsSortedLog l (map shown c.deref.result.now)) (sym c.deref-2.ensures.value) c.in_ok-bytes.ensures in
    rw p.1 (subst (λ (name : Bytes). Stores name (MayMake (length (spelled_sorted c.args.mutations.now))) (BecomesSortOf c.args.mutations.now) {T = Unit {0}} {E = Stop} (Err p.0) (g.H.Host.state c.args.host.now) (g.H.Host.state c.write_synced.new.host)) c.in_ok-name.ensures
    (sorted_stores c.args.mutations.now (map shown c.deref.result.now) sorts is (stores_failed _ _ p.0 c.in_err-write_synced.ensures.stores (λ x y may. may))))

pub returns-clause-stores : goal.returns-clause-stores
returns-clause-stores g c =
    let sorts = subst (λ rs. IsStableSortOf c.args.mutations.now (map shown rs)) (sym c.deref.ensures.value) c.in_ok-sorted.ensures in
    let is = subst (λ (l : Bytes). IsSortedLog l (map shown c.deref.result.now)) (sym c.deref-2.ensures.value) c.in_ok-bytes.ensures in
    subst (λ (name : Bytes). Stores name (MayMake (length (spelled_sorted c.args.mutations.now))) (BecomesSortOf c.args.mutations.now) {T = Unit {0}} {E = Stop} (Ok tt) (g.H.Host.state c.args.host.now) (g.H.Host.state c.write_synced.new.host)) c.in_ok-name.ensures
    (sorted_stores c.args.mutations.now (map shown c.deref.result.now) sorts is (stores_ok Stop tt c.in_ok-write_synced.ensures.stores))

pub returns-clause-writes : goal.returns-clause-writes
returns-clause-writes g c = writes_sorted c.args.mutations.now (g.met.H.Host.sound c.args.host.now) (returns-clause-stores g c)
