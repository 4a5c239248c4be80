use Rattle.std.proofs.Common.{inl, refl, sym, subst}
use Rattle.std.proofs.lemmas.Result.{err_from_is_err_and}
use Rattle.host_model.proofs.StoresLemmas.{stores_nothing, stores_ok}
use Rattle.host_model.specs.declared.fault.Stop.{Stop}
use Rattle.cell_merge.specs.Newest.{Bytes}
use Rattle.data_files.specs.Files.{IsDataFile}
use Rattle.data_files.proofs.WriteLemmas.{writes_cells}
use Rattle.data_files.proofs.data_file.write_file.Goals as goal

pub returns-in_err-bytes-clause-stores : goal.returns-in_err-bytes-clause-stores
returns-in_err-bytes-clause-stores g c =
    let p = err_from_is_err_and c.from_residual.result c.from_residual.ensures.1 in
    rw p.1 (stores_nothing _ _ _ _ _ (g.met.H.Host.sound c.args.host.now) (λ f. inl refl))

pub returns-clause-writes : goal.returns-clause-writes
returns-clause-writes g c =
    writes_cells c.args.cells.now (g.met.H.Host.sound c.args.host.now)
    (subst (λ (l : Bytes). IsDataFile l c.args.cells.now) (sym c.deref.ensures.value) c.in_ok-bytes.ensures)
    (stores_ok Stop c.len.result c.in_ok-write_synced.ensures.stores)
