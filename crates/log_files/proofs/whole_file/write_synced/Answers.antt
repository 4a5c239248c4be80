use Rattle.std.proofs.lemmas.Result.{err_from_is_err_and}
use Rattle.log_files.proofs.WholeLemmas.{create_failed, made_unwritten, made_written, empty_reaches}
use Rattle.log_files.proofs.whole_file.write_synced.Goals as goal

pub returns-in_err-create-clause-stores : goal.returns-in_err-create-clause-stores
returns-in_err-create-clause-stores g c =
    let p = err_from_is_err_and c.from_residual.result c.from_residual.ensures.1 in
    rw (p.1, p.2) (create_failed c.args.bytes.now _ (g.met.H.Host.sound c.args.host.now) c.in_err-create.ensures)

pub write-requires : goal.write-requires
write-requires g c = λ f. empty_reaches c.in_ok-create.ensures f

pub returns-in_err-write-clause-stores : goal.returns-in_err-write-clause-stores
returns-in_err-write-clause-stores g c =
    let p = err_from_is_err_and c.from_residual-in_err-write.result c.from_residual-in_err-write.ensures.1 in
    rw (p.1, p.2) (made_unwritten c.args.bytes.now _ (g.met.H.Host.sound c.args.host.now) c.in_ok-create.ensures c.in_err-write.ensures)

pub returns-clause-stores : goal.returns-clause-stores
returns-clause-stores g c = made_written c.args.bytes.now (g.met.H.Host.sound c.args.host.now) c.in_ok-create.ensures c.in_ok-write.ensures c.sync.ensures
