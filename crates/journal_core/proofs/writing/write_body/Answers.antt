use Rattle.std.proofs.Common.{◌++◌, [], ◌∷◌, length, ap, arith, length-append}
use Rattle.std.proofs.lemmas.Result.{err_from_is_err_and}
use Rattle.journal_core.proofs.Laid.{laid_first, laid_more, laid_reaches, failed_first, laid_failed, laid_synced}
use Rattle.journal_core.proofs.writing.write_body.Goals as goal

pub returns-in_err-write-clause-stores : goal.returns-in_err-write-clause-stores
returns-in_err-write-clause-stores g c =
    let p = err_from_is_err_and c.from_residual.result c.from_residual.ensures.1 in
    rw (p.1, p.2) (failed_first _ _ _ c.in_err-write.ensures)

pub write-requires-2 : goal.write-requires-2
write-requires-2 g c =
    laid_reaches _ _ _ (omega (arith, ap length c.write_u32.ensures)) (laid_first _ _ c.in_ok-write.ensures)

pub returns-in_err-write-2-clause-stores : goal.returns-in_err-write-2-clause-stores
returns-in_err-write-2-clause-stores g c =
    let p = err_from_is_err_and c.from_residual-in_err-write-2.result c.from_residual-in_err-write-2.ensures.1 in
    let size = laid_first _ _ c.in_ok-write.ensures in
    rw (p.1, p.2) (laid_failed _ _ _ _ (omega (arith, ap length c.write_u32.ensures)) size c.in_err-write-2.ensures)

pub write-requires-3 : goal.write-requires-3
write-requires-3 g c =
    let size = laid_first _ _ c.in_ok-write.ensures in
    let all = laid_more _ _ _ (omega (arith, ap length c.write_u32.ensures)) size c.in_ok-write-2.ensures in
    laid_reaches _ _ _ (omega (arith, ap length c.write_u32.ensures, length-append c.write_u32.new.buf c.args.payload.now)) all

pub returns-in_err-write-3-clause-stores : goal.returns-in_err-write-3-clause-stores
returns-in_err-write-3-clause-stores g c =
    let p = err_from_is_err_and c.from_residual-in_err-write-3.result c.from_residual-in_err-write-3.ensures.1 in
    let size = laid_first _ _ c.in_ok-write.ensures in
    let all = laid_more _ _ _ (omega (arith, ap length c.write_u32.ensures)) size c.in_ok-write-2.ensures in
    rw (p.1, p.2) (laid_failed _ _ _ _ (omega (arith, ap length c.write_u32.ensures, length-append c.write_u32.new.buf c.args.payload.now)) all c.in_err-write-3.ensures)

pub returns-clause-stores : goal.returns-clause-stores
returns-clause-stores g c =
    let size = laid_first _ _ c.in_ok-write.ensures in
    let all = laid_more _ _ _ (omega (arith, ap length c.write_u32.ensures)) size c.in_ok-write-2.ensures in
    let shut = laid_more _ _ _ (omega (arith, ap length c.write_u32.ensures, length-append c.write_u32.new.buf c.args.payload.now)) all c.in_ok-write-3.ensures in
    laid_synced _ _ _ (ap (λ l. l ++ c.args.payload.now ++ 0 ∷ []) c.write_u32.ensures) shut c.sync.ensures
