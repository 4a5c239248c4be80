use Rattle.std.proofs.Common.{ℕ, List, subst}
use Rattle.std.proofs.lemmas.Result.{err_from_is_err_and}
use Rattle.store_layout.specs.declared.tables.TableNode.{TableNode}
use Rattle.state_reader.specs.Reads.{reading_of}
use Rattle.state_reader.specs.Still.{ground_of}
use Rattle.plain_state.specs.Catalogs.{AreMarksTold}
use Rattle.plain_state.specs.States.{ArePut, AreStagedIn}
use Rattle.plain_state.proofs.StateLemmas.{stands_so}
use Rattle.plain_state.proofs.state.stood_for.Goals as goal

pub returns-clause-ok : goal.returns-clause-ok
returns-clause-ok c =
    let known = ground_of c.args.still.now in
    let reading = reading_of c.in_ok-read.read in
    let put = c.put_tables.new.state in
    let new = c.put_files.new.state in
    stands_so known reading c.in_ok-tables.tables.items c.in_ok-files.files.items put new c.in_ok-read.ensures.ok c.in_ok-tables.ensures.ok c.in_ok-files.ensures.ok
    (subst (AreMarksTold known) c.deref.ensures.value c.in_ok-check_marks.ensures.ok)
    (subst (λ (l : List TableNode). ArePut known reading l put) c.deref-2.ensures.value c.in_ok-put_tables.ensures.ok)
    (subst (λ (l : List (List ℕ × List ℕ)). AreStagedIn known l put new) c.deref-3.ensures.value c.in_ok-put_files.ensures.ok)

pub returns-in_err-tables-clause-cause : goal.returns-in_err-tables-clause-cause
returns-in_err-tables-clause-cause c =
    let p = err_from_is_err_and c.from_residual-in_err-tables.result c.from_residual-in_err-tables.ensures.1 in
    rw (p.1, p.2) c.in_err-tables.ensures.cause

pub returns-in_err-files-clause-cause : goal.returns-in_err-files-clause-cause
returns-in_err-files-clause-cause c =
    let p = err_from_is_err_and c.from_residual-in_err-files.result c.from_residual-in_err-files.ensures.1 in
    rw (p.1, p.2) c.in_err-files.ensures.cause

pub returns-in_err-check_marks-clause-cause : goal.returns-in_err-check_marks-clause-cause
returns-in_err-check_marks-clause-cause c =
    let p = err_from_is_err_and c.from_residual-in_err-check_marks.result c.from_residual-in_err-check_marks.ensures.1 in
    rw (p.1, p.2) c.in_err-check_marks.ensures.cause

pub returns-in_err-put_tables-clause-cause : goal.returns-in_err-put_tables-clause-cause
returns-in_err-put_tables-clause-cause c =
    let p = err_from_is_err_and c.from_residual-in_err-put_tables.result c.from_residual-in_err-put_tables.ensures.1 in
    rw (p.1, p.2) c.in_err-put_tables.ensures.cause

pub returns-in_err-put_files-clause-cause : goal.returns-in_err-put_files-clause-cause
returns-in_err-put_files-clause-cause c =
    let p = err_from_is_err_and c.from_residual-in_err-put_files.result c.from_residual-in_err-put_files.ensures.1 in
    rw (p.1, p.2) c.in_err-put_files.ensures.cause
