use Rattle.std.proofs.Common.{sym, subst}
use Rattle.std.proofs.lemmas.Result.{IfErr-weaker}
use Rattle.cell_merge.specs.Newest.{IsNewest}
use Rattle.state_reader.proofs.NoLevels.{no_level}
use Rattle.level_index.proofs.LevelReads.{if_read}
use Rattle.level_index.proofs.index.LevelIndex.read.Goals as goal

pub returns-clause-ok : goal.returns-clause-ok
returns-clause-ok c =
    let newest = subst (IsNewest c.args.cells.now) (sym c.deref.ensures.value) c.in_ok-pairs.ensures in
    if_read c.args.kind c.args.cells.now c.deref.result.now c.read_rows.result newest c.read_rows.ensures.kind c.read_rows.ensures.ok

pub returns-clause-none : goal.returns-clause-none
returns-clause-none c =
    let newest = subst (IsNewest c.args.cells.now) (sym c.deref.ensures.value) c.in_ok-pairs.ensures in
    IfErr-weaker c.read_rows.result _ _ (λ fault why other. no_level c.args.kind c.args.cells.now fault (why c.args.cells.now newest) other) c.read_rows.ensures.err
