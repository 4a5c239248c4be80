use Rattle.std.proofs.Common.{ℕ, List, take, sym, ◌∙◌, subst}
use Rattle.cell_merge.specs.declared.cell.Cell.{Cell}
use Rattle.state_reader.specs.Still.{ground_of}
use Rattle.state_reader.proofs.RowLists.{one_more}
use Rattle.plain_state.specs.Pairs.{Stages}
use Rattle.plain_state.specs.States.{AreStagedIn}
use Rattle.plain_state.proofs.FileLemmas.{files_none, files_more}
use Rattle.plain_state.proofs.staged.put_files.Goals as goal

pub loop-name-init : goal.loop-name-init
loop-name-init c = files_none (ground_of c.args.still.now) c.args.state.now c.requires.none

pub loop-name-preserved : goal.loop-name-preserved
loop-name-preserved c =
    let known = ground_of c.args.still.now in
    let files = c.args.files.now in
    let file = c.loop-name-item.result in
    let index = c.loop-name.name-index in
    let new = c.stage.new.state in
    let stages = subst (λ (l : List Cell). Stages file.0 l c.loop-name.state new) c.as_slice.ensures c.in_ok-stage.ensures in
    let told = sym c.in-Some.ensures in
    subst (λ (l : List (List ℕ × List ℕ)). AreStagedIn known l c.args.state.now new) (sym (one_more files index file c.loop-name-test.true c.loop-name-item.is))
    (files_more known (take index files) file.0 file.1 c.in-Some.cells.now c.args.state.now c.loop-name.state new c.loop-name.invariant told stages)
