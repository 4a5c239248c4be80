use Rattle.std.proofs.Common.{ℕ, List, subst}
use Rattle.plain_state.specs.Pairs.{Stages}
use Rattle.plain_state.proofs.FileLemmas.{staged_file}
use Rattle.plain_state.proofs.staged.stage.Goals as goal

pub returns-in-Ok : goal.returns-in-Ok
returns-in-Ok c =
    let cells = c.args.cells.now in
    let old = c.args.state.now in
    let new = c.apply.new.self in
    subst (λ (name : List ℕ). Stages name cells old new) c.in_ok-copy.ensures.ok
    (staged_file c.in_ok-copy.field-0 cells c.in_ok-pairs_of.field-0 old new c.in-Ok.field-0 c.in_ok-pairs_of.ensures c.in-Ok.ensures)
