use Rattle.shell.proofs.opening.open_or_make.Goals as goal

pub returns-then-init : goal.returns-then-init
returns-then-init g c = rw c.if-init.true c.make_store.ensures

pub returns-else-init : goal.returns-else-init
returns-else-init g c = rw c.if-init.false c.open_store.ensures
