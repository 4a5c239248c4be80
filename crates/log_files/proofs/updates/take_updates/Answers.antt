use Rattle.log_files.proofs.UpdateLemmas.{no_count, no_updates, fewer_updates, some_updates}
use Rattle.log_files.proofs.updates.take_updates.Goals as goal

pub returns-in_default : goal.returns-in_default
returns-in_default c = no_count c.args.bytes.now c.in_default.ensures.err

pub returns-then-count-eq0 : goal.returns-then-count-eq0
returns-then-count-eq0 c = no_updates c.args.bytes.now c.in-Ok.count.value c.in-Ok.count.rest.now c.in-Ok.ensures.ok c.in-Ok.ensures.fits c.if-count-eq0.true

pub returns-in_default-2 : goal.returns-in_default-2
returns-in_default-2 c =
    let fewer = rw c.in_default-2.is at c.in_ok-updates.ensures in
    fewer_updates c.args.bytes.now c.in-Ok.count.value c.in-Ok.count.rest.now c.in-Ok.ensures.ok c.in-Ok.ensures.fits fewer

pub returns : goal.returns
returns c =
    let many = rw c.in-Some.is at c.in_ok-updates.ensures in
    some_updates c.args.bytes.now c.in-Ok.count.value c.in-Ok.count.rest.now c.in-Some.updates.items c.in-Some.rest.now c.in-Ok.ensures.ok c.in-Ok.ensures.fits c.if-count-eq0.false many
