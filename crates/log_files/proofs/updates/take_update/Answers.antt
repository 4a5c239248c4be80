use Rattle.log_files.proofs.UpdateLemmas.{no_qualifier, no_value}
use Rattle.log_files.proofs.updates.take_update.Goals as goal

pub returns-in_default-take_short : goal.returns-in_default-take_short
returns-in_default-take_short c = no_qualifier c.args.bytes.now c.in-Ok.family.value.now c.in-Ok.family.rest.now c.in-Ok.ensures.ok c.in-Ok.ensures.fits c.in_default-take_short.ensures.err

pub returns-in_default-2 : goal.returns-in_default-2
returns-in_default-2 c =
    let none = rw c.in_default-2.is at c.in_ok-value.ensures in
    no_value c.args.bytes.now c.in-Ok.family.value.now c.in-Ok.family.rest.now c.in-Ok-take_short.qualifier.value.now c.in-Ok-take_short.qualifier.rest.now c.in-Ok.ensures.ok c.in-Ok.ensures.fits c.in-Ok-take_short.ensures.ok c.in-Ok-take_short.ensures.fits none
