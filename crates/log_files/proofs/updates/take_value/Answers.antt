use Rattle.log_files.proofs.UpdateLemmas.{no_long}
use Rattle.log_files.proofs.updates.take_value.Goals as goal

pub returns-in_default-take_long : goal.returns-in_default-take_long
returns-in_default-take_long c = no_long c.in-Ok.flag.value c.args.bytes.now c.in-Ok.flag.rest.now c.if-not-flag.false c.in-Ok.ensures.ok c.in_default-take_long.ensures.err
