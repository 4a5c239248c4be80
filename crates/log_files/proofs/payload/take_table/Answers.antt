use Rattle.log_files.proofs.MutationLemmas.{other_table}
use Rattle.log_files.proofs.payload.take_table.Goals as goal

pub returns-in-None : goal.returns-in-None
returns-in-None c = other_table c.args.bytes.now c.in-Ok.table.value.now c.in-Ok.table.rest.now c.in-Ok.ensures.ok c.in-Ok.ensures.fits (rw c.in-None.is at c.in_ok-id.ensures.ok)
