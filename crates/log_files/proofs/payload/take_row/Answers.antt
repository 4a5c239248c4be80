use Rattle.log_files.proofs.MutationLemmas.{long_row}
use Rattle.log_files.proofs.payload.take_row.Goals as goal

pub returns-in-None : goal.returns-in-None
returns-in-None c = long_row c.args.bytes.now c.in-Ok.row.value.now c.in-Ok.row.rest.now c.in-Ok.ensures.ok c.in-Ok.ensures.fits (rw c.in-None.is at c.in_ok-own.ensures)
