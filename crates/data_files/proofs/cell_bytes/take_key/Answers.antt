use Rattle.data_files.proofs.CellLemmas.{no_family, no_qualifier, long_row}
use Rattle.data_files.proofs.cell_bytes.take_key.Goals as goal

pub returns-in_default-take_short : goal.returns-in_default-take_short
returns-in_default-take_short c = no_family c.args.bytes.now c.in-Ok.row.value.now c.in-Ok.row.rest.now c.in-Ok.ensures.ok c.in-Ok.ensures.fits c.in_default-take_short.ensures.err

pub returns-in_default-take_short-2 : goal.returns-in_default-take_short-2
returns-in_default-take_short-2 c =
    no_qualifier c.args.bytes.now c.in-Ok.row.value.now c.in-Ok.row.rest.now c.in-Ok-take_short.family.value.now c.in-Ok-take_short.family.rest.now c.in-Ok.ensures.ok c.in-Ok.ensures.fits c.in-Ok-take_short.ensures.ok c.in-Ok-take_short.ensures.fits c.in_default-take_short-2.ensures.err

pub returns-in_default-2 : goal.returns-in_default-2
returns-in_default-2 c =
    let long = rw c.in_default-2.is at c.in_ok-row.ensures in
    long_row c.args.bytes.now c.in-Ok.row.value.now c.in-Ok.row.rest.now c.in-Ok.ensures.ok c.in-Ok.ensures.fits long
