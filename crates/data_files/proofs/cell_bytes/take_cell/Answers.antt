use Rattle.data_files.proofs.CellLemmas.{no_time, late_time, no_value}
use Rattle.data_files.proofs.cell_bytes.take_cell.Goals as goal

pub returns-in_default-take_u64 : goal.returns-in_default-take_u64
returns-in_default-take_u64 c =
    let front = rw c.in-Some.is at c.in_ok-key.ensures in
    no_time c.args.bytes.now c.in-Some.key c.in-Some.rest.now front c.in_default-take_u64.ensures.err

pub returns-then-time-ge-END_OF_TIME : goal.returns-then-time-ge-END_OF_TIME
returns-then-time-ge-END_OF_TIME c =
    let front = rw c.in-Some.is at c.in_ok-key.ensures in
    late_time c.args.bytes.now c.in-Some.key c.in-Some.rest.now c.in-Ok.time.value c.in-Ok.time.rest.now front c.in-Ok.ensures.ok c.in-Ok.ensures.fits c.if-time-ge-END_OF_TIME.true

pub returns-in_default-2 : goal.returns-in_default-2
returns-in_default-2 c =
    let front = rw c.in-Some.is at c.in_ok-key.ensures in
    let none = rw c.in_default-2.is at c.in_ok-value.ensures in
    no_value c.args.bytes.now c.in-Some.key c.in-Some.rest.now c.in-Ok.time.value c.in-Ok.time.rest.now front c.in-Ok.ensures.ok c.in-Ok.ensures.fits none
