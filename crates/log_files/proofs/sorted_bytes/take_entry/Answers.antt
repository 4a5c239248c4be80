use Rattle.log_files.proofs.SortedLemmas.{no_entry, some_entry, other_entry}
use Rattle.log_files.proofs.sorted_bytes.take_entry.Goals as goal

pub returns-in_default : goal.returns-in_default
returns-in_default c = no_entry c.args.bytes.now c.in_default.ensures.err

pub returns-in-Some : goal.returns-in-Some
returns-in-Some c =
    let is = rw c.in-Some.is at c.in_ok-mutation.ensures in
    some_entry c.args.bytes.now c.in-Ok.entry.value.now c.in-Ok.entry.rest.now c.in-Some.mutation c.in-Ok.ensures.ok is

pub returns-in-None : goal.returns-in-None
returns-in-None c =
    let none = rw c.in-None.is at c.in_ok-mutation.ensures in
    other_entry c.args.bytes.now c.in-Ok.entry.value.now c.in-Ok.entry.rest.now c.in-Ok.ensures.ok c.in-Ok.ensures.fits none
