use Rattle.log_files.proofs.SortedLemmas.{same_magic, some_head}
use Rattle.log_files.proofs.sorted_bytes.take_head.Goals as goal

pub returns : goal.returns
returns c =
    let cases = c.in_ok-magic.ensures.cases in
    some_head c.args.bytes.now c.in_ok-magic.magic.now c.in_ok-magic.rest.now c.in-Ok.count.value c.in-Ok.count.rest.now cases.1 cases.2
    (same_magic c.in_ok-magic.magic.now c.as_slice.result.now c.if-ne.ensures c.as_slice.ensures)
    c.in-Ok.ensures.ok c.in-Ok.ensures.fits
