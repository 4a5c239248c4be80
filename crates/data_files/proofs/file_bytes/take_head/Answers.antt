use Rattle.data_files.proofs.FileLemmas.{no_greatest, same_magic, some_head}
use Rattle.data_files.proofs.file_bytes.take_head.Goals as goal

pub returns-in_default-take_u64 : goal.returns-in_default-take_u64
returns-in_default-take_u64 c = no_greatest c.args.bytes.now c.in_ok-magic.rest.now c.in-Ok.count.value c.in-Ok.count.rest.now c.in_ok-magic.ensures.cases.2 c.in-Ok.ensures.ok c.in-Ok.ensures.fits c.in_default-take_u64.ensures.err

pub returns : goal.returns
returns c =
    let cases = c.in_ok-magic.ensures.cases in
    some_head c.args.bytes.now c.in_ok-magic.magic.now c.in_ok-magic.rest.now c.in-Ok.count.value c.in-Ok.count.rest.now c.in-Ok-take_u64.greatest.value c.in-Ok-take_u64.greatest.rest.now cases.1 cases.2
    (same_magic c.in_ok-magic.magic.now c.as_slice.result.now c.if-ne.ensures c.as_slice.ensures)
    c.in-Ok.ensures.ok c.in-Ok.ensures.fits c.in-Ok-take_u64.ensures.ok c.in-Ok-take_u64.ensures.fits
