use Rattle.node_store.proofs.MultiLemmas.{no_path}
use Rattle.node_store.proofs.multi_text.take_path.Goals as goal

pub returns-in_default-2 : goal.returns-in_default-2
returns-in_default-2 c =
    let none = rw c.in_default-2.is at c.in_ok-path.ensures in
    no_path c.args.bytes.now c.in-Ok.long.value.now c.in-Ok.long.rest.now c.in-Ok.ensures.fits c.in-Ok.ensures.ok.is none.ok
