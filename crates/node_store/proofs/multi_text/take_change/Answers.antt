use Rattle.node_store.proofs.MultiLemmas.{without_value}
use Rattle.node_store.proofs.multi_text.take_change.Goals as goal

pub returns-in_default-3 : goal.returns-in_default-3
returns-in_default-3 c =
    let front = rw c.in-Some-2.is at c.in_ok-path.ensures in
    let none = rw c.in_default-3.is at c.in_ok-value.ensures in
    without_value c.in-Some.kind.now c.args.bytes.now c.in-Some.rest.now c.in-Some-2.path c.in-Some-2.rest.now c.in-Some.ensures.cases.0 c.if-kind-eq-DELETE.false front none
