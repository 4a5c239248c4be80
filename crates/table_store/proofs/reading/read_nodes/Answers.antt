use Rattle.std.proofs.Common.{◌∙◌, ◌++◌, ◌∷◌, [], take, sym, ap, subst}
use Rattle.std.proofs.lemmas.List.{take_more}
use Rattle.table_store.specs.Reading.{HasValue, AddsNode, AddsNone, ReadsPaths}
use Rattle.table_store.proofs.ReadingLemmas.{reads_nothing, node_there, node_has, reads_more, reads_none, path_new}
use Rattle.table_store.proofs.reading.read_nodes.Goals as goal

pub loop-path-init : goal.loop-path-init
loop-path-init c = reads_nothing c.args.nodes.now.nodes c.args.next c.new-tables.result c.new-tables.ensures

pub unwrap-node-requires : goal.unwrap-node-requires
unwrap-node-requires c =
    node_there c.args.nodes.now.nodes c.deref-path-items.result.now c.loop-path.path-index c.path-item.result c.get.result (c.deref-path-items.ensures.value ∙ c.in_ok-paths.ensures) c.loop-path-test.true c.path-item.is c.get.ensures

pub returns-then-not-branch : goal.returns-then-not-branch
returns-then-not-branch c =
    let nodes = c.args.nodes.now.nodes in
    let items = c.deref-path-items.result.now in
    let path = c.path-item.result in
    let value = c.as_bytes-in-loop-path.result.now in
    let has = subst (λ v. HasValue nodes path v) (sym c.as_bytes-in-loop-path.ensures) (node_has nodes path c.get.result c.unwrap-node.result c.get.ensures c.unwrap-node.ensures) in
    let none = rw c.if-not-branch.true at c.in_ok-add_node.ensures in
    let adds = subst (λ p. AddsNone c.args.next p value c.loop-path.tables) c.as_bytes.ensures.bytes none in
    reads_none nodes c.args.next (take c.loop-path.path-index items) path value c.loop-path.tables c.loop-path.invariant has adds
    (path_new nodes items c.loop-path.path-index path (c.deref-path-items.ensures.value ∙ c.in_ok-paths.ensures) c.loop-path-test.true c.path-item.is)

pub loop-path-preserved : goal.loop-path-preserved
loop-path-preserved c =
    let nodes = c.args.nodes.now.nodes in
    let items = c.deref-path-items.result.now in
    let path = c.path-item.result in
    let value = c.as_bytes-in-loop-path.result.now in
    let has = subst (λ v. HasValue nodes path v) (sym c.as_bytes-in-loop-path.ensures) (node_has nodes path c.get.result c.unwrap-node.result c.get.ensures c.unwrap-node.ensures) in
    let more = rw c.if-not-branch.false at c.in_ok-add_node.ensures in
    let adds = subst (λ p. AddsNode c.args.next p value c.loop-path.tables c.add_node.new.tables) c.as_bytes.ensures.bytes more in
    let all = reads_more nodes c.args.next (take c.loop-path.path-index items) path value c.loop-path.tables c.add_node.new.tables c.loop-path.invariant has adds in
    subst (λ l. ReadsPaths nodes c.args.next l c.add_node.new.tables)
    (sym (take_more items c.loop-path.path-index path c.loop-path-test.true ∙ ap (λ p. take c.loop-path.path-index items ++ p ∷ []) (sym c.path-item.is))) all
