use Rattle.std.proofs.Common.{◌++◌, ◌∷◌, [], take, ◌∙◌, ap, sym, subst}
use Rattle.std.proofs.lemmas.List.{take_more}
use Rattle.table_names.specs.Tables.{AreTablesAt}
use Rattle.table_names.proofs.ToldLemmas.{tables_more}
use Rattle.table_names.proofs.table_nodes.tables_at.Goals as goal

pub loop-path-preserved : goal.loop-path-preserved
loop-path-preserved c =
    let nodes = c.args.nodes.now.nodes in
    let paths = c.args.paths.now in
    let front = take c.loop-path.path-index paths in
    let path = c.path-item.result in
    let more = take_more paths c.loop-path.path-index path c.loop-path-test.true ∙ ap (λ p. front ++ p ∷ []) (sym c.path-item.is) in
    let read = rw c.in-Some.is at c.in_ok-table.ensures in
    let all = tables_more nodes front path c.loop-path.tables.items c.in-Some.table c.loop-path.invariant read.0 read.1 in
    subst (λ ps. AreTablesAt nodes ps c.push.new.self.items) (sym more) (subst (λ ts. AreTablesAt nodes (front ++ path ∷ []) ts) (sym c.in_ok-push.ensures.items) all)
