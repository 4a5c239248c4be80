use Rattle.std.proofs.Common.{◌∙◌, ◌++◌, ap, sym}
use Rattle.std.specs.FinMap as map
use Rattle.std.specs.Map.Iter.{deref_pair}
use Rattle.std.proofs.lemmas.List.{append-nil}
use Rattle.std.proofs.lemmas.Map.Iter.{rest_all}
use Rattle.node_store.proofs.PathMaps.{entries-map, sorted-ordered}
use Rattle.table_store.specs.Tables.{texts_of}
use Rattle.table_store.proofs.index.TableIndex.texts.Goals as goal

pub returns : goal.returns
returns c =
    let whole = c.self.inside.entries.entries in
    let all = c.into_iter-name-iterator.ensures.into_iter_gives in
    let done = rest_all deref_pair c.loop-name.name-iterator c.next.new.self c.next.result c.in-None.is c.next.ensures.steps in
    sym (append-nil _) ∙ ap (λ l. c.loop-name.texts ++ texts_of l) (sym done) ∙ c.loop-name.invariant ∙ ap texts_of all.0
    ∙ ap texts_of (sym (ap map.entries (sym c.self.view_is) ∙ entries-map whole (sorted-ordered whole all.5)))
