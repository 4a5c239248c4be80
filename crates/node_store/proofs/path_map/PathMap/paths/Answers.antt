use Rattle.std.proofs.Common.{◌∙◌, ◌++◌, List, ℕ, sym, ap}
use Rattle.std.specs.FinMap as map
use Rattle.std.specs.Map.Iter.{deref}
use Rattle.std.proofs.lemmas.List.{append-nil}
use Rattle.std.proofs.lemmas.Map.Iter.{rest_all}
use Rattle.node_store.proofs.PathMaps.{keys-map}
use Rattle.node_store.proofs.path_map.PathMap.paths.Goals as goal

pub returns : goal.returns
returns g c =
    let done = rest_all deref c.loop-path.path-iterator c.next.new.self c.next.result c.in-None.is c.next.ensures.steps in
    sym (ap (λ (l : List (List ℕ)). c.loop-path.paths.items ++ l) done ∙ append-nil _) ∙ c.loop-path.invariant ∙ c.into_iter-path-iterator.ensures.into_iter_gives ∙ c.keys-path-items.ensures.rest
    ∙ sym (ap map.keys (sym c.self.view_is) ∙ keys-map c.self.inside.entries.entries c.keys-path-items.ensures.ordered)
