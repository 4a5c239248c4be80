use Rattle.std.proofs.Common.{◌∙◌, ◌++◌, ◌∷◌, [], List, ℕ, sym, ap, All, subst}
use Rattle.std.specs.Prelude.{length, ◌≤◌}
use Rattle.std.specs.FinMap as map
use Rattle.std.specs.Map.{keys_of}
use Rattle.std.specs.Map.Iter.{deref_pair}
use Rattle.std.specs.declared.ops.Bound.TheVariants.{Included, Excluded}
use Rattle.std.specs.BTreeMap.Range.{entries_between}
use Rattle.std.proofs.lemmas.List.{append-nil}
use Rattle.std.proofs.lemmas.Map.Iter.{rest_all}
use Rattle.row_keys.specs.Forms.{IsPath}
use Rattle.node_store.specs.PathsTo.{path_cmp}
use Rattle.node_store.specs.Children.{children_of}
use Rattle.node_store.proofs.PathMaps.{keys-map, All-keys-map}
use Rattle.node_store.proofs.ChildrenLemmas.{in_order, children_in_range, no_children}
use Rattle.node_store.proofs.path_map.PathMap.children.Goals as goal

pub returns-in_default : goal.returns-in_default
returns-in_default g c =
    let long : 200 ≤ length c.args.parent.now = rw c.in_default.is at c.in_ok-first.ensures in
    let forms = subst (λ m. All IsPath (map.keys m)) c.self.view_is (All-keys-map IsPath c.self.inside.entries.entries c.self.invariant) in
    c.new-children.ensures.items ∙ sym (no_children c.args.parent.now (map.keys c.args.self.now) long forms)

pub range-path-items-requires : goal.range-path-items-requires
range-path-items-requires g c =
    let ends = rw c.in-Some.is at c.in_ok-first.ensures in
    rw (ends.0, ends.1) (in_order c.args.parent.now)

pub returns : goal.returns
returns g c =
    let ends = rw c.in-Some.is at c.in_ok-first.ensures in
    let parent = c.args.parent.now in
    let whole = c.self.inside.entries.entries in
    let done = rest_all deref_pair c.loop-path.path-iterator c.next.new.self c.next.result c.in-None.is c.next.ensures.steps in
    sym (ap (λ (l : List (List ℕ × _)). c.loop-path.children.items ++ children_of parent (keys_of l)) done ∙ append-nil _)
    ∙ c.loop-path.invariant
    ∙ ap (λ l. children_of parent (keys_of l)) (c.into_iter-path-iterator.ensures.into_iter_gives ∙ c.range-path-items.ensures.between tt)
    ∙ ap (λ p. children_of parent (keys_of (entries_between path_cmp (Included p) (Excluded c.in-Some.past) whole))) ends.0
    ∙ ap (λ p. children_of parent (keys_of (entries_between path_cmp (Included (parent ++ 47 ∷ [])) (Excluded p) whole))) ends.1
    ∙ children_in_range parent whole
    ∙ ap (children_of parent) (sym (keys-map whole c.range-path-items.ensures.ordered) ∙ ap map.keys c.self.view_is)
