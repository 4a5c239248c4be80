use Rattle.std.proofs.Common.{◌≡◌, ◌∙◌, sym, ap}
use Rattle.std.specs.BTreeMap.{is_at}
use Rattle.std.specs.FinMap as map
use Rattle.std.specs.Map.{lookup}
use Rattle.std.specs.Map.Iter.{deref_pair}
use Rattle.std.proofs.lemmas.Bool.{false≢true}
use Rattle.std.proofs.lemmas.Map.Iter.{rest_more, rest_all}
use Rattle.std.proofs.lemmas.Slice.Eq.{bytes_eq-Decides}
use Rattle.node_store.specs.PathsTo.{path_cmp}
use Rattle.node_store.proofs.PathMaps.{lookup-map}
use Rattle.state_reader.proofs.NameLemmas.{found_here, found_later}
use Rattle.state_reader.proofs.name_map.NameMap.get_bytes.Goals as goal

pub returns-then-eq : goal.returns-then-eq
returns-then-eq g c =
    let name = c.args.name.now in
    let same = sym c.as_bytes.ensures.bytes ∙ (bytes_eq-Decides c.as_bytes.result.now name).0 (sym c.eq.ensures ∙ c.if-eq.true) in
    let more = rest_more deref_pair c.loop-key.key-iterator c.next.new.self c.next.result (c.in-Some.key, c.in-Some.value) c.in-Some.is c.next.ensures.steps in
    sym (found_here name c.in-Some.key.now c.in-Some.value.now c.next.new.self same)
    ∙ ap (lookup (is_at (path_cmp name))) (sym more)
    ∙ c.loop-key.invariant
    ∙ ap (lookup (is_at (path_cmp name))) (c.into_iter-key-iterator.ensures.into_iter_gives ∙ c.iter-key-items.ensures.rest)
    ∙ lookup-map name c.self.inside.entries.entries
    ∙ ap (λ m. map.get m name) c.self.view_is

pub loop-key-preserved : goal.loop-key-preserved
loop-key-preserved g c =
    let name = c.args.name.now in
    let more = rest_more deref_pair c.loop-key.key-iterator c.next.new.self c.next.result (c.in-Some.key, c.in-Some.value) c.in-Some.is c.next.ensures.steps in
    let other = λ (is : c.in-Some.key.now ≡ name). false≢true (sym c.if-eq.false ∙ c.eq.ensures ∙ (bytes_eq-Decides c.as_bytes.result.now name).1 (c.as_bytes.ensures.bytes ∙ is)) in
    sym (found_later name c.in-Some.key.now c.in-Some.value.now c.next.new.self other) ∙ ap (lookup (is_at (path_cmp name))) (sym more) ∙ c.loop-key.invariant

pub returns : goal.returns
returns g c =
    let name = c.args.name.now in
    let done = rest_all deref_pair c.loop-key.key-iterator c.next.new.self c.next.result c.in-None.is c.next.ensures.steps in
    sym (ap (lookup (is_at (path_cmp name))) done)
    ∙ c.loop-key.invariant
    ∙ ap (lookup (is_at (path_cmp name))) (c.into_iter-key-iterator.ensures.into_iter_gives ∙ c.iter-key-items.ensures.rest)
    ∙ lookup-map name c.self.inside.entries.entries
    ∙ ap (λ m. map.get m name) c.self.view_is
