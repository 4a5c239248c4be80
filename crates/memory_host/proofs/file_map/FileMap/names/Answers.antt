use Rattle.std.proofs.Common.{◌≡◌, ℕ, List, Bor, map, sym, ◌∙◌, ap}
use Rattle.std.specs.BTreeMap.{keys}
use Rattle.std.specs.Map.Iter.{deref}
use Rattle.std.proofs.lemmas.Map.Iter.{iter_end}
use Rattle.host_model.specs.Picture.{Image, file_names}
use Rattle.memory_host.proofs.FileMapLemmas.{names-image_of}
use Rattle.memory_host.proofs.file_map.FileMap.names.Goals as goal

pub returns : goal.returns
returns c =
    let all : map (λ (name : Bor (List ℕ)). name.now) c.loop-name.yielded ≡ keys c.self.inside.files = (iter_end deref (keys c.self.inside.files) c.loop-name.yielded c.into_iter-name-iterator.result c.loop-name.name-iterator c.next.new.self c.next.result (c.into_iter-name-iterator.ensures.into_iter_gives ∙ c.keys-name-items.ensures.rest) c.loop-name.yielded_by c.in-None.is c.next.ensures.steps).0 in
    c.loop-name.invariant ∙ all ∙ sym (names-image_of c.self.inside.files.entries c.keys-name-items.ensures.ordered) ∙ ap (λ (i : Image). file_names i) c.self.view_is
