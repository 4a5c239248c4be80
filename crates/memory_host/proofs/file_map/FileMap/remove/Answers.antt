use Rattle.std.proofs.Common.{Option, None, Vec, ℕ, sym, ◌∙◌, ap}
use Rattle.std.specs.declared.alloc.Global.{Global}
use Rattle.host_model.specs.Picture.{Image, file_at, without_file}
use Rattle.memory_host.specs.Files.{as_file}
use Rattle.memory_host.proofs.FileMapLemmas.{file_at-image_of, image_updated}
use Rattle.memory_host.proofs.file_map.FileMap.remove.Goals as goal

pub returns-clause-after : goal.returns-clause-after
returns-clause-after c =
    image_updated c.self.inside.files.entries c.remove.new.self.entries c.args.name.now None c.remove.ensures.updates.0 ∙ ap (λ (i : Image). without_file i c.args.name.now) c.self.view_is

pub returns-clause-was : goal.returns-clause-was
returns-clause-was c =
    ap (λ (o : Option (Vec ℕ Global)). as_file o) c.remove.ensures.value ∙ sym (file_at-image_of c.self.inside.files.entries c.args.name.now) ∙ ap (λ (i : Image). file_at i c.args.name.now) c.self.view_is
