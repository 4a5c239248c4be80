use Rattle.std.proofs.Common.{Option, Some, Vec, ℕ, sym, ◌∙◌, ap}
use Rattle.std.specs.declared.alloc.Global.{Global}
use Rattle.host_model.specs.Picture.{Image, file_at, with_file}
use Rattle.memory_host.specs.Files.{as_file}
use Rattle.memory_host.proofs.FileMapLemmas.{file_at-image_of, image_updated}
use Rattle.memory_host.proofs.file_map.FileMap.insert.Goals as goal

pub returns-clause-ok : goal.returns-clause-ok
returns-clause-ok c = (
  image_updated c.self.inside.files.entries c.insert.new.self.entries c.args.name (Some c.args.bytes) c.in_ok-insert.ensures.updates.0 ∙ ap (λ (i : Image). with_file i c.args.name c.args.bytes.items) c.self.view_is,
  ap (λ (o : Option (Vec ℕ Global)). as_file o) c.in_ok-insert.ensures.old ∙ sym (file_at-image_of c.self.inside.files.entries c.args.name) ∙ ap (λ (i : Image). file_at i c.args.name) c.self.view_is,
)
