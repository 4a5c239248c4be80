use Rattle.std.proofs.Common.{Option, Some, Vec, ℕ, List, sym, ◌∙◌, ap}
use Rattle.std.specs.declared.alloc.Global.{Global}
use Rattle.host_model.specs.Picture.{Image, file_at}
use Rattle.memory_host.specs.Files.{as_file}
use Rattle.memory_host.proofs.FileMapLemmas.{file_at-image_of}
use Rattle.memory_host.proofs.file_map.FileMap.get.Goals as goal

pub returns-in-Some : goal.returns-in-Some
returns-in-Some c =
    ap (λ (i : Image). file_at i c.args.name.now) (sym c.self.view_is) ∙ file_at-image_of c.self.inside.files.entries c.args.name.now ∙ ap (λ (o : Option (Vec ℕ Global)). as_file o) (sym c.in-Some.ensures.value) ∙ ap (λ (l : List ℕ). Some l) (sym c.as_slice.ensures.value)

pub returns-in-None : goal.returns-in-None
returns-in-None c =
    ap (λ (i : Image). file_at i c.args.name.now) (sym c.self.view_is) ∙ file_at-image_of c.self.inside.files.entries c.args.name.now ∙ ap (λ (o : Option (Vec ℕ Global)). as_file o) (sym c.in-None.ensures.value)
