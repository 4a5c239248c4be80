use Rattle.std.proofs.Common.{take, sym, subst}
use Rattle.host_model.specs.Picture.{Image}
use Rattle.memory_host.specs.Files.{Changes}
use Rattle.memory_host.proofs.FileMapLemmas.{is_there, changed, unchanged}
use Rattle.memory_host.proofs.file_map.FileMap.truncate.Goals as goal
use Rattle.memory_host.proofs.file_map.FileMap.truncate.Goals.{in-Some, in-None}

pub returns : goal.returns
returns c = elim c.match-get_mut.branch [
  | in-Some w ↦ rw w.self-inside-is (changed (take c.args.length) c.self.inside.files.entries (c.get_mut.follows.lender w.truncate.new.self).entries c.args.self.now c.args.name.now w.in-Some.file.now w.truncate.new.self c.self.view_is w.in-Some.ensures.value ((c.get_mut.follows.holds w.truncate.new.self).3 (is_there w.in-Some.file.now _ w.in-Some.ensures.value)).0 w.truncate.ensures.items)
  | in-None w ↦ rw (w.self-inside-is, c.get_mut.follows.holds-at-none) (subst (λ (i : Image). Changes c.args.name.now (take c.args.length) c.args.self.now i) (sym c.self.view_is) (unchanged (take c.args.length) c.self.inside.files.entries c.args.self.now c.args.name.now c.self.view_is w.in-None.ensures.value))
]
