use Rattle.std.proofs.Common.{sym, subst}
use Rattle.host_model.specs.Calls.{overlaid}
use Rattle.host_model.specs.Picture.{Image}
use Rattle.memory_host.specs.Files.{Changes}
use Rattle.memory_host.proofs.FileMapLemmas.{is_there, wrote, not_written, unchanged}
use Rattle.memory_host.proofs.file_map.FileMap.write.Goals as goal
use Rattle.memory_host.proofs.file_map.FileMap.write.Goals.{in-Some, in-None}

pub returns-clause-ok : goal.returns-clause-ok
returns-clause-ok c = elim c.match-get_mut.branch [
  | in-Some w ↦ rw (w.self-inside-is, w.result-is) (wrote w.overlay.result (λ file. overlaid file c.args.at c.args.bytes.now) c.self.inside.files.entries (c.get_mut.follows.lender w.overlay.new.file).entries c.args.self.now c.args.name.now w.in-Some.file.now w.overlay.new.file c.self.view_is w.in-Some.ensures.value ((c.get_mut.follows.holds w.overlay.new.file).3 (is_there w.in-Some.file.now _ w.in-Some.ensures.value)).0 w.overlay.ensures.ok)
  | in-None w ↦ rw (w.self-inside-is, c.get_mut.follows.holds-at-none, w.result-is) (subst (λ (i : Image). Changes c.args.name.now (λ file. overlaid file c.args.at c.args.bytes.now) c.args.self.now i) (sym c.self.view_is) (unchanged (λ file. overlaid file c.args.at c.args.bytes.now) c.self.inside.files.entries c.args.self.now c.args.name.now c.self.view_is w.in-None.ensures.value))
]

pub returns-clause-err : goal.returns-clause-err
returns-clause-err c = elim c.match-get_mut.branch [
  | in-Some w ↦ rw (w.self-inside-is, w.result-is) (not_written w.overlay.result c.self.inside.files.entries (c.get_mut.follows.lender w.overlay.new.file).entries c.args.self.now c.args.name.now w.in-Some.file.now w.overlay.new.file c.self.view_is w.in-Some.ensures.value ((c.get_mut.follows.holds w.overlay.new.file).3 (is_there w.in-Some.file.now _ w.in-Some.ensures.value)).0 w.overlay.ensures.err)
  | in-None w ↦ rw w.result-is tt
]
