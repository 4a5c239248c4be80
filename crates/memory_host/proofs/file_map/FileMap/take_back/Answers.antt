use Rattle.std.proofs.Common.{ℕ, List, subst}
use Rattle.host_model.specs.Calls.{overlaid}
use Rattle.memory_host.specs.Files.{Changes}
use Rattle.memory_host.proofs.FileMapLemmas.{took_back}
use Rattle.memory_host.proofs.file_map.FileMap.take_back.Goals as goal

pub returns : goal.returns
returns c =
    took_back c.args.self.now c.write.new.self c.truncate.new.self c.args.written.now (subst (λ (l : List ℕ). Changes c.args.written.now.name (λ file. overlaid file c.args.written.now.at l) c.args.self.now c.write.new.self) c.deref.ensures.value c.in_ok-write.ensures.ok) c.truncate.ensures
