use Rattle.std.proofs.Common.{sym}
use Rattle.memory_host.proofs.ScriptLemmas.{heard_front}
use Rattle.memory_host.proofs.script.Script.hear.Goals as goal

pub returns : goal.returns
returns c =
    heard_front c.args.self.now c.self.inside.bytes.items c.deref.result.now c.args.into.now c.copy_from_slice.new.self c.self.inside.heard c.min-count.result (sym c.self.view_is) c.deref.ensures.value c.min-count.ensures c.copy_from_slice.ensures.after c.requires
