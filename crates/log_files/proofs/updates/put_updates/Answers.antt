use Rattle.std.proofs.Common.{length, refl}
use Rattle.std.proofs.lemmas.Result.{on_ok_weaker}
use Rattle.log_files.proofs.UpdateLemmas.{updates_put}
use Rattle.log_files.proofs.updates.put_updates.Goals as goal

pub returns : goal.returns
returns c = on_ok_weaker c.put_each.result (λ last. updates_put c.args.updates.now c.args.out.now.items c.put_u32.new.out.items c.put_each.new.out.items (length c.args.updates.now) c.in_ok-put_u32.ensures.ok last refl) c.put_each.ensures
