use Rattle.std.proofs.Common.{◌∙◌}
use Rattle.std.proofs.lemmas.Result.{on_ok_weaker}
use Rattle.log_files.proofs.SortedLemmas.{entry_put}
use Rattle.log_files.proofs.sorted_bytes.put_entry.Goals as goal

pub returns : goal.returns
returns c = on_ok_weaker c.put_sized.result (λ put. entry_put c.args.mutation.now c.args.out.now.items c.put_sized.new.out.items c.deref.result.now (c.deref.ensures.value ∙ c.in_ok-bytes.ensures.is) put) c.put_sized.ensures.ok
