use Rattle.plain_model.proofs.StoreLemmas.{empty_kept}
use Rattle.plain_model.proofs.store.PlainStore.new.Goals as goal

pub invariant_of-result : goal.invariant_of-result
invariant_of-result c = (empty_kept (record { alloc = c.args.alloc; tables = c.new.result; staged = c.new-2.result }) c.new.ensures.items c.new-2.ensures.items).0

pub returns : goal.returns
returns c = (empty_kept (record { alloc = c.args.alloc; tables = c.new.result; staged = c.new-2.result }) c.new.ensures.items c.new-2.ensures.items).1
