use Rattle.std.proofs.Common.{ap, sym, subst, ◌∙◌, rules}
use Rattle.std.proofs.lemmas.List.Sorted.{IsNonDecreasingBy-from_sort_by_key}
use Rattle.table_locks.specs.Entries.{EachStands}
use Rattle.table_locks.specs.declared.grants.LockEntry.{LockEntry}
use Rattle.table_locks.proofs.queues.queue.Goals as goal

pub returns-clause-ok : goal.returns-clause-ok
returns-clause-ok c = record {
  found = c.in-Some.entries.items;
  each = search rules;
  moved = c.sort_unstable_by_key.ensures.permutation;
  order = IsNonDecreasingBy-from_sort_by_key (λ (entry : LockEntry). entry.number) _ c.sort_unstable_by_key.ensures.sorted (λ a r q k. search rules);
}
