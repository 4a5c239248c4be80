use Rattle.std.proofs.Common.{rules}
use Rattle.std.proofs.lemmas.Cmp.{nat_list_cmp_total}
use Rattle.std.proofs.lemmas.Fn.{always_returns_same}
use Rattle.std.proofs.lemmas.List.Sorted.{ranks_by}
use Rattle.std.specs.Ordering.{is_lt}
use Rattle.state_reader.specs.declared.level.LoadFlag.{LoadFlag}
use Rattle.level_cache.specs.Marks.{flag_cmp}
use Rattle.level_cache.proofs.JoinLemmas.{of_both}
use Rattle.level_cache.proofs.joining.joined_flags.Goals as goal

pub returns-clause-each : goal.returns-clause-each
returns-clause-each c = λ flag.
    of_both c.args.all.items c.args.more.items c.append.new.self.items c.sort_by.new.self.items c.in_ok-append.ensures.items c.sort_by.ensures.permutation flag

pub returns-clause-order : goal.returns-clause-order
returns-clause-order c =
    c.in_ok-sort_by.ensures.sorted (λ one other. is_lt (flag_cmp one other)) (ranks_by nat_list_cmp_total (λ (flag : LoadFlag). flag.path)) (always_returns_same _ _ _ (λ a r f k. search rules))
