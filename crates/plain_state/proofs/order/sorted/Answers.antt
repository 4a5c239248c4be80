use Rattle.std.proofs.Common.{rules, subst, map, List}
use Rattle.std.proofs.lemmas.Fn.{always_returns_same}
use Rattle.metadata_schema.specs.declared.mutation.Mutation.{Mutation}
use Rattle.log_files.specs.Sorted.{IsStableSortOf}
use Rattle.log_files.proofs.SortLemmas.{shown, shown_before, shown_ranks, shown_sort}
use Rattle.plain_state.proofs.order.sorted.Goals as goal

pub returns : goal.returns
returns c =
    subst (λ (ms : List Mutation). IsStableSortOf ms (map shown c.sort_by.new.self.items)) c.in_ok-all.ensures
    (shown_sort c.in_ok-all.all.items c.sort_by.new.self.items c.sort_by.ensures.permutation (c.in_ok-sort_by.ensures.sorted shown_before shown_ranks (always_returns_same _ _ _ (λ a r f k. search rules))) (c.sort_by.ensures.stable shown_before shown_ranks (always_returns_same _ _ _ (λ a r f k. search rules))))
