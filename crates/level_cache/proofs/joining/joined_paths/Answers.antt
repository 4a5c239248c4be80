use Rattle.std.proofs.Common.{sym, subst}
use Rattle.std.specs.Cmp.Lexicographic.{texts_ties}
use Rattle.std.proofs.lemmas.Cmp.{nat_list_cmp_total}
use Rattle.std.proofs.lemmas.List.Filters.{dedup_is}
use Rattle.std.proofs.lemmas.List.Kept.{IsStrictlySortedBy-dedup}
use Rattle.std.specs.List.Sorted.{IsStrictlySortedBy}
use Rattle.row_keys.specs.RowOrder.{bytes_cmp}
use Rattle.level_cache.proofs.JoinLemmas.{of_both, once_each, rises}
use Rattle.level_cache.proofs.joining.joined_paths.Goals as goal

pub returns-clause-each : goal.returns-clause-each
returns-clause-each c = λ path.
    (let sorted = c.sort_unstable.new.self.items in
    let once = once_each sorted c.dedup.new.self.items (dedup_is _ _ _ c.dedup.ensures.filtered) path in
    let both = of_both c.args.all.items c.args.more.items c.append.new.self.items sorted c.in_ok-append.ensures.items c.sort_unstable.ensures.permutation path in
    (λ there. both.0 (once.0 there), λ there. once.1 (both.1 there)))

pub returns-clause-order : goal.returns-clause-order
returns-clause-order c =
    rises c.dedup.new.self.items (subst (IsStrictlySortedBy bytes_cmp) (sym (dedup_is _ _ _ c.dedup.ensures.filtered)) (IsStrictlySortedBy-dedup nat_list_cmp_total texts_ties c.sort_unstable.new.self.items c.sort_unstable.ensures.sorted))
