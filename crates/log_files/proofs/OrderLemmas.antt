-- Mutations that come one after another in order.
use Rattle.std.proofs.Common.{◌+◌, ◌<◌, List, [], ◌++◌, length, get_or, Bool, sym, ◌∙◌, ap, arith, length-append}
use Rattle.std.specs.Ordering.{is_lt}
use Rattle.std.specs.Cmp.{IsTotalOrder, IsStrictWeakOrder}
use Rattle.std.proofs.lemmas.Cmp.{then_total, on_total, nat_cmp_total, nat_list_cmp_total}
use Rattle.std.proofs.lemmas.List.{get_or_append_left}
use Rattle.std.proofs.lemmas.List.Sorted.{ranks_by}
use Rattle.metadata_schema.specs.declared.mutation.Mutation.{Mutation}
use Rattle.log_files.specs.Sorted.{mutation_cmp, AreInOrder}

pub mutation_total : IsTotalOrder mutation_cmp
mutation_total = then_total (then_total (on_total (λ (m : Mutation). m.table) nat_list_cmp_total) (on_total (λ (m : Mutation). m.row) nat_list_cmp_total)) (on_total (λ (m : Mutation). m.time) nat_cmp_total)

-- one is before the other
abbrev pub before : Mutation → Mutation → Bool
before a b = is_lt (mutation_cmp a b)

pub before_ranks : IsStrictWeakOrder before
before_ranks = ranks_by mutation_total (λ m. m)

pub in_order-none : AreInOrder []
in_order-none k d low below = absurd (omega (arith, below))

pub in_order-front : (xs ys : List Mutation) → AreInOrder (xs ++ ys) → AreInOrder xs
in_order-front xs ys up k d low below =
    let wide : k + 1 < length (xs ++ ys) = omega (arith, below, length-append xs ys) in
    let second = get_or_append_left xs ys d (k + 1) below in
    let first = get_or_append_left xs ys d k (omega (arith, below)) in
    ap (λ m. before m (get_or xs k d)) (sym second) ∙ ap (λ m. before (get_or (xs ++ ys) (k + 1) d) m) (sym first) ∙ up k d low wide
