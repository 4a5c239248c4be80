-- Sorted logs that are there.
use Rattle.std.proofs.Common.{◌≡◌, ℕ, Bool, true, false, List, Option, Some, None, sym, ◌∙◌, subst}
use Rattle.std.specs.Prelude.{MatchBool}
use Rattle.std.proofs.lemmas.Option.{none-some, same_Some}
use Rattle.metadata_schema.specs.declared.mutation.Mutation.{Mutation}
use Rattle.log_files.specs.Sorted.{IsStableSortOf}
use Rattle.log_files.proofs.SortLemmas.{one_sort}
use Rattle.store_meaning.specs.Ground.{Ground}
use Rattle.store_meaning.specs.Readable.{IsSortedThere}

-- mutations are the stable sort of others where they are the sort that was made
pub decides_sort : (b : Bool) (mutations made in_order : List Mutation) → IsStableSortOf mutations made → MatchBool b (made ≡ in_order) (made ≡ in_order → ⊥) → MatchBool b (IsStableSortOf mutations in_order) (IsStableSortOf mutations in_order → ⊥)
decides_sort true mutations made in_order is same = subst (IsStableSortOf mutations) same is
decides_sort false mutations made in_order is apart = λ other. apart (one_sort mutations made in_order is other)

pub no_log : (known : Ground) (log : List ℕ) → known.mutations_of log ≡ None → IsSortedThere known log → ⊥
no_log known log none there = none-some there.mutations (sym none ∙ there.log_is)

pub no_sorted : (known : Ground) (log : List ℕ) → known.sorted_of log ≡ None → IsSortedThere known log → ⊥
no_sorted known log none there = none-some there.sorted (sym none ∙ there.sorted_is)

pub decides_there : (b : Bool) (known : Ground) (log : List ℕ) (mutations in_order : List Mutation) → known.mutations_of log ≡ Some mutations → known.sorted_of log ≡ Some in_order
    → MatchBool b (IsStableSortOf mutations in_order) (IsStableSortOf mutations in_order → ⊥) → MatchBool b (IsSortedThere known log) (IsSortedThere known log → ⊥)
decides_there true known log mutations in_order p q sorts = record { mutations = mutations; sorted = in_order; log_is = p; sorted_is = q; sorts = sorts }
decides_there false known log mutations in_order p q apart = λ there.
    let one : there.mutations ≡ mutations = same_Some there.mutations mutations (sym there.log_is ∙ p) in
    let other : there.sorted ≡ in_order = same_Some there.sorted in_order (sym there.sorted_is ∙ q) in
    apart (subst (λ m. IsStableSortOf m in_order) one (subst (IsStableSortOf there.mutations) other there.sorts))
