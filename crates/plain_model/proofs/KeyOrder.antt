-- The order of keys is total, and ties equal keys alone.
use Rattle.std.proofs.Common.{◌≡◌, Ordering, Less, Equal, Greater, refl, ap}
use Rattle.std.specs.Ordering.{ordering_then, is_eq}
use Rattle.std.specs.Cmp.{IsTotalOrder}
use Rattle.std.proofs.lemmas.Bool.{false≢true}
use Rattle.std.proofs.lemmas.Cmp.{nat_list_cmp_total, on_total, then_total}
use Rattle.std.proofs.lemmas.Map.Lookups.{CmpEqualImpliesEq, exact_bytes}
use Rattle.row_keys.specs.declared.key.Key.{Key}
use Rattle.row_keys.specs.Keys.{key_cmp}
use Rattle.row_keys.specs.RowOrder.{bytes_cmp}

pub key_total : IsTotalOrder key_cmp
key_total = then_total (on_total (λ (k : Key). k.row) nat_list_cmp_total) (then_total (on_total (λ (k : Key). k.family) nat_list_cmp_total) (on_total (λ (k : Key). k.qualifier) nat_list_cmp_total))

both_equal : (a b : Ordering) → ordering_then a b ≡ Equal → (a ≡ Equal) × (b ≡ Equal)
both_equal Less b is = absurd (false≢true (ap is_eq is))
both_equal Equal b is = (refl, is)
both_equal Greater b is = absurd (false≢true (ap is_eq is))

pub key_exact : CmpEqualImpliesEq key_cmp
key_exact x y is =
    let outer = both_equal (bytes_cmp x.row y.row) (ordering_then (bytes_cmp x.family y.family) (bytes_cmp x.qualifier y.qualifier)) is in
    let inner = both_equal (bytes_cmp x.family y.family) (bytes_cmp x.qualifier y.qualifier) outer.1 in
    λ i. record { row = exact_bytes x.row y.row outer.0 i; family = exact_bytes x.family y.family inner.0 i; qualifier = exact_bytes x.qualifier y.qualifier inner.1 i }
