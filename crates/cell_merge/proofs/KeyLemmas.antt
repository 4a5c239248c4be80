-- The order of keys tells them apart.
use Rattle.std.proofs.Common.{◌≡◌, ◌≢◌, ◌⊎◌, inl, inr, true, false, refl, sym, ◌∙◌, ap, subst}
use Rattle.std.specs.Ordering.{is_eq, ordering_then, ordering_reverse}
use Rattle.std.specs.declared.cmp.Ordering.{Ordering}
use Rattle.std.specs.declared.cmp.Ordering.TheVariants.{Less, Equal, Greater}
use Rattle.std.specs.Cmp.{IsTotalOrder, tied_then}
use Rattle.std.proofs.lemmas.Bool.{cases_Bool, and_parts}
use Rattle.std.proofs.lemmas.Cmp.{nat_list_cmp_total, on_total, then_total, tied_itself}
use Rattle.std.proofs.lemmas.Map.Lookups.{exact_bytes}
use Rattle.row_keys.specs.declared.key.Key.{Key}
use Rattle.row_keys.specs.Keys.{key_cmp}
use Rattle.row_keys.specs.RowOrder.{bytes_cmp}
use Rattle.cell_merge.specs.Newest.{is_same_key}

pub key_cmp_total : IsTotalOrder key_cmp
key_cmp_total = then_total (on_total (λ (key : Key). key.row) nat_list_cmp_total) (then_total (on_total (λ (key : Key). key.family) nat_list_cmp_total) (on_total (λ (key : Key). key.qualifier) nat_list_cmp_total))

is_equal : (o : Ordering) → is_eq o ≡ true → o ≡ Equal
is_equal Less e = cc
is_equal Equal e = refl
is_equal Greater e = cc

key_of_parts : (a b : Key) → a.row ≡ b.row → a.family ≡ b.family → a.qualifier ≡ b.qualifier → a ≡ b
key_of_parts a b r f q = λ i. record { row = r i; family = f i; qualifier = q i }

pub same_key-true : (a b : Key) → is_same_key a b ≡ true → a ≡ b
same_key-true a b e =
    let rest = ordering_then (bytes_cmp a.family b.family) (bytes_cmp a.qualifier b.qualifier) in
    let p = and_parts (is_eq (bytes_cmp a.row b.row)) (is_eq rest) (tied_then (bytes_cmp a.row b.row) rest ∙ e) in
    let q = and_parts (is_eq (bytes_cmp a.family b.family)) (is_eq (bytes_cmp a.qualifier b.qualifier)) (tied_then (bytes_cmp a.family b.family) (bytes_cmp a.qualifier b.qualifier) ∙ p.1) in
    key_of_parts a b (exact_bytes _ _ (is_equal _ p.0)) (exact_bytes _ _ (is_equal _ q.0)) (exact_bytes _ _ (is_equal _ q.1))

pub key_cmp-equal : (a b : Key) → key_cmp a b ≡ Equal → a ≡ b
key_cmp-equal a b e = same_key-true a b (ap is_eq e)

pub same_key-refl : (a : Key) → is_same_key a a ≡ true
same_key-refl a = ap is_eq (tied_itself key_cmp_total a)

pub same_key-same : (a b : Key) → a ≡ b → is_same_key a b ≡ true
same_key-same a b e = subst (λ (k : Key). is_same_key a k ≡ true) e (same_key-refl a)

pub same_key-false : (a b : Key) → is_same_key a b ≡ false → a ≢ b
same_key-false a b e same = let right = same_key-same a b same in cc

pub cases_key : (a b : Key) → (a ≡ b) ⊎ (a ≢ b)
cases_key a b = elim (cases_Bool (is_same_key a b)) [ inl is ↦ inl (same_key-true a b is) | inr is ↦ inr (same_key-false a b is) ]

-- nothing is below itself
pub key_cmp-irreflexive : (a b : Key) → key_cmp a b ≡ Less → a ≢ b
key_cmp-irreflexive a b less same =
    let itself = subst (λ (k : Key). key_cmp a k ≡ Equal) same (tied_itself key_cmp_total a) in
    let wrong : Less ≡ Equal = sym less ∙ itself in
    cc

-- of two keys at most one is below the other
pub key_cmp-asymmetric : (a b : Key) → key_cmp a b ≡ Less → key_cmp b a ≡ Less → {P : Type 0} → P
key_cmp-asymmetric a b one other =
    let wrong : Less ≡ Greater = sym one ∙ key_cmp_total.antisymm a b ∙ ap ordering_reverse other in
    absurd cc
