-- The way down of a chain.
use Rattle.std.proofs.Common.{◌≡◌, ◌≢◌, ◌⊎◌, inl, inr, ℕ, List, [], ◌∷◌, ◌++◌, Bool, true, false, not, Option, Some, None, Contains, refl, sym, ◌∙◌, ap, subst}
use Rattle.std.proofs.lemmas.Bool.{false≢true}
use Rattle.std.proofs.lemmas.Option.{same_Some}
use Rattle.std.proofs.lemmas.List.Elements.{Contains-append_left, Contains-append_right}
use Rattle.row_keys.specs.RowOrder.{is_below, is_up_to}
use Rattle.row_keys.proofs.RowOrderLemmas.{is_below-trans, is_below-itself}
use Rattle.metadata_schema.specs.declared.tablet.TabletRecord.{TabletRecord}
use Rattle.level_rows.specs.Chain.{Rows, effective_prev, IsBelowEnd, GoesOn, IsChainFrom}
use Rattle.level_rows.specs.Broken.{BreaksFrom, BreaksOff}
use Rattle.level_rows.proofs.Membership.{Contains-nil, Contains-here, Contains-there, Contains-cons_cases}

abbrev pub Bytes : Type 0
Bytes = List ℕ

-- what is not above a bound is not above a higher end row
pub up_to_end : (low : Bytes) (end : Option Bytes) (row : Bytes) → IsBelowEnd low end → is_up_to (Some low) row ≡ true → is_up_to end row ≡ true
up_to_end low None row below in_low = refl
up_to_end low (Some end) row below in_low = by (is_below end row) refl
  where
    by : (b : Bool) → is_below end row ≡ b → not b ≡ true
    by true e = absurd (let wrong : is_below low row ≡ true = is_below-trans low end row below e in false≢true (ap not (sym wrong) ∙ in_low))
    by false e = refl

pub below_end : (a b : Bytes) (end : Option Bytes) → is_below a b ≡ true → IsBelowEnd b end → IsBelowEnd a end
below_end a b None p q = tt
below_end a b (Some end) p q = is_below-trans a b end p q

-- no row is below itself as an end row
pub below_apart : (low : Bytes) (end : Option Bytes) → IsBelowEnd low end → Some low ≢ end
below_apart low None below same = cc
below_apart low (Some end) below same =
    let one : low ≡ end = same_Some _ _ same in
    false≢true (sym (is_below-itself end) ∙ subst (λ (z : Bytes). is_below z end ≡ true) one below)

pub not_empty : {X : Type 0} (us : List X) (t : X) (ts : List X) → us ++ t ∷ ts ≡ [] → ⊥
not_empty [] t ts e = cc
not_empty (u ∷ us) t ts e = cc

pub none_in : {X : Type 0} (xs : List X) (x : X) → xs ≡ [] → Contains xs x → ⊥
none_in xs x none c = Contains-nil x (subst (λ l. Contains l x) none c)

-- where a way goes on is the same at the same lower bound
pub goes_from : (ts : List TabletRecord) (rows : Rows) (end x y : Option Bytes) → x ≡ y
    → GoesOn x end (ts ≡ []) (λ low. IsChainFrom rows (Some low) ts) → GoesOn y end (ts ≡ []) (λ low. IsChainFrom rows (Some low) ts)
goes_from ts rows end x y e h = subst (λ z. GoesOn z end (ts ≡ []) (λ low. IsChainFrom rows (Some low) ts)) e h

-- one chain
pub one_chain_from : (rows : Rows) (end : Option Bytes) (ts us : List TabletRecord) → IsChainFrom rows end ts → IsChainFrom rows end us → ts ≡ us
one_chain_from rows end [] us p q = absurd p
one_chain_from rows end (t ∷ ts) [] p q = absurd q
one_chain_from rows end (t ∷ ts) (u ∷ us) p q =
    let same : t ≡ u = same_Some _ _ (sym p.0 ∙ q.0) in
    by (effective_prev rows t) p.2 (goes_from us rows end _ _ (ap (effective_prev rows) (sym same)) q.2) (λ low. one_chain_from rows (Some low) ts us) same
  where
    by : (x : Option Bytes) → GoesOn x end (ts ≡ []) (λ low. IsChainFrom rows (Some low) ts) → GoesOn x end (us ≡ []) (λ low. IsChainFrom rows (Some low) us)
        → ((low : Bytes) → IsChainFrom rows (Some low) ts → IsChainFrom rows (Some low) us → ts ≡ us) → t ≡ u → t ∷ ts ≡ u ∷ us
    by None a b rest same = let rest_same = a ∙ sym b in cc
    by (Some low) a b rest same = let rest_same = rest low a.1 b.1 in cc

-- the way of a chain doesn't break off
pub not_broken_from : (rows : Rows) (end : Option Bytes) (ts us : List TabletRecord) → IsChainFrom rows end ts → BreaksFrom rows end us → ⊥
not_broken_from rows end [] us p b = p
not_broken_from rows end (t ∷ ts) [] p b = absurd (let wrong = sym p.0 ∙ b in cc)
not_broken_from rows end (t ∷ ts) (u ∷ us) p b =
    let same : u ≡ t = same_Some _ _ (sym b.0 ∙ p.0) in
    by (effective_prev rows t) p.2 (ap (effective_prev rows) (sym same) ∙ b.1.1) b.1.2 (λ low way. not_broken_from rows (Some low) ts us way)
  where
    by : (x : Option Bytes) → GoesOn x end (ts ≡ []) (λ low. IsChainFrom rows (Some low) ts) → x ≡ Some b.1.0
        → BreaksOff b.1.0 end (us ≡ []) (BreaksFrom rows (Some b.1.0) us) → ((low : Bytes) → IsChainFrom rows (Some low) ts → BreaksFrom rows (Some low) us → ⊥) → ⊥
    by None last e off rest = cc
    by (Some low) way e off rest =
        let at : low ≡ b.1.0 = same_Some _ _ e in
        elim off [
          | inl stop ↦ stop.0 (subst (λ (z : Bytes). IsBelowEnd z end) at way.0)
          | inr more ↦ rest low way.1 (subst (λ (z : Bytes). BreaksFrom rows (Some z) us) (sym at) more.1)
        ]

-- where a way is behind some of its records
pub behind : (rows : Rows) (end : Option Bytes) (us : List TabletRecord) (l : TabletRecord) (below : List TabletRecord) → IsChainFrom rows end (us ++ l ∷ below)
    → GoesOn (effective_prev rows l) end (below ≡ []) (λ low. IsChainFrom rows (Some low) below)
behind rows end [] l below p = p.2
behind rows end (u ∷ us) l below p = by (effective_prev rows u) p.2 (λ low way. behind rows (Some low) us l below way)
  where
    raised : (m : Bytes) (x : Option Bytes) → IsBelowEnd m end → GoesOn x (Some m) (below ≡ []) (λ low. IsChainFrom rows (Some low) below) → GoesOn x end (below ≡ []) (λ low. IsChainFrom rows (Some low) below)
    raised m None under way = way
    raised m (Some low) under way = (below_end low m end way.0 under, way.1)

    by : (x : Option Bytes) → GoesOn x end (us ++ l ∷ below ≡ []) (λ low. IsChainFrom rows (Some low) (us ++ l ∷ below))
        → ((low : Bytes) → IsChainFrom rows (Some low) (us ++ l ∷ below) → GoesOn (effective_prev rows l) (Some low) (below ≡ []) (λ low. IsChainFrom rows (Some low) below))
        → GoesOn (effective_prev rows l) end (below ≡ []) (λ low. IsChainFrom rows (Some low) below)
    by None last rest = absurd (not_empty us l below last)
    by (Some m) way rest = raised m _ way.0 (rest m way.1)

-- further down the end rows are lower
pub lower_ends : (rows : Rows) (end : Option Bytes) (ts : List TabletRecord) (u : TabletRecord) → IsChainFrom rows end ts → Contains ts u → (u.end ≡ end) ⊎ ((e : Bytes) × (u.end ≡ Some e) × IsBelowEnd e end)
lower_ends rows end [] u p there = absurd p
lower_ends rows end (t ∷ ts) u p there = elim (Contains-cons_cases t u ts there) [
  | inl is ↦ inl (ap (λ (x : TabletRecord). x.end) (sym is) ∙ p.1)
  | inr rest ↦ by (effective_prev rows t) p.2 rest (λ low way. lower_ends rows (Some low) ts u way rest)
]
  where
    by : (x : Option Bytes) → GoesOn x end (ts ≡ []) (λ low. IsChainFrom rows (Some low) ts) → Contains ts u
        → ((low : Bytes) → IsChainFrom rows (Some low) ts → (u.end ≡ Some low) ⊎ ((e : Bytes) × (u.end ≡ Some e) × IsBelowEnd e (Some low))) → (u.end ≡ end) ⊎ ((e : Bytes) × (u.end ≡ Some e) × IsBelowEnd e end)
    by None last rest h = absurd (none_in ts u last rest)
    by (Some low) way rest h = elim (h low way.1) [
      | inl at ↦ inr (low, at, way.0)
      | inr lower ↦ inr (lower.0, lower.1, below_end lower.0 low end lower.2 way.0)
    ]

-- behind a record the end rows are lower
pub strictly_lower : (rows : Rows) (end : Option Bytes) (t : TabletRecord) (ts : List TabletRecord) (u : TabletRecord) → IsChainFrom rows end (t ∷ ts) → Contains ts u → (e : Bytes) × (u.end ≡ Some e) × IsBelowEnd e end
strictly_lower rows end t ts u p there = by (effective_prev rows t) p.2
  where
    by : (x : Option Bytes) → GoesOn x end (ts ≡ []) (λ low. IsChainFrom rows (Some low) ts) → (e : Bytes) × (u.end ≡ Some e) × IsBelowEnd e end
    by None last = absurd (none_in ts u last there)
    by (Some low) way = elim (lower_ends rows (Some low) ts u way.1 there) [
      | inl at ↦ (low, at, way.0)
      | inr lower ↦ (lower.0, lower.1, below_end lower.0 low end lower.2 way.0)
    ]

pub lower_apart : (rows : Rows) (end : Option Bytes) (t : TabletRecord) (ts : List TabletRecord) (u : TabletRecord) → IsChainFrom rows end (t ∷ ts) → Contains ts u → u.end ≢ end
lower_apart rows end t ts u p there same =
    let lower = strictly_lower rows end t ts u p there in
    below_apart lower.0 end lower.2 (sym lower.1 ∙ same)

-- the other end rows of a way are others
pub apart_ends : (rows : Rows) (end : Option Bytes) (above : List TabletRecord) (t : TabletRecord) (below : List TabletRecord) (u : TabletRecord)
    → IsChainFrom rows end (above ++ t ∷ below) → Contains above u ⊎ Contains below u → u.end ≢ t.end
apart_ends rows end [] t below u p there = elim there [ inl none ↦ absurd (Contains-nil u none) | inr below_it ↦ (λ same. lower_apart rows end t below u p below_it (same ∙ p.1)) ]
apart_ends rows end (a ∷ above) t below u p there = elim there [
  | inl above_it ↦ elim (Contains-cons_cases a u above above_it) [
    | inl is ↦ (λ same. lower_apart rows end a (above ++ t ∷ below) t p (among above) (sym same ∙ ap (λ (x : TabletRecord). x.end) (sym is) ∙ p.1))
    | inr rest ↦ by (effective_prev rows a) p.2 (λ low way. apart_ends rows (Some low) above t below u way (inl rest))
  ]
  | inr below_it ↦ by (effective_prev rows a) p.2 (λ low way. apart_ends rows (Some low) above t below u way (inr below_it))
]
  where
    among : (us : List TabletRecord) → Contains (us ++ t ∷ below) t
    among [] = Contains-here t below
    among (v ∷ us) = Contains-there v t (us ++ t ∷ below) (among us)

    by : (x : Option Bytes) → GoesOn x end (above ++ t ∷ below ≡ []) (λ low. IsChainFrom rows (Some low) (above ++ t ∷ below))
        → ((low : Bytes) → IsChainFrom rows (Some low) (above ++ t ∷ below) → u.end ≢ t.end) → u.end ≢ t.end
    by None last h = absurd (not_empty above t below last)
    by (Some low) way h = h low way.1

-- no record of a way stands in it twice
pub not_twice : (rows : Rows) (end : Option Bytes) (us vs : List TabletRecord) (u : TabletRecord) → IsChainFrom rows end (us ++ vs) → Contains us u → Contains vs u → ⊥
not_twice rows end [] vs u p first second = Contains-nil u first
not_twice rows end (t ∷ us) vs u p first second = elim (Contains-cons_cases t u us first) [
  | inl is ↦ lower_apart rows end t (us ++ vs) u p (Contains-append_right us vs u second) (ap (λ (x : TabletRecord). x.end) (sym is) ∙ p.1)
  | inr rest ↦ by (effective_prev rows t) p.2 rest (λ low way. not_twice rows (Some low) us vs u way rest second)
]
  where
    by : (x : Option Bytes) → GoesOn x end (us ++ vs ≡ []) (λ low. IsChainFrom rows (Some low) (us ++ vs)) → Contains us u → ((low : Bytes) → IsChainFrom rows (Some low) (us ++ vs) → ⊥) → ⊥
    by None last rest h = none_in (us ++ vs) u last (Contains-append_left us vs u rest)
    by (Some low) way rest h = h low way.1

-- a record of a way is the one at its end row
pub row_of : (rows : Rows) (end : Option Bytes) (ts : List TabletRecord) (t : TabletRecord) → IsChainFrom rows end ts → Contains ts t → rows t.end ≡ Some t
row_of rows end [] t p there = absurd p
row_of rows end (u ∷ ts) t p there = elim (Contains-cons_cases u t ts there) [
  | inl is ↦ subst (λ (x : TabletRecord). rows x.end ≡ Some x) is (ap rows p.1 ∙ p.0)
  | inr rest ↦ by (effective_prev rows u) p.2 rest (λ low way. row_of rows (Some low) ts t way rest)
]
  where
    by : (x : Option Bytes) → GoesOn x end (ts ≡ []) (λ low. IsChainFrom rows (Some low) ts) → Contains ts t → ((low : Bytes) → IsChainFrom rows (Some low) ts → rows t.end ≡ Some t) → rows t.end ≡ Some t
    by None last rest h = absurd (none_in ts t last rest)
    by (Some low) way rest h = h low way.1
