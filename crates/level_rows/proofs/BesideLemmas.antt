-- A chain while rows beside it change, and one that is made row by row.
use Rattle.std.proofs.Common.{◌≡◌, ◌≢◌, inl, inr, List, [], ◌∷◌, ◌++◌, Bool, true, false, cond, reverse, Option, Some, None, Contains, refl, sym, ◌∙◌, ap, subst, append_assoc, append-nil}
use Rattle.std.specs.Prelude.{is_some}
use Rattle.std.proofs.lemmas.List.{reverse-append}
use Rattle.std.proofs.lemmas.Option.{same_Some}
use Rattle.row_keys.specs.RowOrder.{is_above}
use Rattle.metadata_schema.specs.declared.tablet.TabletRecord.{TabletRecord}
use Rattle.level_rows.specs.Chain.{Rows, ends_at, chosen_prev, effective_prev, same_end, IsBelowEnd, GoesOn, IsChainFrom, IsChain}
use Rattle.level_rows.specs.Changes.{with_row, without_row, IsBeside, IsLinked, EndsOr}
use Rattle.level_rows.proofs.Membership.{Contains-here, Contains-there, Contains-cons_cases}
use Rattle.level_rows.proofs.EndLemmas.{same_end-true, same_end-apart}
use Rattle.level_rows.proofs.WayLemmas.{Bytes, none_in, not_empty}
use Rattle.level_rows.proofs.RewireLemmas.{framed, whole-reach, with_row-apart}

-- a record that some record of a way reaches down to is in the way
pub reached_in : (rows : Rows) (end : Option Bytes) (ts : List TabletRecord) (t : TabletRecord) (low : Bytes) → IsChainFrom rows end ts → Contains ts t → effective_prev rows t ≡ Some low
    → (u : TabletRecord) × Contains ts u × (u.end ≡ Some low)
reached_in rows end [] t low p there reach = absurd p
reached_in rows end (v ∷ vs) t low p there reach = elim (Contains-cons_cases v t vs there) [
  | inl is ↦ here (effective_prev rows v) (ap (effective_prev rows) is ∙ reach) p.2
  | inr rest ↦ past (effective_prev rows v) p.2 rest (λ m way. reached_in rows (Some m) vs t low way rest reach)
]
  where
    head : (m : Bytes) (us : List TabletRecord) → IsChainFrom rows (Some m) us → (u : TabletRecord) × Contains us u × (u.end ≡ Some m)
    head m [] way = absurd way
    head m (u ∷ us) way = (u, Contains-here u us, way.1)

    here : (x : Option Bytes) → x ≡ Some low → GoesOn x end (vs ≡ []) (λ low. IsChainFrom rows (Some low) vs) → (u : TabletRecord) × Contains (v ∷ vs) u × (u.end ≡ Some low)
    here None e last = cc
    here (Some m) e more = let h = head m vs more.1 in (h.0, Contains-there v h.0 vs h.1, h.2 ∙ e)

    past : (x : Option Bytes) → GoesOn x end (vs ≡ []) (λ low. IsChainFrom rows (Some low) vs) → Contains vs t
        → ((m : Bytes) → IsChainFrom rows (Some m) vs → (u : TabletRecord) × Contains vs u × (u.end ≡ Some low)) → (u : TabletRecord) × Contains (v ∷ vs) u × (u.end ≡ Some low)
    past None last rest h = absurd (none_in vs t last rest)
    past (Some m) more rest h = let r = h m more.1 in (r.0, Contains-there v r.0 vs r.1, r.2)

-- a row that isn't in the chain goes
module _ (rows : Rows) (ts : List TabletRecord) (gone : Option Bytes) (p : IsChain rows ts) (apart : (u : TabletRecord) → Contains ts u → u.end ≢ gone) where
  ends-without : (u : TabletRecord) → Contains ts u → (q : Option Bytes) → u.prev ≡ q → (old : Option Bytes) → u.old_prev ≡ Some old → ends_at (without_row rows gone) q ≡ ends_at rows q
  ends-without u there None is old split = refl
  ends-without u there (Some g) is old split = by (same_end (Some g) gone) refl
    where
      there-too : (b : Bool) → is_some (rows (Some g)) ≡ b → Some g ≡ gone → false ≡ b
      there-too false e same = refl
      there-too true e same = absurd (
          let reach : effective_prev rows u ≡ Some g =
          ap (λ o. chosen_prev o (ends_at rows u.prev) u.prev) split ∙ ap (λ (x : Option Bytes). cond (ends_at rows x) x old) is ∙ ap (λ b. cond b (Some g) old) e in
          let r = reached_in rows None ts u g p there reach in
          apart r.0 r.1 (r.2 ∙ same))

      by : (b : Bool) → same_end (Some g) gone ≡ b → is_some (cond b None (rows (Some g))) ≡ is_some (rows (Some g))
      by true e = there-too (is_some (rows (Some g))) refl (same_end-true (Some g) gone e)
      by false e = refl

  prev-without : (u : TabletRecord) → Contains ts u → (old : Option (Option Bytes)) → u.old_prev ≡ old → effective_prev (without_row rows gone) u ≡ effective_prev rows u
  prev-without u there None whole = whole-reach (without_row rows gone) u whole ∙ sym (whole-reach rows u whole)
  prev-without u there (Some old) split = ap (λ b. chosen_prev u.old_prev b u.prev) (ends-without u there u.prev refl old split)

  pub gone_beside : IsChain (without_row rows gone) ts
  gone_beside = framed rows (without_row rows gone) None ts p (record {
    row = λ u there. ap (λ b. cond b None (rows u.end)) (same_end-apart u.end gone (apart u there));
    prev = λ u there. prev-without u there u.old_prev refl;
  })

-- a row comes beside the chain
pub come_beside : (rows : Rows) (ts : List TabletRecord) (t : TabletRecord) → IsChain rows ts → IsBeside ts t → IsChain (with_row rows t) ts
come_beside rows ts t p beside = framed rows (with_row rows t) None ts p (record {
  row = λ u there. with_row-apart rows t u.end (beside.ends u there);
  prev = λ u there. elim (beside.splits u there) [
    | inl whole ↦ whole-reach (with_row rows t) u whole ∙ sym (whole-reach rows u whole)
    | inr other ↦ ap (λ b. chosen_prev u.old_prev b u.prev) (same u.prev other)
  ];
})
  where
    same : (q : Option Bytes) → q ≢ t.end → ends_at (with_row rows t) q ≡ ends_at rows q
    same None other = refl
    same (Some q) other = ap is_some (with_row-apart rows t (Some q) other)

-- what stands below a lower bound
abbrev Stands : Rows → Option Bytes → List TabletRecord → Type 0
Stands rows None lower = lower ≡ []
Stands rows (Some prev) lower = IsChainFrom rows (Some prev) lower

stands-goes : (rows : Rows) (prev end : Option Bytes) (lower : List TabletRecord) → Stands rows prev lower → ((low : Bytes) → prev ≡ Some low → IsBelowEnd low end)
    → GoesOn prev end (lower ≡ []) (λ low. IsChainFrom rows (Some low) lower)
stands-goes rows None end lower stands below = stands
stands-goes rows (Some low) end lower stands below = (below low refl, stands)

below-above : (prev : Option Bytes) (row low : Bytes) → is_above prev row ≡ true → prev ≡ Some low → IsBelowEnd low (Some row)
below-above None row low above is = absurd (let wrong = is in cc)
below-above (Some p) row low above is = subst (λ (z : Bytes). IsBelowEnd z (Some row)) (same_Some _ _ is) above

-- tablets that follow each other stand on those below
tower : (rows : Rows) (prev : Option Bytes) (ts lower : List TabletRecord) → IsLinked prev ts → ((t : TabletRecord) → Contains ts t → rows t.end ≡ Some t) → Stands rows prev lower → IsChain rows (reverse ts ++ lower)
tower rows prev [] lower linked there stands = absurd linked
tower rows prev (t ∷ ts) lower linked there stands = by t.end refl linked.2 (λ e more on. tower rows (Some e) ts (t ∷ lower) more (λ u c. there u (Contains-there t u ts c)) on)
  where
    here : rows t.end ≡ Some t
    here = there t (Contains-here t ts)

    goes : (end : Option Bytes) → ((low : Bytes) → prev ≡ Some low → IsBelowEnd low end) → GoesOn (effective_prev rows t) end (lower ≡ []) (λ low. IsChainFrom rows (Some low) lower)
    goes end below = subst (λ (x : Option Bytes). GoesOn x end (lower ≡ []) (λ low. IsChainFrom rows (Some low) lower)) (sym (whole-reach rows t linked.1 ∙ linked.0)) (stands-goes rows prev end lower stands below)

    turned : reverse (t ∷ ts) ++ lower ≡ reverse ts ++ t ∷ lower
    turned = ap (λ l. l ++ lower) (reverse-append (t ∷ []) ts) ∙ append_assoc (reverse ts) (t ∷ []) lower

    by : (e : Option Bytes) → t.end ≡ e → EndsOr e prev (ts ≡ []) (λ end. IsLinked (Some end) ts) → ((e : Bytes) → IsLinked (Some e) ts → Stands rows (Some e) (t ∷ lower) → IsChain rows (reverse ts ++ t ∷ lower))
        → IsChain rows (reverse (t ∷ ts) ++ lower)
    by None is last h = subst (IsChain rows) (sym turned) (subst (λ l. IsChain rows (reverse l ++ t ∷ lower)) (sym last)
        (ap rows (sym is) ∙ here, is, goes None (λ low at. tt)))
    by (Some e) is more h = subst (IsChain rows) (sym turned) (h e more.1
        (ap rows (sym is) ∙ here, is, goes (Some e) (λ low at. below-above prev e low more.0 at)))

pub linked_chain : (rows : Rows) (ts : List TabletRecord) → IsLinked None ts → ((t : TabletRecord) → Contains ts t → rows t.end ≡ Some t) → IsChain rows (reverse ts)
linked_chain rows ts linked there = subst (IsChain rows) (append-nil (reverse ts)) (tower rows None ts [] linked there refl)

-- a tablet begins where the next lower one ends
pub next_ends : (rows : Rows) (end : Option Bytes) (above : List TabletRecord) (t u : TabletRecord) (below : List TabletRecord) → IsChainFrom rows end (above ++ t ∷ (u ∷ below))
    → (low : Bytes) × (u.end ≡ Some low) × (effective_prev rows t ≡ Some low) × IsBelowEnd low t.end
next_ends rows end [] t u below p = by (effective_prev rows t) refl p.2
  where
    by : (x : Option Bytes) → effective_prev rows t ≡ x → GoesOn x end (u ∷ below ≡ []) (λ low. IsChainFrom rows (Some low) (u ∷ below)) → (low : Bytes) × (u.end ≡ Some low) × (effective_prev rows t ≡ Some low) × IsBelowEnd low t.end
    by None e last = cc
    by (Some low) e more = (low, more.1.1, e, subst (IsBelowEnd low) (sym p.1) more.0)
next_ends rows end (a ∷ above) t u below p = by (effective_prev rows a) p.2 (λ low way. next_ends rows (Some low) above t u below way)
  where
    by : (x : Option Bytes) → GoesOn x end (above ++ t ∷ (u ∷ below) ≡ []) (λ low. IsChainFrom rows (Some low) (above ++ t ∷ (u ∷ below)))
        → ((low : Bytes) → IsChainFrom rows (Some low) (above ++ t ∷ (u ∷ below)) → (low : Bytes) × (u.end ≡ Some low) × (effective_prev rows t ≡ Some low) × IsBelowEnd low t.end)
        → (low : Bytes) × (u.end ≡ Some low) × (effective_prev rows t ≡ Some low) × IsBelowEnd low t.end
    by None last h = absurd (not_empty above t (u ∷ below) last)
    by (Some low) more h = h low more.1

-- the first tablet begins at none
pub first_begins : (rows : Rows) (end : Option Bytes) (above : List TabletRecord) (t : TabletRecord) → IsChainFrom rows end (above ++ t ∷ []) → effective_prev rows t ≡ None
first_begins rows end [] t p = by (effective_prev rows t) refl p.2
  where
    by : (x : Option Bytes) → effective_prev rows t ≡ x → GoesOn x end (◌≡◌ {A = List TabletRecord} [] []) (λ low. IsChainFrom rows (Some low) []) → effective_prev rows t ≡ None
    by None e last = e
    by (Some low) e more = absurd more.1
first_begins rows end (a ∷ above) t p = by (effective_prev rows a) p.2 (λ low way. first_begins rows (Some low) above t way)
  where
    by : (x : Option Bytes) → GoesOn x end (above ++ t ∷ [] ≡ []) (λ low. IsChainFrom rows (Some low) (above ++ t ∷ [])) → ((low : Bytes) → IsChainFrom rows (Some low) (above ++ t ∷ []) → effective_prev rows t ≡ None) → effective_prev rows t ≡ None
    by None last h = absurd (not_empty above t [] last)
    by (Some low) more h = h low more.1
