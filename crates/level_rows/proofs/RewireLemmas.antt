-- How a chain stands while rows around it change.
use Rattle.std.proofs.Common.{◌≡◌, ◌≢◌, List, [], ◌∷◌, ◌++◌, Bool, true, false, cond, Option, Some, None, Contains, refl, sym, ◌∙◌, ap, subst}
use Rattle.std.specs.Prelude.{is_some}
use Rattle.row_keys.specs.RowOrder.{is_above}
use Rattle.metadata_schema.specs.declared.tablet.TabletRecord.{TabletRecord}
use Rattle.level_rows.specs.Chain.{Rows, ends_at, chosen_prev, effective_prev, same_end, IsBelowEnd, GoesOn, IsChainFrom}
use Rattle.level_rows.specs.Changes.{StandAsBefore, with_row}
use Rattle.level_rows.proofs.Membership.{Contains-here, Contains-there}
use Rattle.level_rows.proofs.EndLemmas.{same_end-true, same_end-refl, same_end-apart}
use Rattle.level_rows.proofs.WayLemmas.{Bytes, goes_from, not_empty, behind}

stand-tail : (old new : Rows) (t : TabletRecord) (ts : List TabletRecord) → StandAsBefore old new (t ∷ ts) → StandAsBefore old new ts
stand-tail old new t ts same = record { row = λ u there. same.row u (Contains-there t u ts there); prev = λ u there. same.prev u (Contains-there t u ts there) }

-- a way that stands as before
pub framed : (old new : Rows) (end : Option Bytes) (ts : List TabletRecord) → IsChainFrom old end ts → StandAsBefore old new ts → IsChainFrom new end ts
framed old new end [] p same = p
framed old new end (t ∷ ts) p same = (
  subst (λ e. new e ≡ Some t) p.1 (same.row t (Contains-here t ts) ∙ ap old p.1 ∙ p.0),
  p.1,
  by (effective_prev old t) (effective_prev new t) (sym (same.prev t (Contains-here t ts))) p.2 (λ low way. framed old new (Some low) ts way (stand-tail old new t ts same)),
)
  where
    by : (x y : Option Bytes) → x ≡ y → GoesOn x end (ts ≡ []) (λ low. IsChainFrom old (Some low) ts) → ((low : Bytes) → IsChainFrom old (Some low) ts → IsChainFrom new (Some low) ts)
        → GoesOn y end (ts ≡ []) (λ low. IsChainFrom new (Some low) ts)
    by None y e way rest = goes_from ts new end None y e way
    by (Some low) y e way rest = goes_from ts new end (Some low) y e (way.0, rest low way.1)

-- what stands behind some records can be another way from the same end row
pub rejoined : (old new : Rows) (end : Option Bytes) (above : List TabletRecord) (t : TabletRecord) (ts us : List TabletRecord) → IsChainFrom old end (above ++ t ∷ ts) → StandAsBefore old new above
    → (IsChainFrom old t.end (t ∷ ts) → IsChainFrom new t.end us) → IsChainFrom new end (above ++ us)
rejoined old new end [] t ts us p same way = subst (λ e. IsChainFrom new e us) p.1 (way (subst (λ e. IsChainFrom old e (t ∷ ts)) (sym p.1) p))
rejoined old new end (a ∷ above) t ts us p same way = (
  subst (λ e. new e ≡ Some a) p.1 (same.row a (Contains-here a above) ∙ ap old p.1 ∙ p.0),
  p.1,
  by (effective_prev old a) (effective_prev new a) (sym (same.prev a (Contains-here a above))) p.2 (λ low rest. rejoined old new (Some low) above t ts us rest (stand-tail old new a above same) way),
)
  where
    by : (x y : Option Bytes) → x ≡ y → GoesOn x end (above ++ t ∷ ts ≡ []) (λ low. IsChainFrom old (Some low) (above ++ t ∷ ts)) → ((low : Bytes) → IsChainFrom old (Some low) (above ++ t ∷ ts) → IsChainFrom new (Some low) (above ++ us))
        → GoesOn y end (above ++ us ≡ []) (λ low. IsChainFrom new (Some low) (above ++ us))
    by None y e last rest = absurd (not_empty above t ts last)
    by (Some low) y e way rest = subst (λ z. GoesOn z end (above ++ us ≡ []) (λ low. IsChainFrom new (Some low) (above ++ us))) e (way.0, rest low way.1)

-- the same way goes on
goes_framed : (old new : Rows) (end : Option Bytes) (x : Option Bytes) (ts : List TabletRecord) → GoesOn x end (ts ≡ []) (λ low. IsChainFrom old (Some low) ts) → StandAsBefore old new ts → GoesOn x end (ts ≡ []) (λ low. IsChainFrom new (Some low) ts)
goes_framed old new end None ts way same = way
goes_framed old new end (Some low) ts way same = (way.0, framed old new (Some low) ts way.1 same)

abbrev pub IsLowerEnd : List TabletRecord → TabletRecord → Type 0
IsLowerEnd mids t = (u : TabletRecord) (us : List TabletRecord) → mids ≡ u ∷ us → u.end ≡ t.end

-- the record at the end row reaches as far down as a lower one
reached : (old new : Rows) (end : Option Bytes) (mid : List TabletRecord) (l : TabletRecord) (below : List TabletRecord) (t : TabletRecord) → IsChainFrom old end (mid ++ l ∷ below)
    → new t.end ≡ Some t → t.end ≡ end → effective_prev new t ≡ effective_prev old l → StandAsBefore old new below → IsChainFrom new end (t ∷ below)
reached old new end mid l below t p there at reach same =
    (subst (λ e. new e ≡ Some t) at there, at, goes_from below new end _ _ (sym reach) (goes_framed old new end _ below (behind old end mid l below p) same))

pub rewired_at : (old new : Rows) (end : Option Bytes) (above mid below : List TabletRecord) (l t : TabletRecord) → IsChainFrom old end (above ++ (mid ++ l ∷ below))
    → new t.end ≡ Some t → effective_prev new t ≡ effective_prev old l → IsLowerEnd (mid ++ l ∷ []) t
    → StandAsBefore old new above → StandAsBefore old new below → IsChainFrom new end (above ++ t ∷ below)
rewired_at old new end above [] below l t p there reach at same_above same_below =
    rejoined old new end above l below (t ∷ below) p same_above (λ way. reached old new l.end [] l below t way there (sym (at l [] refl)) reach same_below)
rewired_at old new end above (m ∷ mid) below l t p there reach at same_above same_below =
    rejoined old new end above m (mid ++ l ∷ below) (t ∷ below) p same_above (λ way. reached old new m.end (m ∷ mid) l below t way there (sym (at m _ refl)) reach same_below)

-- a record that comes between
pub inserted_at : (old new : Rows) (end : Option Bytes) (above below : List TabletRecord) (t r : TabletRecord) (at : Bytes) → IsChainFrom old end (above ++ t ∷ below)
    → new t.end ≡ Some t → effective_prev new t ≡ Some at → IsBelowEnd at t.end
    → r.end ≡ Some at → new (Some at) ≡ Some r → effective_prev new r ≡ effective_prev old t → is_above (effective_prev old t) at ≡ true
    → StandAsBefore old new above → StandAsBefore old new below → IsChainFrom new end (above ++ t ∷ r ∷ below)
inserted_at old new end above below t r at p there to under r_end r_there r_reach lower same_above same_below =
    rejoined old new end above t below (t ∷ r ∷ below) p same_above (λ way.
    (there, refl, goes_from (r ∷ below) new t.end _ _ (sym to) (under, (r_there, r_end, goes_from below new (Some at) _ _ (sym r_reach) (lifted (effective_prev old t) lower way.2)))))
  where
    lifted : (x : Option Bytes) → is_above x at ≡ true → GoesOn x t.end (below ≡ []) (λ low. IsChainFrom old (Some low) below) → GoesOn x (Some at) (below ≡ []) (λ low. IsChainFrom new (Some low) below)
    lifted None under way = way
    lifted (Some low) under way = (under, framed old new (Some low) below way.1 same_below)

pub with_row-at : (rows : Rows) (t : TabletRecord) → with_row rows t t.end ≡ Some t
with_row-at rows t = ap (λ b. cond b (Some t) (rows t.end)) (same_end-refl t.end)

pub with_row-apart : (rows : Rows) (t : TabletRecord) (end : Option Bytes) → end ≢ t.end → with_row rows t end ≡ rows end
with_row-apart rows t end other = ap (λ b. cond b (Some t) (rows end)) (same_end-apart end t.end other)

-- a record in place of one with its end row leaves where the others begin
pub ends_at-with_row : (rows : Rows) (t u : TabletRecord) (p : Option Bytes) → rows t.end ≡ Some u → ends_at (with_row rows t) p ≡ ends_at rows p
ends_at-with_row rows t u None there = refl
ends_at-with_row rows t u (Some p) there = by (same_end (Some p) t.end) refl
  where
    by : (b : Bool) → same_end (Some p) t.end ≡ b → is_some (cond b (Some t) (rows (Some p))) ≡ is_some (rows (Some p))
    by true e = ap is_some (sym (ap rows (same_end-true _ _ e) ∙ there))
    by false e = refl

pub effective_prev-with_row : (rows : Rows) (t u v : TabletRecord) → rows t.end ≡ Some u → effective_prev (with_row rows t) v ≡ effective_prev rows v
effective_prev-with_row rows t u v there = ap (λ b. chosen_prev v.old_prev b v.prev) (ends_at-with_row rows t u v.prev there)

pub stand-with_row : (rows : Rows) (t u : TabletRecord) (ts : List TabletRecord) → rows t.end ≡ Some u → ((v : TabletRecord) → Contains ts v → v.end ≢ t.end) → StandAsBefore rows (with_row rows t) ts
stand-with_row rows t u ts there apart = record {
  row = λ v is. with_row-apart rows t v.end (apart v is);
  prev = λ v is. effective_prev-with_row rows t u v there;
}

-- a record of a whole tablet reaches down to its previous row
pub whole-reach : (rows : Rows) (t : TabletRecord) → t.old_prev ≡ None → effective_prev rows t ≡ t.prev
whole-reach rows t whole = ap (λ o. chosen_prev o (ends_at rows t.prev) t.prev) whole
