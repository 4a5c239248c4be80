-- The records of a chain from the highest that meets a range on.
use Rattle.std.proofs.Common.{◌≡◌, inl, inr, List, [], ◌∷◌, ◌++◌, Bool, true, false, not, Option, Some, None, Contains, refl, sym, ◌∙◌, ap, subst}
use Rattle.std.proofs.lemmas.Bool.{cases_Bool, and_parts, and_from, false≢true}
use Rattle.std.proofs.lemmas.Option.{same_Some}
use Rattle.row_keys.specs.RowOrder.{is_below, is_above, is_up_to, is_within}
use Rattle.row_keys.proofs.RowOrderLemmas.{is_below-itself, is_below-trans, is_below-to_most}
use Rattle.row_keys.proofs.RangesLemmas.{common_of, common_is_shared}
use Rattle.metadata_schema.specs.declared.tablet.TabletRecord.{TabletRecord}
use Rattle.level_rows.specs.Chain.{Rows, effective_prev, IsBelowEnd, GoesOn, IsChainFrom}
use Rattle.level_rows.specs.Extents.{holds_row, meets_range, ReachesDownTo, begins_by, EndsBetween}
use Rattle.level_rows.proofs.Membership.{Contains-nil, Contains-cons_cases}
use Rattle.level_rows.proofs.WayLemmas.{Bytes, below_end}
use Rattle.level_rows.proofs.PartitionLemmas.{inside_up_to}

pub not_false : (b : Bool) → not b ≡ true → b ≡ false
not_false true e = absurd (false≢true e)
not_false false e = refl

-- of two rows at most one is below the other
pub below-not_back : (a b : Bytes) → is_below a b ≡ true → not (is_below b a) ≡ true
below-not_back a b p = by (is_below b a) refl
  where
    by : (b' : Bool) → is_below b a ≡ b' → not b' ≡ true
    by true e = absurd (false≢true (sym (is_below-itself a) ∙ is_below-trans a b a p e))
    by false e = refl

pub up-from_below : (to : Option Bytes) (row : Bytes) → IsBelowEnd row to → is_up_to to row ≡ true
up-from_below None row below = refl
up-from_below (Some to) row below = below-not_back row to below

-- the lower bound of a range is below an end row
abbrev pub IsUnder : Option Bytes → Option Bytes → Type 0
IsUnder None end = Unit {0}
IsUnder (Some from) end = IsBelowEnd from end

pub under-end : (from : Option Bytes) (row : Bytes) (end : Option Bytes) → is_above from row ≡ true → is_up_to end row ≡ true → IsUnder from end
under-end None row end above upto = tt
under-end (Some from) row None above upto = tt
under-end (Some from) row (Some end) above upto = is_below-to_most from row end above (not_false (is_below end row) upto)

module _ (rows : Rows) (from to : Option Bytes) where
  pub meets-by : (t : TabletRecord) (row : Bytes) → holds_row rows t row ≡ true → is_within from to row ≡ true → meets_range rows from to t ≡ true
  meets-by t row one other = common_of (effective_prev rows t) t.end from to row one other

  pub meets-not : (t : TabletRecord) → ((row : Bytes) → is_above (effective_prev rows t) row ≡ true → is_up_to t.end row ≡ true → is_above from row ≡ true → is_up_to to row ≡ true → ⊥) → meets_range rows from to t ≡ false
  meets-not t none = by (meets_range rows from to t) refl
    where
      by : (b : Bool) → meets_range rows from to t ≡ b → b ≡ false
      by true e = absurd (
          let share = (common_is_shared (effective_prev rows t) t.end from to).0 e in
          let one = and_parts (is_above (effective_prev rows t) share.0) (is_up_to t.end share.0) share.1 in
          let other = and_parts (is_above from share.0) (is_up_to to share.0) share.2 in
          none share.0 one.0 one.1 other.0 other.1)
      by false e = refl

  -- below the tablet that reaches down to the range none meets it
  none-below : (low : Bytes) (ts : List TabletRecord) → IsChainFrom rows (Some low) ts → (f : Bytes) → from ≡ Some f → is_below f low ≡ false → (t : TabletRecord) → Contains ts t → meets_range rows from to t ≡ false
  none-below low ts way f is at_most t there = meets-not t (λ row above upto over under.
      let in_low : is_up_to (Some low) row ≡ true = inside_up_to rows (Some low) ts t row way there upto in
      let over_f : is_below f row ≡ true = ap (λ (x : Option Bytes). is_above x row) (sym is) ∙ over in
      false≢true (sym at_most ∙ is_below-to_most f row low over_f (not_false (is_below low row) in_low)))

  -- the tablets from the highest that meets the range on
  pub record IsFoot (t : TabletRecord) (ts inside below : List TabletRecord) : Type 0 where
    pub whole : t ∷ ts ≡ inside ++ below
    pub met : (u : TabletRecord) → Contains inside u → meets_range rows from to u ≡ true
    pub outside : (u : TabletRecord) → Contains below u → meets_range rows from to u ≡ false
    pub rest : List TabletRecord
    pub begins : inside ≡ t ∷ rest
    pub between : (u : TabletRecord) → Contains rest u → EndsBetween from to u.end
    pub front : List TabletRecord
    pub lowest : TabletRecord
    pub finishes : inside ≡ front ++ lowest ∷ []
    pub down : ReachesDownTo rows from lowest

  pub record Foot (t : TabletRecord) (ts : List TabletRecord) : Type 0 where
    pub inside : List TabletRecord
    pub below : List TabletRecord
    pub is : IsFoot t ts inside below

  one-met : (t : TabletRecord) → meets_range rows from to t ≡ true → (u : TabletRecord) → Contains (t ∷ []) u → meets_range rows from to u ≡ true
  one-met t met u there = elim (Contains-cons_cases t u [] there) [
    | inl is ↦ subst (λ (x : TabletRecord). meets_range rows from to x ≡ true) is met
    | inr none ↦ absurd (Contains-nil u none)
  ]

  stops-here : (t : TabletRecord) (ts : List TabletRecord) → meets_range rows from to t ≡ true → ((u : TabletRecord) → Contains ts u → meets_range rows from to u ≡ false) → ReachesDownTo rows from t → Foot t ts
  stops-here t ts met outside down = record {
    inside = t ∷ [];
    below = ts;
    is = record { whole = refl; met = one-met t met; outside = outside; rest = []; begins = refl; between = λ u there. absurd (Contains-nil u there); front = []; lowest = t; finishes = refl; down = down };
  }

  goes-on : (t u : TabletRecord) (us : List TabletRecord) → meets_range rows from to t ≡ true → EndsBetween from to u.end → Foot u us → Foot t (u ∷ us)
  goes-on t u us met ends foot = record {
    inside = t ∷ foot.inside;
    below = foot.below;
    is = record {
      whole = ap (λ l. t ∷ l) foot.is.whole;
      met = λ v there. elim (Contains-cons_cases t v foot.inside there) [
        | inl is ↦ subst (λ (x : TabletRecord). meets_range rows from to x ≡ true) is met
        | inr rest ↦ foot.is.met v rest
      ];
      outside = foot.is.outside;
      rest = foot.inside;
      begins = refl;
      between = λ v there. elim (Contains-cons_cases u v foot.is.rest (subst (λ l. Contains l v) foot.is.begins there)) [
        | inl is ↦ subst (λ (x : TabletRecord). EndsBetween from to x.end) is ends
        | inr rest ↦ foot.is.between v rest
      ];
      front = t ∷ foot.is.front;
      lowest = foot.is.lowest;
      finishes = ap (λ l. t ∷ l) foot.is.finishes;
      down = foot.is.down;
    };
  }

  -- a tablet that ends in the range meets it
  met-below : (low : Bytes) (u : TabletRecord) (us : List TabletRecord) → IsChainFrom rows (Some low) (u ∷ us) → is_above from low ≡ true → is_up_to to low ≡ true → meets_range rows from to u ≡ true
  met-below low u us way above upto = meets-by u low
      (and_from (is_above (effective_prev rows u) low) (is_up_to u.end low) (by (effective_prev rows u) way.2) (ap (λ (x : Option Bytes). is_up_to x low) way.1 ∙ ap not (is_below-itself low)))
      (and_from (is_above from low) (is_up_to to low) above upto)
    where
      by : (x : Option Bytes) → GoesOn x (Some low) (us ≡ []) (λ low. IsChainFrom rows (Some low) us) → is_above x low ≡ true
      by None last = refl
      by (Some lower) more = more.0

  reaches-none : (from : Option Bytes) (t : TabletRecord) (end : Option Bytes) → effective_prev rows t ≡ None → t.end ≡ end → IsUnder from end → ReachesDownTo rows from t
  reaches-none None t end e is under = e
  reaches-none (Some f) t end e is under = (ap (λ (x : Option Bytes). begins_by x f) e, subst (IsBelowEnd f) (sym is) under)

  more-below : (x : Option Bytes) (low lower : Bytes) (us : List TabletRecord) → x ≡ Some lower → GoesOn x (Some low) (us ≡ []) (λ low. IsChainFrom rows (Some low) us) → is_below lower low ≡ true
  more-below None low lower us is more = cc
  more-below (Some y) low lower us is more = subst (λ (z : Bytes). is_below z low ≡ true) (same_Some _ _ is) more.0

  under-above : (f : Option Bytes) (low : Bytes) → is_above f low ≡ true → IsUnder f (Some low)
  under-above None low above = tt
  under-above (Some f) low above = above

  -- a lower bound is above the range's, or at most it
  choose : (f : Option Bytes) (low : Bytes) (P : Type 0) → from ≡ f → (is_above from low ≡ true → P) → ((g : Bytes) → from ≡ Some g → is_below g low ≡ false → P) → P
  choose None low P e over most = over (ap (λ (x : Option Bytes). is_above x low) e)
  choose (Some g) low P e over most = elim (cases_Bool (is_below g low)) [
    | inl is ↦ over (ap (λ (x : Option Bytes). is_above x low) e ∙ is)
    | inr is ↦ most g e is
  ]

  reaches-low : (f : Option Bytes) (g low : Bytes) (t : TabletRecord) (end : Option Bytes) → f ≡ Some g → effective_prev rows t ≡ Some low → is_below g low ≡ false → t.end ≡ end → IsUnder f end → ReachesDownTo rows f t
  reaches-low None g low t end e at most is under = absurd (let wrong = e in cc)
  reaches-low (Some f) g low t end e at most is under =
      let same : g ≡ f = sym (same_Some _ _ e) in
      (ap (λ (x : Option Bytes). begins_by x f) at ∙ ap (λ (z : Bytes). not (is_below z low)) (sym same) ∙ ap not most, subst (IsBelowEnd f) (sym is) under)

  pub foot_from : (end : Option Bytes) (t : TabletRecord) (ts : List TabletRecord) → IsChainFrom rows end (t ∷ ts) → meets_range rows from to t ≡ true
      → ((low : Bytes) → effective_prev rows t ≡ Some low → IsBelowEnd low to) → IsUnder from end → Foot t ts
  foot_from end t [] way met upto under = by (effective_prev rows t) refl way.2
    where
      by : (x : Option Bytes) → effective_prev rows t ≡ x → GoesOn x end (◌≡◌ {A = List TabletRecord} [] []) (λ low. IsChainFrom rows (Some low) []) → Foot t []
      by None e last = stops-here t [] met (λ u there. absurd (Contains-nil u there)) (reaches-none from t end e way.1 under)
      by (Some low) e more = absurd more.1
  foot_from end t (u ∷ us) way met upto under = by (effective_prev rows t) refl way.2 (λ low lower m up un. foot_from (Some low) u us lower m up un)
    where
      by : (x : Option Bytes) → effective_prev rows t ≡ x → GoesOn x end (u ∷ us ≡ []) (λ low. IsChainFrom rows (Some low) (u ∷ us))
          → ((low : Bytes) → IsChainFrom rows (Some low) (u ∷ us) → meets_range rows from to u ≡ true → ((lower : Bytes) → effective_prev rows u ≡ Some lower → IsBelowEnd lower to) → IsUnder from (Some low) → Foot u us) → Foot t (u ∷ us)
      by None e last h = cc
      by (Some low) e more h = choose from low (Foot t (u ∷ us)) refl
          (λ above. goes-on t u us met (subst (EndsBetween from to) (sym more.1.1) (above, upto low e))
          (h low more.1 (met-below low u us more.1 above (up-from_below to low (upto low e)))
          (λ lower at. below_end lower low to (more-below (effective_prev rows u) low lower us at more.1.2) (upto low e)) (under-above from low above)))
          (λ g is most. stops-here t (u ∷ us) met (none-below low (u ∷ us) more.1 g is most) (reaches-low from g low t end is e most way.1 under))
