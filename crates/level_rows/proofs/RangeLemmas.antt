-- The records of a chain that meet a range.
use Rattle.std.proofs.Common.{◌≡◌, inl, inr, List, [], ◌∷◌, ◌++◌, true, false, not, Option, Some, None, Contains, refl, sym, ◌∙◌, ap, subst}
use Rattle.std.proofs.lemmas.Bool.{cases_Bool, and_parts, and_from, false≢true}
use Rattle.std.proofs.lemmas.List.Elements.{Contains-append_cases}
use Rattle.row_keys.specs.RowOrder.{is_below, is_above, is_up_to, is_interval, higher_low, lower_high}
use Rattle.row_keys.proofs.RowOrderLemmas.{is_below-itself, is_below-to_most}
use Rattle.metadata_schema.specs.declared.tablet.TabletRecord.{TabletRecord}
use Rattle.level_rows.specs.Chain.{Rows, effective_prev, IsBelowEnd, GoesOn, IsChainFrom, IsChain}
use Rattle.level_rows.specs.Extents.{holds_row, meets_range, ReachesUpTo, EndsBetween, IsPieceFor}
use Rattle.level_rows.proofs.Membership.{Contains-nil, Contains-cons_cases}
use Rattle.level_rows.proofs.WayLemmas.{Bytes, none_in}
use Rattle.level_rows.proofs.FootLemmas.{IsUnder, Foot, not_false, up-from_below, under-end, meets-by, meets-not, foot_from}

-- a range has rows
above-upper : (from : Option Bytes) (to : Bytes) → is_interval from (Some to) ≡ true → is_above from to ≡ true
above-upper None to is = refl
above-upper (Some from) to is = is

is_interval-none : (low : Option Bytes) → is_interval low None ≡ true
is_interval-none None = refl
is_interval-none (Some low) = refl

-- the piece of a way that meets a range, without what follows of its end rows
record Parts (rows : Rows) (from to : Option Bytes) (ts : List TabletRecord) : Type 0 where
  pub above : List TabletRecord
  pub highest : TabletRecord
  pub behind : List TabletRecord
  pub foot : Foot rows from to highest behind
  pub whole : ts ≡ above ++ highest ∷ behind
  pub outside : (u : TabletRecord) → Contains above u → meets_range rows from to u ≡ false
  pub up : ReachesUpTo rows to highest

piece-here : (rows : Rows) (from to : Option Bytes) (t : TabletRecord) (ts : List TabletRecord) → Foot rows from to t ts → ReachesUpTo rows to t → Parts rows from to (t ∷ ts)
piece-here rows from to t ts foot up = record { above = []; highest = t; behind = ts; foot = foot; whole = refl; outside = λ u there. absurd (Contains-nil u there); up = up }

piece-lower : (rows : Rows) (from to : Option Bytes) (t : TabletRecord) (ts : List TabletRecord) → meets_range rows from to t ≡ false → Parts rows from to ts → Parts rows from to (t ∷ ts)
piece-lower rows from to t ts off p = record {
  above = t ∷ p.above;
  highest = p.highest;
  behind = p.behind;
  foot = p.foot;
  whole = ap (λ l. t ∷ l) p.whole;
  outside = λ u there. elim (Contains-cons_cases t u p.above there) [
    | inl is ↦ subst (λ (x : TabletRecord). meets_range rows from to x ≡ false) is off
    | inr rest ↦ p.outside u rest
  ];
  up = p.up;
}

-- the piece that meets a range up to a row
piece-to : (rows : Rows) (from : Option Bytes) (to : Bytes) → is_interval from (Some to) ≡ true → (end : Option Bytes) (ts : List TabletRecord) → IsChainFrom rows end ts → is_up_to end to ≡ true → Parts rows from (Some to) ts
piece-to rows from to interval end [] way upto = absurd way
piece-to rows from to interval end (t ∷ ts) way upto = by (effective_prev rows t) refl way.2 (λ low more up. piece-to rows from to interval (Some low) ts more up)
  where
    upto_t : is_up_to t.end to ≡ true
    upto_t = ap (λ (x : Option Bytes). is_up_to x to) way.1 ∙ upto

    here : (x : Option Bytes) → effective_prev rows t ≡ x → is_above x to ≡ true → Parts rows from (Some to) (t ∷ ts)
    here x e above =
        let holds : holds_row rows t to ≡ true = and_from (is_above (effective_prev rows t) to) (is_up_to t.end to) (ap (λ (y : Option Bytes). is_above y to) e ∙ above) upto_t in
        piece-here rows from (Some to) t ts
        (foot_from rows from (Some to) end t ts way
        (meets-by rows from (Some to) t to holds (and_from (is_above from to) (is_up_to (Some to) to) (above-upper from to interval) (ap not (is_below-itself to))))
        (λ low at. ap (λ (y : Option Bytes). is_above y to) (sym at ∙ e) ∙ above)
        (under-end from to end (above-upper from to interval) upto))
        holds

    by : (x : Option Bytes) → effective_prev rows t ≡ x → GoesOn x end (ts ≡ []) (λ low. IsChainFrom rows (Some low) ts)
        → ((low : Bytes) → IsChainFrom rows (Some low) ts → is_up_to (Some low) to ≡ true → Parts rows from (Some to) ts) → Parts rows from (Some to) (t ∷ ts)
    by None e last h = here None e refl
    by (Some low) e more h = elim (cases_Bool (is_below low to)) [
      | inl above ↦ here (Some low) e above
      | inr not_above ↦ piece-lower rows from (Some to) t ts
          (meets-not rows from (Some to) t (λ row over upto from_row to_row.
          let low_row : is_below low row ≡ true = ap (λ (x : Option Bytes). is_above x row) (sym e) ∙ over in
          false≢true (sym not_above ∙ is_below-to_most low row to low_row (not_false (is_below to row) to_row))))
          (h low more.1 (ap not not_above))
    ]

parts_of : (rows : Rows) (from to : Option Bytes) (ts : List TabletRecord) → is_interval from to ≡ true → IsChain rows ts → Parts rows from to ts
parts_of rows from (Some to) ts interval way = piece-to rows from to interval None ts way refl
parts_of rows from None [] interval way = absurd way
parts_of rows from None (t ∷ ts) interval way =
    piece-here rows from None t ts
    (foot_from rows from None None t ts way
    (ap (λ (x : Option Bytes). is_interval (higher_low (effective_prev rows t) from) (lower_high x None)) way.1 ∙ is_interval-none (higher_low (effective_prev rows t) from))
    (λ low at. tt) (under-last from))
    way.1
  where
    under-last : (f : Option Bytes) → IsUnder f None
    under-last None = tt
    under-last (Some f) = tt

-- a record of a way holds its own end row
own-end : (rows : Rows) (end : Option Bytes) (ts : List TabletRecord) (t : TabletRecord) (row : Bytes) → IsChainFrom rows end ts → Contains ts t → t.end ≡ Some row → is_above (effective_prev rows t) row ≡ true
own-end rows end [] t row p there is = absurd p
own-end rows end (u ∷ us) t row p there is = elim (Contains-cons_cases u t us there) [
  | inl same ↦ subst (λ (x : TabletRecord). is_above (effective_prev rows x) row ≡ true) same (here (effective_prev rows u) (sym p.1 ∙ ap (λ (x : TabletRecord). x.end) same ∙ is) p.2)
  | inr rest ↦ past (effective_prev rows u) p.2 rest (λ low way. own-end rows (Some low) us t row way rest is)
]
  where
    here : (x : Option Bytes) → end ≡ Some row → GoesOn x end (us ≡ []) (λ low. IsChainFrom rows (Some low) us) → is_above x row ≡ true
    here None at last = refl
    here (Some low) at more = subst (IsBelowEnd low) at more.0

    past : (x : Option Bytes) → GoesOn x end (us ≡ []) (λ low. IsChainFrom rows (Some low) us) → Contains us t → ((low : Bytes) → IsChainFrom rows (Some low) us → is_above (effective_prev rows t) row ≡ true) → is_above (effective_prev rows t) row ≡ true
    past None last rest h = absurd (none_in us t last rest)
    past (Some low) more rest h = h low more.1

-- the tablet that reaches up to a range doesn't end below its upper bound
up-apart : (rows : Rows) (to : Option Bytes) (t : TabletRecord) (row : Bytes) → ReachesUpTo rows to t → t.end ≡ Some row → IsBelowEnd row to → ⊥
up-apart rows None t row up is below = let wrong = sym up ∙ is in cc
up-apart rows (Some to) t row up is below =
    let parts = and_parts (is_above (effective_prev rows t) to) (is_up_to t.end to) up in
    false≢true (ap not (sym below) ∙ ap (λ (x : Option Bytes). is_up_to x to) (sym is) ∙ parts.1)

module _ (rows : Rows) (from to : Option Bytes) (ts : List TabletRecord) (way : IsChain rows ts) (p : Parts rows from to ts) where
  all : ts ≡ p.above ++ (p.foot.inside ++ p.foot.below)
  all = p.whole ∙ ap (λ l. p.above ++ l) p.foot.is.whole

  -- what meets the range is in the piece
  in_piece : (t : TabletRecord) → Contains ts t → meets_range rows from to t ≡ true → Contains p.foot.inside t
  in_piece t there met = elim (Contains-append_cases p.above (p.foot.inside ++ p.foot.below) t (subst (λ l. Contains l t) all there)) [
    | inl up ↦ absurd (false≢true (sym (p.outside t up) ∙ met))
    | inr rest ↦ elim (Contains-append_cases p.foot.inside p.foot.below t rest) [
      | inl is ↦ is
      | inr down ↦ absurd (false≢true (sym (p.foot.is.outside t down) ∙ met))
    ]
  ]

  ends-in : (t : TabletRecord) → Contains ts t → (end : Option Bytes) → t.end ≡ end → EndsBetween from to end → Contains p.foot.is.rest t
  ends-in t there None is between = absurd between
  ends-in t there (Some row) is between =
      let holds : holds_row rows t row ≡ true = and_from (is_above (effective_prev rows t) row) (is_up_to t.end row) (own-end rows None ts t row way there is) (ap (λ (x : Option Bytes). is_up_to x row) is ∙ ap not (is_below-itself row)) in
      let met = meets-by rows from to t row holds (and_from (is_above from row) (is_up_to to row) between.0 (up-from_below to row between.1)) in
      elim (Contains-cons_cases p.highest t p.foot.is.rest (subst (λ l. Contains l t) p.foot.is.begins (in_piece t there met))) [
        | inl same ↦ absurd (up-apart rows to p.highest row p.up (ap (λ (x : TabletRecord). x.end) same ∙ is) between.1)
        | inr rest ↦ rest
      ]

  piece_from : IsPieceFor rows from to ts p.above p.foot.inside p.foot.below
  piece_from = record {
    whole = all;
    outside_above = p.outside;
    met = p.foot.is.met;
    outside_below = p.foot.is.outside;
    highest = p.highest;
    lower = p.foot.is.rest;
    begins = p.foot.is.begins;
    up = p.up;
    between = λ t there. (λ in_lower. p.foot.is.between t in_lower, λ between. ends-in t there t.end refl between);
    front = p.foot.is.front;
    lowest = p.foot.is.lowest;
    finishes = p.foot.is.finishes;
    down = p.foot.is.down;
  }

pub piece_of : (rows : Rows) (from to : Option Bytes) (ts : List TabletRecord) → is_interval from to ≡ true → IsChain rows ts
    → (above : List TabletRecord) × (inside : List TabletRecord) × (below : List TabletRecord) × IsPieceFor rows from to ts above inside below
piece_of rows from to ts interval way =
    let p = parts_of rows from to ts interval way in
    (p.above, p.foot.inside, p.foot.below, piece_from rows from to ts way p)
