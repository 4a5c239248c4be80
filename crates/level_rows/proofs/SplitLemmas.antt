-- A chain in the three steps of a split, and in a merge.
use Rattle.std.proofs.Common.{◌≡◌, ◌≢◌, ◌⊎◌, inl, inr, List, [], ◌∷◌, ◌++◌, true, false, cond, Option, Some, None, Contains, refl, sym, ◌∙◌, ap, subst, append_assoc}
use Rattle.std.specs.Prelude.{is_some}
use Rattle.std.proofs.lemmas.List.Elements.{Contains-append_left, Contains-append_right, Contains-append_cases}
use Rattle.row_keys.specs.RowOrder.{is_above}
use Rattle.metadata_schema.specs.declared.tablet.TabletRecord.{TabletRecord}
use Rattle.level_rows.specs.Chain.{Rows, ends_at, chosen_prev, effective_prev, IsBelowEnd, IsChain}
use Rattle.level_rows.specs.Changes.{StandAsBefore, with_row}
use Rattle.level_rows.specs.LeftOver.{IsLeftOver}
use Rattle.level_rows.specs.Splits.{MaySplit, IsBegun, IsLowerHalf, IsUpperHalf, HasExtentOf}
use Rattle.level_rows.proofs.Membership.{Contains-here, Contains-there, Contains-cons_cases}
use Rattle.level_rows.proofs.WayLemmas.{Bytes, apart_ends, row_of, not_twice}
use Rattle.level_rows.proofs.RewireLemmas.{IsLowerEnd, rewired_at, inserted_at, with_row-at, with_row-apart, effective_prev-with_row, stand-with_row, whole-reach}

-- a record of a chain that is written with the same extent
pub replaced : (rows : Rows) (above below : List TabletRecord) (u t : TabletRecord) → IsChain rows (above ++ u ∷ below) → t.end ≡ u.end → effective_prev rows t ≡ effective_prev rows u
    → IsChain (with_row rows t) (above ++ t ∷ below)
replaced rows above below u t p at reach =
    rewired_at rows (with_row rows t) None above [] below u t p (with_row-at rows t)
    (effective_prev-with_row rows t u t there ∙ reach) (λ v vs is. (let same : u ≡ v = cc in ap (λ (x : TabletRecord). x.end) (sym same) ∙ sym at))
    (stand-with_row rows t u above there (λ v is same. apart_ends rows None above u below v p (inl is) (same ∙ at)))
    (stand-with_row rows t u below there (λ v is same. apart_ends rows None above u below v p (inr is) (same ∙ at)))
  where
    there : rows t.end ≡ Some u
    there = ap rows at ∙ row_of rows None (above ++ u ∷ below) u p (Contains-append_right above (u ∷ below) u (Contains-here u below))

-- the record of the highest tablet takes in all down to a lower one
pub merged_at : (rows : Rows) (above mid below : List TabletRecord) (l t : TabletRecord) → IsChain rows (above ++ (mid ++ l ∷ below)) → IsLowerEnd (mid ++ l ∷ []) t
    → t.old_prev ≡ None → t.prev ≡ effective_prev rows l → IsChain (with_row rows t) (above ++ t ∷ below)
merged_at rows above [] below l t p at whole reach = replaced rows above below l t p (sym (at l [] refl)) (whole-reach rows t whole ∙ reach)
merged_at rows above (m ∷ mid) below l t p at whole reach =
    rewired_at rows (with_row rows t) None above (m ∷ mid) below l t p (with_row-at rows t)
    (whole-reach (with_row rows t) t whole ∙ reach) at
    (stand-with_row rows t m above there (λ v is same. apart_ends rows None above m (mid ++ l ∷ below) v p (inl is) (same ∙ sym here)))
    (stand-with_row rows t m below there (λ v is same. apart_ends rows None above m (mid ++ l ∷ below) v p (inr (Contains-append_right mid (l ∷ below) v (Contains-there l v below is))) (same ∙ sym here)))
  where
    here : m.end ≡ t.end
    here = at m (mid ++ l ∷ []) refl

    there : rows t.end ≡ Some m
    there = ap rows (sym here) ∙ row_of rows None (above ++ m ∷ (mid ++ l ∷ below)) m p (Contains-append_right above (m ∷ (mid ++ l ∷ below)) m (Contains-here m (mid ++ l ∷ below)))

module _ (rows : Rows) (above below : List TabletRecord) (t : TabletRecord) (at : Bytes) (may : MaySplit rows above below t at) (p : IsChain rows (above ++ t ∷ below))
    (high : TabletRecord) (begun : IsBegun t high at) where
  abbrev first_rows : Rows
  first_rows = with_row rows high

  no_end : ends_at rows (Some at) ≡ false
  no_end = ap is_some may.free

  old_reach : effective_prev rows t ≡ t.prev
  old_reach = whole-reach rows t may.whole

  -- between the old previous row and the row of the split
  halves : (r : Rows) → effective_prev r high ≡ cond (ends_at r (Some at)) (Some at) t.prev
  halves r = ap (λ o. chosen_prev o (ends_at r high.prev) high.prev) begun.old_prev ∙ ap (λ (q : Option Bytes). cond (ends_at r q) q t.prev) begun.prev

  high_reach : effective_prev rows high ≡ t.prev
  high_reach = halves rows ∙ ap (λ b. cond b (Some at) t.prev) no_end

  pub moment_one : IsChain first_rows (above ++ high ∷ below)
  moment_one = replaced rows above below t high p begun.end (high_reach ∙ sym old_reach)

  begun_there : rows high.end ≡ Some t
  begun_there = ap rows begun.end ∙ row_of rows None (above ++ t ∷ below) t p (Contains-append_right above (t ∷ below) t (Contains-here t below))

  apart_at : Some at ≢ high.end
  apart_at same = let wrong = sym may.free ∙ ap rows same ∙ begun_there in cc

  module _ (low : TabletRecord) (half : IsLowerHalf t low at) where
    abbrev second_rows : Rows
    second_rows = with_row first_rows low

    low_apart : (end : Option Bytes) → end ≢ Some at → end ≢ low.end
    low_apart end other same = other (same ∙ half.end)

    ends_second : (q : Option Bytes) → q ≢ Some at → ends_at second_rows q ≡ ends_at first_rows q
    ends_second None other = refl
    ends_second (Some q) other = ap is_some (with_row-apart first_rows low (Some q) (low_apart (Some q) other))

    other_reach : (u : TabletRecord) → (u.old_prev ≡ None) ⊎ (u.prev ≢ Some at) → effective_prev second_rows u ≡ effective_prev first_rows u
    other_reach u split = elim split [
      | inl whole ↦ whole-reach second_rows u whole ∙ sym (whole-reach first_rows u whole)
      | inr other ↦ ap (λ b. chosen_prev u.old_prev b u.prev) (ends_second u.prev other)
    ]

    not_at : (u : TabletRecord) → Contains above u ⊎ Contains below u → u.end ≢ Some at
    not_at u is same =
        let there : rows u.end ≡ Some u = row_of rows None (above ++ t ∷ below) u p (elim is [
          | inl a ↦ Contains-append_left above (t ∷ below) u a
          | inr b ↦ Contains-append_right above (t ∷ below) u (Contains-there t u below b)
        ]) in
        let wrong = sym may.free ∙ ap rows (sym same) ∙ there in cc

    low_there : second_rows (Some at) ≡ Some low
    low_there = ap second_rows (sym half.end) ∙ with_row-at first_rows low

    high_now : effective_prev second_rows high ≡ Some at
    high_now = halves second_rows ∙ ap (λ b. cond b (Some at) t.prev) (ap is_some low_there)

    high_before : effective_prev first_rows high ≡ t.prev
    high_before = effective_prev-with_row rows high t high begun_there ∙ high_reach

    stands : (us : List TabletRecord) → ((u : TabletRecord) → Contains us u → Contains above u ⊎ Contains below u) → StandAsBefore first_rows second_rows us
    stands us among = record {
      row = λ u is. with_row-apart first_rows low u.end (low_apart u.end (not_at u (among u is)));
      prev = λ u is. other_reach u (may.others u (among u is));
    }

    pub moment_two : IsChain second_rows (above ++ high ∷ low ∷ below)
    moment_two = inserted_at first_rows second_rows None above below high low at moment_one
        (with_row-apart first_rows low high.end (low_apart high.end (λ same. apart_at (sym same))) ∙ with_row-at rows high)
        high_now (subst (IsBelowEnd at) (sym begun.end) may.inside.1) half.end low_there
        (whole-reach second_rows low half.old_prev ∙ half.prev ∙ sym high_before)
        (subst (λ (x : Option Bytes). is_above x at ≡ true) (sym high_before) may.inside.0)
        (stands above (λ u is. inl is)) (stands below (λ u is. inr is))

    pub moment_three : (whole : TabletRecord) → IsUpperHalf t whole at → IsChain (with_row second_rows whole) (above ++ whole ∷ low ∷ below)
    moment_three whole up = replaced second_rows above (low ∷ below) high whole moment_two (up.end ∙ sym begun.end)
        (whole-reach second_rows whole up.old_prev ∙ up.prev ∙ sym high_now)

  -- the first step is taken back
  pub taken_back : (back : TabletRecord) → HasExtentOf t back → IsChain (with_row first_rows back) (above ++ back ∷ below)
  taken_back back same = replaced first_rows above below high back moment_one (same.end ∙ sym begun.end)
      (whole-reach first_rows back same.old_prev ∙ same.prev ∙ sym (effective_prev-with_row rows high t high begun_there ∙ high_reach))

-- the records between are left over
pub left_between : (rows : Rows) (above mid below : List TabletRecord) (m t : TabletRecord) → IsChain rows (above ++ (m ∷ (mid ++ below))) → t.end ≡ m.end
    → (u : TabletRecord) → Contains mid u → IsLeftOver (with_row rows t) (above ++ t ∷ below) u
left_between rows above mid below m t p at u in_mid = record {
  there = with_row-apart rows t u.end (λ same. not_m (same ∙ at)) ∙ row_of rows None (above ++ (m ∷ (mid ++ below))) u p (Contains-append_right above (m ∷ (mid ++ below)) u in_tail);
  apart = λ among. elim (Contains-append_cases above (t ∷ below) u among) [
    | inl up ↦ not_twice rows None above (m ∷ (mid ++ below)) u p up in_tail
    | inr rest ↦ elim (Contains-cons_cases t u below rest) [
      | inl is ↦ not_m (ap (λ (x : TabletRecord). x.end) (sym is) ∙ at)
      | inr down ↦ not_twice rows None (above ++ (m ∷ mid)) below u (subst (IsChain rows) (sym (append_assoc above (m ∷ mid) below)) p)
          (Contains-append_right above (m ∷ mid) u (Contains-there m u mid in_mid)) down
    ]
  ];
}
  where
    in_tail : Contains (m ∷ (mid ++ below)) u
    in_tail = Contains-there m u (mid ++ below) (Contains-append_left mid below u in_mid)

    not_m : u.end ≢ m.end
    not_m = apart_ends rows None above m (mid ++ below) u p (inr (Contains-append_left mid below u in_mid))
