-- Records in the order of their end rows make up one list, and records in row order are distinct.
use Rattle.std.proofs.Common.{◌≡◌, ◌≢◌, inl, inr, zero, suc, List, [], ◌∷◌, Option, Some, None, Contains, map, refl, sym, ◌∙◌, ap, subst, arith}
use Rattle.std.specs.List.{AllByRecursion}
use Rattle.std.specs.List.Sorted.{IsStrictlySortedBy}
use Rattle.std.specs.Ordering.{is_lt}
use Rattle.std.specs.declared.cmp.Ordering.TheVariants.{Less}
use Rattle.std.proofs.lemmas.Bool.{false≢true}
use Rattle.std.proofs.lemmas.Option.{same_Some}
use Rattle.std.proofs.lemmas.List.Elements.{Contains-get_or}
use Rattle.row_keys.specs.RowOrder.{bytes_cmp}
use Rattle.row_keys.specs.MetadataRow.{end_cmp, metadata_row}
use Rattle.row_keys.proofs.RowOrderLemmas.{is_below-itself, is_below-trans}
use Rattle.metadata_schema.specs.declared.tablet.TabletRecord.{TabletRecord}
use Rattle.level_rows.specs.LeftOver.{AreDistinct, AreLeftOver}
use Rattle.level_rows.proofs.Membership.{Contains-nil, Contains-here, Contains-there, Contains-cons_cases}
use Rattle.level_rows.proofs.WayLemmas.{Bytes}

abbrev end_of : TabletRecord → Option Bytes
end_of t = t.end

abbrev Rising : List TabletRecord → Type 0
Rising ts = IsStrictlySortedBy end_cmp (map end_of ts)

less-apart : (a b : Option Bytes) → end_cmp a b ≡ Less → a ≢ b
less-apart None None e same = cc
less-apart None (Some b) e same = cc
less-apart (Some a) None e same = cc
less-apart (Some a) (Some b) e same = false≢true (sym (is_below-itself a) ∙ ap (λ (x : Bytes). is_lt (bytes_cmp a x)) (same_Some _ _ same) ∙ ap is_lt e)

less-not_back : (a b : Option Bytes) → end_cmp a b ≡ Less → end_cmp b a ≡ Less → ⊥
less-not_back None None e f = cc
less-not_back None (Some b) e f = cc
less-not_back (Some a) None e f = cc
less-not_back (Some a) (Some b) e f = false≢true (sym (is_below-itself a) ∙ is_below-trans a b a (ap is_lt e) (ap is_lt f))

all_of : {K : Type 0} (f : TabletRecord → K) (P : K → Type 0) (ts : List TabletRecord) (t : TabletRecord) → AllByRecursion P (map f ts) → Contains ts t → P (f t)
all_of f P [] t all c = absurd (Contains-nil t c)
all_of f P (u ∷ us) t all c = elim (Contains-cons_cases u t us c) [
  | inl is ↦ subst (λ (z : TabletRecord). P (f z)) is all.0
  | inr rest ↦ all_of f P us t all.1 rest
]

above_head : (u t : TabletRecord) (us : List TabletRecord) → Rising (u ∷ us) → Contains us t → end_cmp u.end t.end ≡ Less
unfolding IsStrictlySortedBy
above_head u t us rise c = all_of end_of (λ k. end_cmp u.end k ≡ Less) us t rise.0 c

rising_tail : (u : TabletRecord) (us : List TabletRecord) → Rising (u ∷ us) → Rising us
unfolding IsStrictlySortedBy
rising_tail u us rise = rise.1

-- two such lists of the same records are one
same_elements : (ts us : List TabletRecord) → Rising ts → Rising us → ((v : TabletRecord) → Contains ts v → Contains us v) → ((v : TabletRecord) → Contains us v → Contains ts v) → ts ≡ us
same_elements [] [] rise_t rise_u to back = refl
same_elements [] (u ∷ us) rise_t rise_u to back = absurd (Contains-nil u (back u (Contains-here u us)))
same_elements (t ∷ ts) [] rise_t rise_u to back = absurd (Contains-nil t (to t (Contains-here t ts)))
same_elements (t ∷ ts) (u ∷ us) rise_t rise_u to back = λ i. heads i ∷ tails (same_elements ts us) i
  where
    heads : t ≡ u
    heads = elim (Contains-cons_cases u t us (to t (Contains-here t ts))) [
      | inl is ↦ sym is
      | inr t_in ↦ elim (Contains-cons_cases t u ts (back u (Contains-here u us))) [
        | inl is ↦ is
        | inr u_in ↦ absurd (less-not_back u.end t.end (above_head u t us rise_u t_in) (above_head t u ts rise_t u_in))
      ]
    ]

    to_tail : (v : TabletRecord) → Contains ts v → Contains us v
    to_tail v c = elim (Contains-cons_cases u v us (to v (Contains-there t v ts c))) [
      | inl is ↦ absurd (less-apart t.end v.end (above_head t v ts rise_t c) (ap end_of (heads ∙ is)))
      | inr rest ↦ rest
    ]

    back_tail : (v : TabletRecord) → Contains us v → Contains ts v
    back_tail v c = elim (Contains-cons_cases t v ts (back v (Contains-there u v us c))) [
      | inl is ↦ absurd (less-apart u.end v.end (above_head u v us rise_u c) (ap end_of (sym heads ∙ is)))
      | inr rest ↦ rest
    ]

    tails : (Rising ts → Rising us → ((v : TabletRecord) → Contains ts v → Contains us v) → ((v : TabletRecord) → Contains us v → Contains ts v) → ts ≡ us) → ts ≡ us
    tails h = h (rising_tail t ts rise_t) (rising_tail u us rise_u) to_tail back_tail

pub one_left_over : (table : Bytes) (records chain left other : List TabletRecord) → AreLeftOver table records chain left → AreLeftOver table records chain other → left ≡ other
one_left_over table records chain left other a b = same_elements left other a.rising b.rising (λ v c. (b.each v).1 ((a.each v).0 c)) (λ v c. (a.each v).1 ((b.each v).0 c))

-- records with one more in front are distinct
distinct-cons : (t : TabletRecord) (ts : List TabletRecord) → ((u : TabletRecord) → Contains ts u → t.table ≡ u.table → t.end ≡ u.end → ⊥) → AreDistinct ts → AreDistinct (t ∷ ts)
distinct-cons t ts apart distinct zero zero d lt below = absurd (omega arith)
distinct-cons t ts apart distinct zero (suc j) d lt below = apart _ (Contains-get_or ts j d (omega arith))
distinct-cons t ts apart distinct (suc i) zero d lt below = absurd (omega arith)
distinct-cons t ts apart distinct (suc i) (suc j) d lt below = distinct i j d (omega arith) (omega arith)

pub rows_rise : (records : List TabletRecord) → IsStrictlySortedBy bytes_cmp (map (λ tablet. metadata_row tablet.table tablet.end) records) → AreDistinct records
unfolding IsStrictlySortedBy
rows_rise [] rise = λ i j d lt below. absurd (omega arith)
rows_rise (t ∷ ts) rise = distinct-cons t ts
    (λ u there at end.
    let less : bytes_cmp (metadata_row t.table t.end) (metadata_row u.table u.end) ≡ Less = all_of (λ (x : TabletRecord). metadata_row x.table x.end) (λ k. bytes_cmp (metadata_row t.table t.end) k ≡ Less) ts u rise.0 there in
    let rows : metadata_row t.table t.end ≡ metadata_row u.table u.end = ap (λ (x : Bytes). metadata_row x t.end) at ∙ ap (metadata_row u.table) end in
    false≢true (sym (is_below-itself (metadata_row t.table t.end)) ∙ ap (λ (x : Bytes). is_lt (bytes_cmp (metadata_row t.table t.end) x)) rows ∙ ap is_lt less))
    (rows_rise ts rise.1)
