-- Each row lies in one extent of a chain.
use Rattle.std.proofs.Common.{◌≡◌, inl, inr, List, [], ◌∷◌, true, false, not, Option, Some, None, reverse, Contains, refl, sym, ◌∙◌, ap, subst}
use Rattle.std.proofs.lemmas.Bool.{cases_Bool, and_parts, and_from, false≢true}
use Rattle.row_keys.specs.RowOrder.{is_below, is_above, is_up_to}
use Rattle.metadata_schema.specs.declared.tablet.TabletRecord.{TabletRecord}
use Rattle.level_rows.specs.Chain.{Rows, effective_prev, GoesOn, IsChainFrom, IsChain, IsChainOf, rows_of}
use Rattle.level_rows.specs.Extents.{holds_row, HasOneFor}
use Rattle.level_rows.proofs.Membership.{Contains-here, Contains-there, Contains-cons_cases, Contains-reverse, Contains-in_reverse}
use Rattle.level_rows.proofs.WayLemmas.{Bytes, up_to_end, none_in}

-- the rows that a record of the way holds are not above the way
pub inside_up_to : (rows : Rows) (end : Option Bytes) (ts : List TabletRecord) (u : TabletRecord) (row : Bytes) → IsChainFrom rows end ts → Contains ts u → is_up_to u.end row ≡ true → is_up_to end row ≡ true
inside_up_to rows end [] u row p there upto = absurd p
inside_up_to rows end (t ∷ ts) u row p there upto = elim (Contains-cons_cases t u ts there) [
  | inl is ↦ subst (λ e. is_up_to e row ≡ true) p.1 (subst (λ (x : TabletRecord). is_up_to x.end row ≡ true) (sym is) upto)
  | inr rest ↦ by (effective_prev rows t) p.2 rest (λ low way. inside_up_to rows (Some low) ts u row way rest upto)
]
  where
    by : (x : Option Bytes) → GoesOn x end (ts ≡ []) (λ low. IsChainFrom rows (Some low) ts) → Contains ts u
        → ((low : Bytes) → IsChainFrom rows (Some low) ts → is_up_to (Some low) row ≡ true) → is_up_to end row ≡ true
    by None last rest h = absurd (none_in ts u last rest)
    by (Some low) a rest h = up_to_end low end row a.0 (h low a.1)

-- each row up to the end row lies in one extent of the way
pub partition_from : (rows : Rows) (end : Option Bytes) (ts : List TabletRecord) (row : Bytes) → IsChainFrom rows end ts → is_up_to end row ≡ true → HasOneFor rows ts row
partition_from rows end [] row p upto = absurd p
partition_from rows end (t ∷ ts) row p upto = by (effective_prev rows t) refl p.2 (λ low way in_low. partition_from rows (Some low) ts row way in_low)
  where
    upto_t : is_up_to t.end row ≡ true
    upto_t = subst (λ e. is_up_to e row ≡ true) (sym p.1) upto

    in_head : (x : Option Bytes) → effective_prev rows t ≡ x → is_above x row ≡ true → ((u : TabletRecord) → Contains ts u → holds_row rows u row ≡ true → ⊥) → HasOneFor rows (t ∷ ts) row
    in_head x e above none = record {
      holder = t;
      there = Contains-here t ts;
      holds = and_from _ _ (ap (λ y. is_above y row) e ∙ above) upto_t;
      only = λ u there holds. elim (Contains-cons_cases t u ts there) [ inl is ↦ sym is | inr rest ↦ absurd (none u rest holds) ];
    }

    in_tail : (low : Bytes) → effective_prev rows t ≡ Some low → is_below low row ≡ false → HasOneFor rows ts row → HasOneFor rows (t ∷ ts) row
    in_tail low e not_above h = record {
      holder = h.holder;
      there = Contains-there t h.holder ts h.there;
      holds = h.holds;
      only = λ u there holds. elim (Contains-cons_cases t u ts there) [
        | inl is ↦ absurd (
            let parts = and_parts (is_above (effective_prev rows u) row) (is_up_to u.end row) holds in
            let here = ap (λ (x : TabletRecord). is_above (effective_prev rows x) row) is in
            let also = ap (λ y. is_above y row) e in
            false≢true (sym not_above ∙ sym also ∙ here ∙ parts.0))
        | inr rest ↦ h.only u rest holds
      ];
    }

    by : (x : Option Bytes) → effective_prev rows t ≡ x → GoesOn x end (ts ≡ []) (λ low. IsChainFrom rows (Some low) ts)
        → ((low : Bytes) → IsChainFrom rows (Some low) ts → is_up_to (Some low) row ≡ true → HasOneFor rows ts row) → HasOneFor rows (t ∷ ts) row
    by None e last rest = in_head None e refl (λ u there holds. none_in ts u last there)
    by (Some low) e way rest = elim (cases_Bool (is_below low row)) [
      | inl above ↦ in_head (Some low) e above (λ u there holds.
          let parts = and_parts (is_above (effective_prev rows u) row) (is_up_to u.end row) holds in
          let in_low = inside_up_to rows (Some low) ts u row way.1 there parts.1 in
          false≢true (sym (ap not above) ∙ in_low))
      | inr not_above ↦ in_tail low e not_above (rest low way.1 (ap not not_above))
    ]

pub partition_at : (rows : Rows) (ts : List TabletRecord) (row : Bytes) → IsChain rows ts → HasOneFor rows ts row
partition_at rows ts row p = partition_from rows None ts row p refl

-- and so in rising order
pub partition_of : (table : Bytes) (records ts : List TabletRecord) (row : Bytes) → IsChainOf table records ts → HasOneFor (rows_of table records) ts row
partition_of table records ts row p =
    let one = partition_at (rows_of table records) (reverse ts) row p in
    record {
      holder = one.holder;
      there = Contains-reverse ts one.holder one.there;
      holds = one.holds;
      only = λ u there holds. one.only u (Contains-in_reverse ts u there) holds;
    }
