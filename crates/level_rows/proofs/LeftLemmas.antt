-- The records that are left over, in order.
use Rattle.std.proofs.Common.{◌≡◌, ◌↔◌, inl, inr, List, [], ◌∷◌, Bool, true, false, cond, not, Bor, Option, Some, None, Contains, map, refl, sym, ◌∙◌, ap, subst}
use Rattle.std.specs.Prelude.{is_some}
use Rattle.std.specs.List.{AllByRecursion, filter}
use Rattle.std.specs.List.Sorted.{IsStrictlySortedBy}
use Rattle.std.specs.Map.{lookup, keys_of, values_of}
use Rattle.std.specs.Map.Iter.{deref}
use Rattle.std.specs.Option.{option_copied, option_cmp}
use Rattle.std.specs.declared.cmp.Ordering.TheVariants.{Less, Equal}
use Rattle.std.proofs.lemmas.Bool.{false≢true}
use Rattle.std.proofs.lemmas.Option.{same_Some}
use Rattle.std.proofs.lemmas.Cmp.{tied_itself}
use Rattle.row_keys.specs.RowOrder.{bytes_cmp}
use Rattle.row_keys.specs.MetadataRow.{end_cmp}
use Rattle.metadata_schema.specs.declared.tablet.TabletRecord.{TabletRecord}
use Rattle.level_rows.specs.Chain.{Rows, rows_of, is_named, IsChain}
use Rattle.level_rows.specs.LeftOver.{AreDistinct, AreLeftOver}
use Rattle.level_rows.specs.Index.{Ends, IsIndexOf, found_at, is_apart, records_in}
use Rattle.level_rows.proofs.Membership.{Contains-nil, Contains-here, Contains-there, Contains-cons_cases, Contains-filter, Contains-in_filter}
use Rattle.level_rows.proofs.EndLemmas.{named-from}
use Rattle.level_rows.proofs.WayLemmas.{Bytes, row_of, one_chain_from}
use Rattle.level_rows.proofs.LookupLemmas.{find-some, row-there, row-exactly}
use Rattle.level_rows.proofs.WalkLemmas.{Entries, at_end}
use Rattle.level_rows.proofs.IndexLemmas.{in_order, AllOwn, ends_total, tied, tied-true, tied-refl}

-- the records of the entries, in their order
abbrev records_at : Entries → List TabletRecord
records_at es = map deref (values_of es)

abbrev end_of : TabletRecord → Option Bytes
end_of t = t.end

-- end rows strictly rise, in the map's order
abbrev Rise : List TabletRecord → Type 0
Rise ts = IsStrictlySortedBy (option_cmp bytes_cmp) (map end_of ts)

above : (k : Option Bytes) (es : Entries) → AllByRecursion (λ (other : Bor (Option Bytes)). option_cmp bytes_cmp k other.now ≡ Less) (keys_of es) → AllOwn es
    → AllByRecursion (λ (other : Option Bytes). option_cmp bytes_cmp k other ≡ Less) (map end_of (records_at es))
above k [] all own = tt
above k (e ∷ es) all own = (ap (option_cmp bytes_cmp k) (sym own.0) ∙ all.0, above k es all.1 own.1)

rising : (es : Entries) → IsStrictlySortedBy in_order (keys_of es) → AllOwn es → Rise (records_at es)
unfolding IsStrictlySortedBy
rising [] up own = tt
rising (e ∷ es) up own =
    (subst (λ (k : Option Bytes). AllByRecursion (λ (other : Option Bytes). option_cmp bytes_cmp k other ≡ Less) (map end_of (records_at es))) own.0 (above e.0.now es up.0 own.1), rising es up.1 own.1)

-- what is found is among the records
found-there : (es : Entries) (k : Option Bytes) (t : TabletRecord) → option_copied (lookup (at_end k) es) ≡ Some t → Contains (records_at es) t
found-there [] k t = λ e. absurd cc
found-there (e ∷ es) k t = by (tied k e.0.now) (found-there es k t)
  where
    by : (b : Bool) → (option_copied (lookup (at_end k) es) ≡ Some t → Contains (records_at es) t) → option_copied (cond b (Some e.1) (lookup (at_end k) es)) ≡ Some t → Contains (e.1.now ∷ records_at es) t
    by true h is = let same : e.1.now ≡ t = cc in subst (Contains (e.1.now ∷ records_at es)) same (Contains-here e.1.now (records_at es))
    by false h is = Contains-there e.1.now t (records_at es) (h is)

all_of : (P : Option Bytes → Type 0) (ts : List TabletRecord) (t : TabletRecord) → AllByRecursion P (map end_of ts) → Contains ts t → P t.end
all_of P [] t all c = absurd (Contains-nil t c)
all_of P (u ∷ us) t all c = elim (Contains-cons_cases u t us c) [
  | inl is ↦ subst (λ (z : TabletRecord). P z.end) is all.0
  | inr rest ↦ all_of P us t all.1 rest
]

above_head : (u t : TabletRecord) (us : List TabletRecord) → Rise (u ∷ us) → Contains us t → option_cmp bytes_cmp u.end t.end ≡ Less
unfolding IsStrictlySortedBy
above_head u t us up c = all_of (λ k. option_cmp bytes_cmp u.end k ≡ Less) us t up.0 c

rise_tail : (u : TabletRecord) (us : List TabletRecord) → Rise (u ∷ us) → Rise us
unfolding IsStrictlySortedBy
rise_tail u us up = up.1

-- each of the records is found at its end row
there-found : (es : Entries) (t : TabletRecord) → Rise (records_at es) → AllOwn es → Contains (records_at es) t → option_copied (lookup (at_end t.end) es) ≡ Some t
there-found [] t up own there = absurd (Contains-nil t there)
there-found (e ∷ es) t up own there = elim (Contains-cons_cases e.1.now t (records_at es) there) [
  | inl is ↦ here is (tied t.end e.0.now) refl
  | inr rest ↦ past rest (tied t.end e.0.now) refl (there-found es t (rise_tail e.1.now (records_at es) up) own.1 rest)
]
  where
    here : e.1.now ≡ t → (b : Bool) → tied t.end e.0.now ≡ b → option_copied (cond b (Some e.1) (lookup (at_end t.end) es)) ≡ Some t
    here is true tie = ap Some is
    here is false tie = absurd (false≢true (sym tie ∙ ap (tied t.end) (own.0 ∙ ap end_of is) ∙ tied-refl t.end))

    apart : t.end ≡ e.1.now.end → option_cmp bytes_cmp e.1.now.end t.end ≡ Less → ⊥
    apart same less = let wrong : Less ≡ Equal = sym less ∙ ap (option_cmp bytes_cmp e.1.now.end) same ∙ tied_itself ends_total e.1.now.end in cc

    past : Contains (records_at es) t → (b : Bool) → tied t.end e.0.now ≡ b → option_copied (lookup (at_end t.end) es) ≡ Some t → option_copied (cond b (Some e.1) (lookup (at_end t.end) es)) ≡ Some t
    past rest true tie h = absurd (apart (tied-true t.end e.0.now tie ∙ own.0) (above_head e.1.now t (records_at es) up rest))
    past rest false tie h = h

-- the map's records are those that it finds
module _ (table : Bytes) (records : List TabletRecord) (m : Ends) (index : IsIndexOf table records m) where
  in_rise : Rise (records_in m)
  in_rise = rising m.entries index.ordered index.own

  pub exactly_found : (t : TabletRecord) → Contains (records_in m) t ↔ (rows_of table records t.end ≡ Some t)
  exactly_found t = (λ c. sym (index.finds t.end) ∙ there-found m.entries t in_rise index.own c, λ e. found-there m.entries t.end t (index.finds t.end ∙ e))

abbrev HasEnd : Option Bytes → Type 0
HasEnd end = is_some end ≡ true

-- the last tablet's end row aside, the orders agree
less-turned : (a b : Option Bytes) → HasEnd a → HasEnd b → option_cmp bytes_cmp a b ≡ Less → end_cmp a b ≡ Less
less-turned None b p q e = absurd (false≢true p)
less-turned (Some a) None p q e = absurd (false≢true q)
less-turned (Some a) (Some b) p q e = e

all-turned : (a : Option Bytes) (ks : List (Option Bytes)) → HasEnd a → AllByRecursion HasEnd ks → AllByRecursion (λ k. option_cmp bytes_cmp a k ≡ Less) ks → AllByRecursion (λ k. end_cmp a k ≡ Less) ks
all-turned a [] p q all = tt
all-turned a (k ∷ ks) p q all = (less-turned a k p q.0 all.0, all-turned a ks p q.1 all.1)

turned : (ks : List (Option Bytes)) → AllByRecursion HasEnd ks → IsStrictlySortedBy (option_cmp bytes_cmp) ks → IsStrictlySortedBy end_cmp ks
unfolding IsStrictlySortedBy
turned [] p up = tt
turned (k ∷ ks) p up = (all-turned k ks p.0 p.1 up.0, turned ks p.1 up.1)

all-filter : (p : TabletRecord → Bool) (P : Option Bytes → Type 0) (ts : List TabletRecord) → AllByRecursion P (map end_of ts) → AllByRecursion P (map end_of (filter p ts))
all-filter p P [] all = tt
all-filter p P (t ∷ ts) all = by (p t) (all-filter p P ts all.1)
  where
    by : (b : Bool) → AllByRecursion P (map end_of (filter p ts)) → AllByRecursion P (map end_of (cond b (t ∷ filter p ts) (filter p ts)))
    by true rest = (all.0, rest)
    by false rest = rest

rise-filter : (p : TabletRecord → Bool) (ts : List TabletRecord) → Rise ts → Rise (filter p ts)
unfolding IsStrictlySortedBy
rise-filter p [] up = tt
rise-filter p (t ∷ ts) up = by (p t) (rise-filter p ts up.1)
  where
    by : (b : Bool) → Rise (filter p ts) → Rise (cond b (t ∷ filter p ts) (filter p ts))
    by true rest = (all-filter p (λ k. option_cmp bytes_cmp t.end k ≡ Less) ts up.0, rest)
    by false rest = rest

all-each : (P : Option Bytes → Type 0) (ts : List TabletRecord) → ((t : TabletRecord) → Contains ts t → P t.end) → AllByRecursion P (map end_of ts)
all-each P [] each = tt
all-each P (t ∷ ts) each = (each t (Contains-here t ts), all-each P ts (λ u c. each u (Contains-there t u ts c)))

-- the records that have none in the chain are left over
module _ (table : Bytes) (records way : List TabletRecord) (ends chained : Ends) (distinct : AreDistinct records) (index : IsIndexOf table records ends) (way_index : IsIndexOf table way chained)
    (chain : IsChain (rows_of table records) way) where
  abbrev rows : Rows
  rows = rows_of table records

  abbrev left : List TabletRecord
  left = filter (is_apart chained) (records_in ends)

  -- a record of the table stands in the chain where one with its end row does
  on_way : (t : TabletRecord) → rows t.end ≡ Some t → Contains way t → is_some (found_at chained t.end) ≡ true
  on_way t there c =
      let r = row-there table records t.end t there in
      ap is_some (way_index.finds t.end) ∙ find-some (is_named table t.end) way t c (named-from table t.end t r.1 refl)

  off_way : (t : TabletRecord) → rows t.end ≡ Some t → is_some (found_at chained t.end) ≡ true → Contains way t
  off_way t there = by (found_at chained t.end) refl
    where
      by : (o : Option TabletRecord) → found_at chained t.end ≡ o → is_some o ≡ true → Contains way t
      by None is e = absurd (false≢true e)
      by (Some u) is e =
          let r = row-there table way t.end u (sym (way_index.finds t.end) ∙ is) in
          let same : u ≡ t = same_Some _ _ (sym (row_of rows None way u chain r.0) ∙ ap rows r.2 ∙ there) in
          subst (Contains way) same r.0

  apart-true : (t : TabletRecord) → rows t.end ≡ Some t → (Contains way t → ⊥) → is_apart chained t ≡ true
  apart-true t there off = by (is_some (found_at chained t.end)) refl
    where
      by : (b : Bool) → is_some (found_at chained t.end) ≡ b → not b ≡ true
      by true e = absurd (off (off_way t there e))
      by false e = refl

  apart-off : (t : TabletRecord) → rows t.end ≡ Some t → is_apart chained t ≡ true → Contains way t → ⊥
  apart-off t there apart c = false≢true (ap not (sym (on_way t there c)) ∙ apart)

  found-left : (t : TabletRecord) → Contains left t → (rows t.end ≡ Some t) × (Contains way t → ⊥)
  found-left t c =
      let r = Contains-filter (is_apart chained) (records_in ends) t c in
      let there = (exactly_found table records ends index t).0 r.0 in
      (there, apart-off t there r.1)

  -- the last tablet is in the chain
  last_on_way : (t : TabletRecord) → rows t.end ≡ Some t → t.end ≡ None → Contains way t
  last_on_way t there last = by way chain
    where
      by : (ts : List TabletRecord) → IsChain rows ts → Contains ts t
      by [] p = absurd p
      by (u ∷ us) p = let same : u ≡ t = same_Some _ _ (sym p.0 ∙ ap rows (sym last) ∙ there) in subst (Contains (u ∷ us)) same (Contains-here u us)

  has_end : (t : TabletRecord) → Contains left t → HasEnd t.end
  has_end t c = by t.end refl
    where
      by : (o : Option Bytes) → t.end ≡ o → is_some o ≡ true
      by None e = absurd (let r = found-left t c in r.1 (last_on_way t r.0 e))
      by (Some row) e = refl

  pub left_over : (other : List TabletRecord) → IsChain rows other → AreLeftOver table records other left
  left_over other p = record {
    rising = turned (map end_of left) (all-each HasEnd left has_end) (rise-filter (is_apart chained) (records_in ends) (in_rise table records ends index));
    each = λ t. (
      λ c. (let r = found-left t c in let q = (row-exactly table records t distinct).0 r.0 in (q.0, q.1, λ in_other. r.1 (subst (λ l. Contains l t) (one_chain_from rows None other way p chain) in_other))),
      λ parts. (let there = (row-exactly table records t distinct).1 (parts.0, parts.1) in
          Contains-in_filter (is_apart chained) (records_in ends) t ((exactly_found table records ends index t).1 there)
          (apart-true t there (λ in_way. parts.2 (subst (λ l. Contains l t) (one_chain_from rows None way other chain p) in_way)))),
    );
  }
