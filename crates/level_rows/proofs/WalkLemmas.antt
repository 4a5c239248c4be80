-- The walk down the map of a table's records.
use Rattle.std.proofs.Common.{◌≡◌, inl, inr, ℕ, ◌<◌, ◌≤◌, List, [], ◌∷◌, ◌++◌, Bool, true, false, cond, not, Bor, Option, Some, None, refl, sym, ◌∙◌, ap, subst, append_assoc, arith, ◌+◌}
use Rattle.std.specs.Prelude.{is_some, is_none}
use Rattle.std.specs.Map.{lookup}
use Rattle.std.specs.BTreeMap.{is_at}
use Rattle.std.specs.Option.{option_copied, option_cmp}
use Rattle.std.specs.Ordering.{is_eq}
use Rattle.std.specs.declared.cmp.Ordering.{Ordering}
use Rattle.std.specs.declared.cmp.Ordering.TheVariants.{Less, Equal, Greater}
use Rattle.std.proofs.lemmas.Bool.{false≢true}
use Rattle.row_keys.specs.RowOrder.{bytes_cmp, is_up_to}
use Rattle.row_keys.proofs.RowOrderLemmas.{is_below-itself}
use Rattle.level_rows.proofs.EndLemmas.{end_cmp-equal}
use Rattle.metadata_schema.specs.declared.tablet.TabletRecord.{TabletRecord}
use Rattle.level_rows.specs.Chain.{Rows, effective_prev, IsBelowEnd, GoesOn, IsChainFrom, IsChain}
use Rattle.level_rows.specs.Broken.{BreaksFrom}
use Rattle.level_rows.specs.Index.{is_below_end, found_at, Ends}
use Rattle.level_rows.proofs.WayLemmas.{Bytes, up_to_end}

-- these records stand on the way from the last tablet down to this end row
pub record LeadsTo (rows : Rows) (way : List TabletRecord) (end : Option Bytes) : Type 0 where
  pub chained : (lower : List TabletRecord) → IsChainFrom rows end lower → IsChain rows (way ++ lower)
  pub broken : (lower : List TabletRecord) → BreaksFrom rows end lower → BreaksFrom rows None (way ++ lower)

pub leads-none : (rows : Rows) → LeadsTo rows [] None
leads-none rows = record { chained = λ lower p. p; broken = λ lower p. p }

pub below-true : (low : Bytes) (end : Option Bytes) → is_below_end low end ≡ true → IsBelowEnd low end
below-true low None e = tt
below-true low (Some end) e = e

pub below-false : (low : Bytes) (end : Option Bytes) → is_below_end low end ≡ false → IsBelowEnd low end → ⊥
below-false low None e below = false≢true (sym e)
below-false low (Some end) e below = false≢true (sym e ∙ below)

module _ (rows : Rows) (way : List TabletRecord) (end : Option Bytes) (t : TabletRecord) (leads : LeadsTo rows way end) (there : rows end ≡ Some t) (named : t.end ≡ end) where
  with_it : (P : List TabletRecord → Type 0) (lower : List TabletRecord) → P (way ++ t ∷ lower) → P ((way ++ t ∷ []) ++ lower)
  with_it P lower p = subst P (sym (append_assoc way (t ∷ []) lower)) p

  -- one step further down
  pub leads-more : (low : Bytes) → effective_prev rows t ≡ Some low → IsBelowEnd low end → LeadsTo rows (way ++ t ∷ []) (Some low)
  leads-more low reach below = record {
    chained = λ lower p. with_it (IsChain rows) lower (leads.chained (t ∷ lower) (there, named, subst (λ (x : Option Bytes). GoesOn x end (lower ≡ []) (λ low. IsChainFrom rows (Some low) lower)) (sym reach) (below, p)));
    broken = λ lower p. with_it (BreaksFrom rows None) lower (leads.broken (t ∷ lower) (there, (low, reach, inr (below, p))));
  }

  pub leads-ends : effective_prev rows t ≡ None → IsChain rows (way ++ t ∷ [])
  leads-ends reach = leads.chained (t ∷ []) (there, named, subst (λ (x : Option Bytes). GoesOn x end (◌≡◌ {A = List TabletRecord} [] []) (λ low. IsChainFrom rows (Some low) [])) (sym reach) refl)

  pub leads-broken : (low : Bytes) → effective_prev rows t ≡ Some low → (IsBelowEnd low end → ⊥) → BreaksFrom rows None (way ++ t ∷ [])
  leads-broken low reach not_below = leads.broken (t ∷ []) (there, (low, reach, inl (not_below, refl)))

pub leads-missing : (rows : Rows) (way : List TabletRecord) (end : Option Bytes) → LeadsTo rows way end → rows end ≡ None → BreaksFrom rows None (way ++ [])
leads-missing rows way end leads none = leads.broken [] none

-- an end row is at most another
abbrev pub is_at_most : Option Bytes → Option Bytes → Bool
is_at_most end None = is_none end
is_at_most end (Some row) = is_up_to end row

-- a map's entries by their end rows
abbrev pub Entries : Type 0
Entries = List (Bor (Option Bytes) × Bor TabletRecord)

-- how many records end at most at this end row
abbrev pub ahead : Option Bytes → Entries → ℕ
ahead end [] = 0
ahead end (e ∷ es) = cond (is_at_most end e.0.now) 1 0 + ahead end es

abbrev pub still_ahead : Option Bytes → Ends → ℕ
still_ahead end ends = ahead end ends.entries

abbrev pub at_end : Option Bytes → Bor (Option Bytes) → Bool
at_end end = is_at (λ (other : Bor (Option Bytes)). option_cmp bytes_cmp end other.now)

more_at_most : (low : Bytes) (end : Option Bytes) → IsBelowEnd low end → (key : Option Bytes) → is_at_most (Some low) key ≡ true → is_at_most end key ≡ true
more_at_most low end below None e = absurd (false≢true e)
more_at_most low end below (Some row) e = up_to_end low end row below e

own_at_most : (end : Option Bytes) → is_at_most end end ≡ true
own_at_most None = refl
own_at_most (Some row) = ap not (is_below-itself row)

higher_not : (low : Bytes) (end : Option Bytes) → IsBelowEnd low end → is_at_most (Some low) end ≡ false
higher_not low None below = refl
higher_not low (Some end) below = ap not below

pub at_end-true : (end : Option Bytes) (key : Bor (Option Bytes)) → at_end end key ≡ true → end ≡ key.now
at_end-true end key e = by (option_cmp bytes_cmp end key.now) refl e
  where
    by : (o : Ordering) → option_cmp bytes_cmp end key.now ≡ o → is_eq o ≡ true → end ≡ key.now
    by Less is e = absurd (false≢true e)
    by Equal is e = end_cmp-equal end key.now is
    by Greater is e = absurd (false≢true e)

both_more : (b d : Bool) → (b ≡ true → d ≡ true) → (m n : ℕ) → m ≤ n → cond b 1 0 + m ≤ cond d 1 0 + n
both_more true true h m n le = omega arith
both_more true false h m n le = absurd (false≢true (h refl))
both_more false true h m n le = omega arith
both_more false false h m n le = omega arith

both_less : (b d : Bool) → (b ≡ true → d ≡ true) → (m n : ℕ) → m < n → cond b 1 0 + m < cond d 1 0 + n
both_less true true h m n lt = omega arith
both_less true false h m n lt = absurd (false≢true (h refl))
both_less false true h m n lt = omega arith
both_less false false h m n lt = omega arith

one_less : (b d : Bool) → b ≡ false → d ≡ true → (m n : ℕ) → m ≤ n → cond b 1 0 + m < cond d 1 0 + n
one_less true d is also m n le = absurd (false≢true (sym is))
one_less false true is also m n le = omega arith
one_less false false is also m n le = absurd (false≢true also)

-- fewer end rows are ahead of a lower one
ahead-lower : (es : Entries) (low : Bytes) (end : Option Bytes) → IsBelowEnd low end → ahead (Some low) es ≤ ahead end es
ahead-lower [] low end below = omega arith
ahead-lower (e ∷ es) low end below =
    both_more (is_at_most (Some low) e.0.now) (is_at_most end e.0.now) (more_at_most low end below e.0.now) (ahead (Some low) es) (ahead end es) (ahead-lower es low end below)

-- and one fewer, where a record stands at the higher one
pub ahead-less : (es : Entries) (low : Bytes) (end : Option Bytes) → IsBelowEnd low end → is_some (lookup (at_end end) es) ≡ true → ahead (Some low) es < ahead end es
ahead-less [] low end below there = absurd (false≢true there)
ahead-less (e ∷ es) low end below there = by (at_end end e.0) refl (ahead-less es low end below) there
  where
    by : (b : Bool) → at_end end e.0 ≡ b → (is_some (lookup (at_end end) es) ≡ true → ahead (Some low) es < ahead end es) → is_some (cond b (Some e.1) (lookup (at_end end) es)) ≡ true
        → ahead (Some low) (e ∷ es) < ahead end (e ∷ es)
    by true is h found =
        let at = at_end-true end e.0 is in
        one_less (is_at_most (Some low) e.0.now) (is_at_most end e.0.now)
        (ap (is_at_most (Some low)) (sym at) ∙ higher_not low end below) (ap (is_at_most end) (sym at) ∙ own_at_most end)
        (ahead (Some low) es) (ahead end es) (ahead-lower es low end below)
    by false is h found = both_less (is_at_most (Some low) e.0.now) (is_at_most end e.0.now) (more_at_most low end below e.0.now) (ahead (Some low) es) (ahead end es) (h found)

is_some-copied : {X : Type 0} (o : Option (Bor X)) (x : X) → option_copied o ≡ Some x → is_some o ≡ true
is_some-copied None x e = cc
is_some-copied (Some y) x e = refl

pub falls : (ends : Ends) (end next : Option Bytes) (low : Bytes) (t : TabletRecord) → found_at ends end ≡ Some t → IsBelowEnd low end → next ≡ Some low → still_ahead next ends < still_ahead end ends
falls ends end next low t there below is =
    subst (λ (x : Option Bytes). still_ahead x ends < still_ahead end ends) (sym is)
    (ahead-less ends.entries low end below (is_some-copied (lookup (at_end end) ends.entries) t there))
