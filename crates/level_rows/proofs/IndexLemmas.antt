-- The map of a table's records, as records come one after another.
use Rattle.std.proofs.Common.{◌≡◌, inl, inr, List, [], ◌∷◌, ◌++◌, Bool, true, false, cond, Bor, Option, Some, None, refl, sym, ◌∙◌, ap, subst}
use Rattle.std.specs.Prelude.{is_some}
use Rattle.std.specs.BTreeMap.{insert_entry}
use Rattle.std.specs.List.{AllByRecursion}
use Rattle.std.specs.List.Sorted.{IsStrictlySortedBy}
use Rattle.std.specs.Map.{lookup, keys_of}
use Rattle.std.specs.Option.{option_copied, option_cmp, option_or}
use Rattle.std.specs.Ordering.{is_eq, match_ordering}
use Rattle.std.specs.Cmp.{IsTotalOrder}
use Rattle.std.specs.Cmp.Lexicographic.{options_total}
use Rattle.std.specs.declared.cmp.Ordering.{Ordering}
use Rattle.std.specs.declared.cmp.Ordering.TheVariants.{Less, Equal, Greater}
use Rattle.std.proofs.lemmas.Bool.{false≢true, cases_Bool}
use Rattle.std.proofs.lemmas.Cmp.{eq_by_cmp_equiv, nat_list_cmp_total, tied_itself}
use Rattle.std.proofs.lemmas.List.Folds.{find-append}
use Rattle.row_keys.specs.RowOrder.{bytes_cmp}
use Rattle.metadata_schema.specs.declared.tablet.TabletRecord.{TabletRecord}
use Rattle.level_rows.specs.Chain.{rows_of, is_named}
use Rattle.level_rows.specs.Index.{Ends, IsIndexOf, FindsOwn, found_at}
use Rattle.level_rows.proofs.EndLemmas.{end_cmp-equal, named-parts, named-from}
use Rattle.level_rows.proofs.LookupLemmas.{row-there}
use Rattle.level_rows.proofs.WalkLemmas.{Entries, at_end}
use Rattle.level_rows.proofs.WayLemmas.{Bytes}

abbrev pub in_order : Bor (Option Bytes) → Bor (Option Bytes) → Ordering
in_order end other = option_cmp bytes_cmp end.now other.now

pub ends_total : IsTotalOrder (option_cmp bytes_cmp)
ends_total = options_total nat_list_cmp_total

abbrev pub tied : Option Bytes → Option Bytes → Bool
tied a b = is_eq (option_cmp bytes_cmp a b)

pub tied-refl : (a : Option Bytes) → tied a a ≡ true
tied-refl a = ap is_eq (tied_itself ends_total a)

tied-sym : (a b : Option Bytes) → tied a b ≡ tied b a
tied-sym = (eq_by_cmp_equiv ends_total).symm

pub tied-true : (a b : Option Bytes) → tied a b ≡ true → a ≡ b
tied-true a b e = by (option_cmp bytes_cmp a b) refl e
  where
    by : (o : Ordering) → option_cmp bytes_cmp a b ≡ o → is_eq o ≡ true → a ≡ b
    by Less is e = absurd (false≢true e)
    by Equal is e = end_cmp-equal a b is
    by Greater is e = absurd (false≢true e)

-- the record put in is found at its end row, and the others at theirs
found-insert : (es : Entries) (kb : Bor (Option Bytes)) (tb : Bor TabletRecord) (k : Option Bytes) → lookup (at_end k) (insert_entry in_order es kb tb) ≡ cond (tied kb.now k) (Some tb) (lookup (at_end k) es)
found-insert [] kb tb k = ap (λ (b : Bool). cond b (Some tb) None) (tied-sym k kb.now)
found-insert (e ∷ es) kb tb k = by (option_cmp bytes_cmp kb.now e.0.now) refl (found-insert es kb tb k)
  where
    first : (b c : Bool) (o : Option (Bor TabletRecord)) → b ≡ c → cond b (Some tb) o ≡ cond c (Some tb) o
    first b c o same = ap (λ (t : Bool). cond t (Some tb) o) same

    replaced : (b : Bool) (o : Option (Bor TabletRecord)) → cond b (Some tb) o ≡ cond b (Some tb) (cond b (Some e.1) o)
    replaced true o = refl
    replaced false o = refl

    behind : (b c : Bool) (o : Option (Bor TabletRecord)) → (b ≡ true → c ≡ true → ⊥) → cond b (Some e.1) (cond c (Some tb) o) ≡ cond c (Some tb) (cond b (Some e.1) o)
    behind true true o apart = absurd (apart refl refl)
    behind true false o apart = refl
    behind false c o apart = refl

    by : (o : Ordering) → option_cmp bytes_cmp kb.now e.0.now ≡ o → lookup (at_end k) (insert_entry in_order es kb tb) ≡ cond (tied kb.now k) (Some tb) (lookup (at_end k) es)
        → lookup (at_end k) (match_ordering o ((kb, tb) ∷ e ∷ es) ((e.0, tb) ∷ es) (e ∷ insert_entry in_order es kb tb)) ≡ cond (tied kb.now k) (Some tb) (cond (tied k e.0.now) (Some e.1) (lookup (at_end k) es))
    by Less is h = first (tied k kb.now) (tied kb.now k) (lookup (at_end k) (e ∷ es)) (tied-sym k kb.now)
    by Equal is h =
        let keys : kb.now ≡ e.0.now = end_cmp-equal kb.now e.0.now is in
        let same : tied k e.0.now ≡ tied kb.now k = tied-sym k e.0.now ∙ ap (λ (x : Option Bytes). tied x k) (sym keys) in
        replaced (tied k e.0.now) (lookup (at_end k) es) ∙ first (tied k e.0.now) (tied kb.now k) (cond (tied k e.0.now) (Some e.1) (lookup (at_end k) es)) same
    by Greater is h =
        ap (cond (tied k e.0.now) (Some e.1)) h
        ∙ behind (tied k e.0.now) (tied kb.now k) (lookup (at_end k) es)
        (λ p q.
        let one : k ≡ e.0.now = tied-true k e.0.now p in
        let two : kb.now ≡ k = tied-true kb.now k q in
        let equal : is_eq (option_cmp bytes_cmp kb.now e.0.now) ≡ true = subst (λ (x : Option Bytes). tied kb.now x ≡ true) (two ∙ one) (tied-refl kb.now) in
        false≢true (ap is_eq (sym is) ∙ equal))

abbrev pub AllOwn : Entries → Type 0
AllOwn es = AllByRecursion (λ entry. entry.0.now ≡ entry.1.now.end) es

own-insert : (es : Entries) (kb : Bor (Option Bytes)) (tb : Bor TabletRecord) → kb.now ≡ tb.now.end → AllOwn es → AllOwn (insert_entry in_order es kb tb)
own-insert [] kb tb own all = (own, tt)
own-insert (e ∷ es) kb tb own all = by (option_cmp bytes_cmp kb.now e.0.now) refl (own-insert es kb tb own all.1)
  where
    by : (o : Ordering) → option_cmp bytes_cmp kb.now e.0.now ≡ o → AllOwn (insert_entry in_order es kb tb) → AllOwn (match_ordering o ((kb, tb) ∷ e ∷ es) ((e.0, tb) ∷ es) (e ∷ insert_entry in_order es kb tb))
    by Less is h = (own, all)
    by Equal is h = (sym (end_cmp-equal kb.now e.0.now is) ∙ own, all.1)
    by Greater is h = (all.0, h)

option_copied-cond : (b : Bool) (tb : Bor TabletRecord) (o : Option (Bor TabletRecord)) → option_copied (cond b (Some tb) o) ≡ cond b (Some tb.now) (option_copied o)
option_copied-cond true tb o = refl
option_copied-cond false tb o = refl

-- one more record at the end of a list
pub rows-push : (table : Bytes) (records : List TabletRecord) (t : TabletRecord) (end : Option Bytes) → rows_of table (records ++ t ∷ []) end ≡ option_or (rows_of table records end) (cond (is_named table end t) (Some t) None)
rows-push table records t end = find-append (is_named table end) records (t ∷ [])

named-false : (table : Bytes) (end : Option Bytes) (t : TabletRecord) → (t.table ≡ table → t.end ≡ end → ⊥) → is_named table end t ≡ false
named-false table end t other = elim (cases_Bool (is_named table end t)) [
  | inl is ↦ (let parts = named-parts table end t is in absurd (other parts.0 parts.1))
  | inr is ↦ is
]

or-none : {X : Type 0} (o : Option X) → option_or o None ≡ o
or-none None = refl
or-none (Some x) = refl

or-some : {X : Type 0} (o p : Option X) → is_some o ≡ true → option_or o p ≡ o
or-some None p e = absurd (false≢true e)
or-some (Some x) p e = refl

-- one more record of the table, put in
pub index_put : (table : Bytes) (records : List TabletRecord) (m n : Ends) (kb : Bor (Option Bytes)) (tb : Bor TabletRecord) → IsIndexOf table records m → kb.now ≡ tb.now.end
    → tb.now.table ≡ table → found_at m tb.now.end ≡ None → n.entries ≡ insert_entry in_order m.entries kb tb → IsStrictlySortedBy in_order (keys_of n.entries) → IsIndexOf table (records ++ tb.now ∷ []) n
index_put table records m n kb tb index own at none put ordered = record {
  finds = λ k.
      ap (λ (es : Entries). option_copied (lookup (at_end k) es)) put
      ∙ ap option_copied (found-insert m.entries kb tb k)
      ∙ option_copied-cond (tied kb.now k) tb (lookup (at_end k) m.entries)
      ∙ ap (cond (tied kb.now k) (Some tb.now)) (index.finds k)
      ∙ by k (tied kb.now k) refl
      ∙ sym (rows-push table records tb.now k);
  own = subst AllOwn (sym put) (own-insert m.entries kb tb own index.own);
  ordered = ordered;
}
  where
    by : (k : Option Bytes) (b : Bool) → tied kb.now k ≡ b → cond b (Some tb.now) (rows_of table records k) ≡ option_or (rows_of table records k) (cond (is_named table k tb.now) (Some tb.now) None)
    by k true is =
        let end : tb.now.end ≡ k = sym own ∙ tied-true kb.now k is in
        let empty : rows_of table records k ≡ None = sym (index.finds k) ∙ ap (found_at m) (sym end) ∙ none in
        sym (ap (λ o. option_or o (cond (is_named table k tb.now) (Some tb.now) None)) empty ∙ ap (λ b. cond b (Some tb.now) None) (named-from table k tb.now at end))
    by k false is =
        sym (ap (λ b. option_or (rows_of table records k) (cond b (Some tb.now) None)) (named-false table k tb.now (λ _ end. false≢true (sym is ∙ ap (tied kb.now) (sym end ∙ sym own) ∙ tied-refl kb.now)))
        ∙ or-none (rows_of table records k))

-- one more record, left out
pub index_left : (table : Bytes) (records : List TabletRecord) (m : Ends) (t : TabletRecord) → IsIndexOf table records m
    → (t.table ≡ table → is_some (found_at m t.end) ≡ true) → IsIndexOf table (records ++ t ∷ []) m
index_left table records m t index there = record {
  finds = λ k. index.finds k ∙ by k (is_named table k t) refl ∙ sym (rows-push table records t k);
  own = index.own;
  ordered = index.ordered;
}
  where
    by : (k : Option Bytes) (b : Bool) → is_named table k t ≡ b → rows_of table records k ≡ option_or (rows_of table records k) (cond b (Some t) None)
    by k true is =
        let named = named-parts table k t is in
        sym (or-some (rows_of table records k) (Some t) (ap is_some (sym (index.finds k)) ∙ ap (λ (x : Option Bytes). is_some (found_at m x)) (sym named.1) ∙ there named.0))
    by k false is = sym (or-none (rows_of table records k))

-- the map with nothing in it
pub index_empty : (table : Bytes) (m : Ends) → m.entries ≡ [] → IsStrictlySortedBy in_order (keys_of m.entries) → IsIndexOf table [] m
index_empty table m empty ordered = record {
  finds = λ k. ap (λ (es : Entries). option_copied (lookup (at_end k) es)) empty;
  own = subst AllOwn (sym empty) tt;
  ordered = ordered;
}

pub finds_own : (table : Bytes) (records : List TabletRecord) (m : Ends) → IsIndexOf table records m → FindsOwn m
finds_own table records m index end t e = (row-there table records end t (sym (index.finds end) ∙ e)).2

-- the map finds as the records do
pub finds_as : (table : Bytes) (records : List TabletRecord) (m : Ends) → IsIndexOf table records m → found_at m ≡ rows_of table records
finds_as table records m index = λ i end. index.finds end i

pub copied-none : {X : Type 0} (o : Option (Bor X)) → is_some o ≡ false → option_copied o ≡ None
copied-none None e = refl
copied-none (Some x) e = absurd (false≢true (sym e))

pub copied-some : {X : Type 0} (o : Option (Bor X)) → is_some o ≡ true → is_some (option_copied o) ≡ true
copied-some None e = absurd (false≢true e)
copied-some (Some x) e = refl
