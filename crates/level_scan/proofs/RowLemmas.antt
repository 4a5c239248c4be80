-- The records of a table, as a level has them.
use Rattle.std.proofs.Common.{◌≡◌, inl, inr, ℕ, Bool, true, false, cond, List, [], ◌∷◌, Contains, Option, Some, None, refl, sym, ◌∙◌, ap, subst}
use Rattle.std.specs.List.{All, find}
use Rattle.std.proofs.lemmas.Bool.{false≢true}
use Rattle.std.proofs.lemmas.List.Elements.{All-weaker, All-contains_itself}
use Rattle.std.proofs.lemmas.Option.{none-some}
use Rattle.metadata_schema.specs.declared.tablet.TabletRecord.{TabletRecord}
use Rattle.level_rows.specs.Chain.{IsChain, is_named, rows_of}
use Rattle.level_rows.proofs.EndLemmas.{named-from}
use Rattle.level_rows.proofs.LookupLemmas.{row-there, same_found}
use Rattle.level_rows.proofs.Membership.{Contains-nil, Contains-cons_cases}
use Rattle.level_rows.proofs.WayLemmas.{row_of}
use Rattle.store_meaning.specs.Levels.{Level, IsRecordAt, metadata_id}
use Rattle.level_index.specs.Lists.{AreRecordsOf}

-- something is found where one passes
found_some : (p : TabletRecord → Bool) (xs : List TabletRecord) (x : TabletRecord) → Contains xs x → p x ≡ true → find p xs ≡ None → ⊥
found_some p [] x there is = absurd (Contains-nil x there)
found_some p (y ∷ ys) x there is = by (p y) refl (λ rest. found_some p ys x rest is)
  where
    by : (b : Bool) → p y ≡ b → (Contains ys x → find p ys ≡ None → ⊥) → cond b (Some y) (find p ys) ≡ None → ⊥
    by true at rest none = none-some y (sym none)
    by false at rest none = elim (Contains-cons_cases y x ys there) [
      | inl same ↦ false≢true (sym at ∙ ap p same ∙ is)
      | inr behind ↦ rest behind none
    ]

module _ (level : Level) (table : List ℕ) (records : List TabletRecord) (are : AreRecordsOf level table records) where
  -- what is found among them is the level's
  to_level : (end : Option (List ℕ)) (tablet : TabletRecord) → rows_of table records end ≡ Some tablet → level.records table end ≡ Some tablet
  to_level end tablet e =
      let found = row-there table records end tablet e in
      subst (λ x. level.records table x ≡ Some tablet) found.2 ((are.each tablet).0 found.0)

  from_level : (end : Option (List ℕ)) (tablet : TabletRecord) → level.records table end ≡ Some tablet → rows_of table records end ≡ Some tablet
  from_level end tablet e = by (rows_of table records end) refl
    where
      by : (o : Option TabletRecord) → rows_of table records end ≡ o → o ≡ Some tablet
      by None none =
          let form = are.forms end tablet e in
          let at = subst (λ x. level.records table x ≡ Some tablet) (sym form.end_is) e in
          absurd (found_some (is_named table end) records tablet ((are.each tablet).1 at) (named-from table end tablet form.table_is form.end_is) none)
      by (Some other) is = sym (to_level end other is) ∙ e

  pub rows_same : rows_of table records ≡ level.records table
  rows_same = λ i end. same_found (rows_of table records end) (level.records table end) (to_level end) (from_level end) i

  -- the tablets of a chain of theirs are of their form
  pub chain_formed : (chain : List TabletRecord) → IsChain (level.records table) chain → All (λ tablet. IsRecordAt table tablet.end tablet) chain
  chain_formed chain is =
      All-weaker (Contains chain) (λ (tablet : TabletRecord). IsRecordAt table tablet.end tablet) (λ tablet there. are.forms tablet.end tablet (row_of (level.records table) None chain tablet is there)) chain (All-contains_itself chain)

  -- the same, where the table is known by another word
  pub chain_at : (other : List ℕ) → table ≡ other → (chain : List TabletRecord) → IsChain (level.records other) chain → All (λ tablet. IsRecordAt table tablet.end tablet) chain
  chain_at other same chain is = chain_formed chain (subst (λ t. IsChain (level.records t) chain) (sym same) is)

-- a list of these records gives the rows of the level
pub own_records : (level : Level) (table : List ℕ) (records listed : List TabletRecord) → AreRecordsOf level table records → table ≡ metadata_id → listed ≡ records → rows_of table listed ≡ level.records metadata_id
own_records level table records listed are same list = ap (rows_of table) list ∙ rows_same level table records are ∙ ap level.records same
