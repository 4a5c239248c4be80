-- Records looked up by their names.
use Rattle.std.proofs.Common.{◌≡◌, ◌≢◌, ◌↔◌, inl, inr, ℕ, suc, List, [], ◌∷◌, Bool, true, false, cond, Option, Some, None, Contains, refl, sym, ◌∙◌, ap, subst, arith}
use Rattle.std.specs.Prelude.{is_some, find}
use Rattle.std.proofs.lemmas.Bool.{false≢true}
use Rattle.std.proofs.lemmas.Option.{same_Some}
use Rattle.metadata_schema.specs.declared.tablet.TabletRecord.{TabletRecord}
use Rattle.level_rows.specs.Chain.{rows_of, is_named, same_end}
use Rattle.level_rows.specs.LeftOver.{AreDistinct}
use Rattle.level_rows.specs.Changes.{with_row, without_row, IsWritten, IsTakenOut}
use Rattle.level_rows.proofs.Membership.{Contains-nil, Contains-here, Contains-there, Contains-cons_cases}
use Rattle.level_rows.proofs.EndLemmas.{named-parts, named-from, same_end-true, same_end-refl}

-- what is found is among the elements and passes
pub find-there : {X : Type 0} (p : X → Bool) (xs : List X) (x : X) → find p xs ≡ Some x → Contains xs x × (p x ≡ true)
find-there p [] x e = cc
find-there p (y ∷ ys) x e = by (p y) refl (find-there p ys x) e
  where
    by : (b : Bool) → p y ≡ b → (find p ys ≡ Some x → Contains ys x × (p x ≡ true)) → cond b (Some y) (find p ys) ≡ Some x → Contains (y ∷ ys) x × (p x ≡ true)
    by true is h e = let same : y ≡ x = same_Some _ _ e in (subst (Contains (y ∷ ys)) same (Contains-here y ys), ap p (sym same) ∙ is)
    by false is h e = let r = h e in (Contains-there y x ys r.0, r.1)

pub find-some : {X : Type 0} (p : X → Bool) (xs : List X) (x : X) → Contains xs x → p x ≡ true → is_some (find p xs) ≡ true
find-some p [] x there pass = absurd (Contains-nil x there)
find-some p (y ∷ ys) x there pass = by (p y) refl (λ rest. find-some p ys x rest pass)
  where
    by : (b : Bool) → p y ≡ b → (Contains ys x → is_some (find p ys) ≡ true) → is_some (cond b (Some y) (find p ys)) ≡ true
    by true is h = refl
    by false is h = elim (Contains-cons_cases y x ys there) [
      | inl same ↦ absurd (false≢true (sym is ∙ ap p same ∙ pass))
      | inr rest ↦ h rest
    ]

-- a record found by its name is among the records, and has the name
pub row-there : (table : List ℕ) (records : List TabletRecord) (end : Option (List ℕ)) (t : TabletRecord) → rows_of table records end ≡ Some t → Contains records t × (t.table ≡ table) × (t.end ≡ end)
row-there table records end t e =
    let r = find-there (is_named table end) records t e in
    let named = named-parts table end t r.1 in
    (r.0, named.0, named.1)

AllPairs-head : (t : TabletRecord) (ts : List TabletRecord) → AreDistinct (t ∷ ts) → (u : TabletRecord) → Contains ts u → t.table ≡ u.table → t.end ≡ u.end → ⊥
AllPairs-head t ts distinct u c at end =
    let lt = c.1 in
    let pair = distinct 0 (suc c.0) u (omega arith) (omega arith) in
    pair (at ∙ ap (λ (x : TabletRecord). x.table) (sym c.2)) (end ∙ ap (λ (x : TabletRecord). x.end) (sym c.2))

pub AllPairs-tail : (t : TabletRecord) (ts : List TabletRecord) → AreDistinct (t ∷ ts) → AreDistinct ts
AllPairs-tail t ts distinct = λ i j d lt below. distinct (suc i) (suc j) d (omega arith) (omega arith)

-- each of distinct records is found by its name
pub row-found : (table : List ℕ) (records : List TabletRecord) (t : TabletRecord) → AreDistinct records → Contains records t → t.table ≡ table → rows_of table records t.end ≡ Some t
row-found table [] t distinct there at = absurd (Contains-nil t there)
row-found table (u ∷ us) t distinct there at = by (is_named table t.end u) refl (λ rest. row-found table us t (AllPairs-tail u us distinct) rest at)
  where
    by : (b : Bool) → is_named table t.end u ≡ b → (Contains us t → rows_of table us t.end ≡ Some t) → cond b (Some u) (find (is_named table t.end) us) ≡ Some t
    by true is h = ap Some (elim (Contains-cons_cases u t us there) [
      | inl same ↦ same
      | inr rest ↦ (let named = named-parts table t.end u is in absurd (AllPairs-head u us distinct t rest (named.0 ∙ sym at) named.1))
    ])
    by false is h = elim (Contains-cons_cases u t us there) [
      | inl same ↦ absurd (false≢true (sym is ∙ named-from table t.end u (ap (λ (x : TabletRecord). x.table) same ∙ at) (ap (λ (x : TabletRecord). x.end) same)))
      | inr rest ↦ h rest
    ]

pub row-exactly : (table : List ℕ) (records : List TabletRecord) (t : TabletRecord) → AreDistinct records → (rows_of table records t.end ≡ Some t) ↔ (Contains records t × (t.table ≡ table))
row-exactly table records t distinct = (
  λ e. (let r = row-there table records t.end t e in (r.0, r.1)),
  λ both. row-found table records t distinct both.0 both.1,
)

-- two look-ups that find the same records at an end row are the same there
pub same_found : {X : Type 0} (o p : Option X) → ((x : X) → o ≡ Some x → p ≡ Some x) → ((x : X) → p ≡ Some x → o ≡ Some x) → o ≡ p
same_found None None to back = refl
same_found None (Some y) to back = back y refl
same_found (Some x) p to back = sym (to x refl)

module _ (table : List ℕ) (before after : List TabletRecord) (first : AreDistinct before) (second : AreDistinct after) where
  -- a record of the one is found in the other where it is there
  carried : (records others : List TabletRecord) → AreDistinct others → (end : Option (List ℕ)) → ((t : TabletRecord) → t.table ≡ table → t.end ≡ end → Contains records t → Contains others t)
      → (t : TabletRecord) → rows_of table records end ≡ Some t → rows_of table others end ≡ Some t
  carried records others distinct end keeps t e =
      let r = row-there table records end t e in
      subst (λ (x : Option (List ℕ)). rows_of table others x ≡ Some t) r.2 (row-found table others t distinct (keeps t r.1 r.2 r.0) r.1)

  pub same_row : (end : Option (List ℕ)) → ((t : TabletRecord) → t.table ≡ table → t.end ≡ end → Contains after t ↔ Contains before t) → rows_of table after end ≡ rows_of table before end
  same_row end alike = same_found (rows_of table after end) (rows_of table before end)
      (carried after before first end (λ t at is. (alike t at is).0)) (carried before after second end (λ t at is. (alike t at is).1))

-- a record written at its row
pub written-at : (t : TabletRecord) (before after : List TabletRecord) → AreDistinct before → AreDistinct after → IsWritten t before after
    → (end : Option (List ℕ)) → rows_of t.table after end ≡ with_row (rows_of t.table before) t end
written-at t before after first second w end = by (same_end end t.end) refl
  where
    by : (b : Bool) → same_end end t.end ≡ b → rows_of t.table after end ≡ cond b (Some t) (rows_of t.table before end)
    by true is = ap (rows_of t.table after) (same_end-true end t.end is) ∙ row-found t.table after t second w.there refl
    by false is = same_row t.table before after first second end (λ u at ends. w.others u (λ _ same.
        false≢true (sym is ∙ ap (λ x. same_end x t.end) (sym ends ∙ same) ∙ same_end-refl t.end)))

pub written-elsewhere : (t : TabletRecord) (before after : List TabletRecord) → AreDistinct before → AreDistinct after → IsWritten t before after
    → (table : List ℕ) → table ≢ t.table → (end : Option (List ℕ)) → rows_of table after end ≡ rows_of table before end
written-elsewhere t before after first second w table other end =
    same_row table before after first second end (λ u at ends. w.others u (λ same _. other (sym at ∙ same)))

-- a record taken out
pub gone-at : (table : List ℕ) (end_row : Option (List ℕ)) (before after : List TabletRecord) → AreDistinct before → AreDistinct after → IsTakenOut table end_row before after
    → (end : Option (List ℕ)) → rows_of table after end ≡ without_row (rows_of table before) end_row end
gone-at table end_row before after first second w end = by (same_end end end_row) refl
  where
    none : (o : Option TabletRecord) → rows_of table after end ≡ o → end ≡ end_row → o ≡ None
    none None e is = refl
    none (Some u) e is = absurd (let r = row-there table after end u e in w.gone u r.0 r.1 (r.2 ∙ is))

    by : (b : Bool) → same_end end end_row ≡ b → rows_of table after end ≡ cond b None (rows_of table before end)
    by true is = none (rows_of table after end) refl (same_end-true end end_row is)
    by false is = same_row table before after first second end (λ u at ends. w.others u (λ _ same.
        false≢true (sym is ∙ ap (λ x. same_end x end_row) (sym ends ∙ same) ∙ same_end-refl end_row)))

pub gone-elsewhere : (table : List ℕ) (end_row : Option (List ℕ)) (before after : List TabletRecord) → AreDistinct before → AreDistinct after → IsTakenOut table end_row before after
    → (other : List ℕ) → other ≢ table → (end : Option (List ℕ)) → rows_of other after end ≡ rows_of other before end
gone-elsewhere table end_row before after first second w other apart end =
    same_row other before after first second end (λ u at ends. w.others u (λ same _. apart (sym at ∙ same)))
