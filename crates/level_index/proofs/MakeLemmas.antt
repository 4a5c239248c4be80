-- What the updates of a row make of a level, by what stands there.
use Rattle.std.proofs.Common.{◌≡◌, ℕ, List, Contains, Option, Some, None, IfSome, Result, Ok, Err, [], ◌∷◌, refl, sym, ◌∙◌, ap, subst}
use Rattle.std.specs.FinMap as map
use Rattle.std.specs.Prelude.{slice_get}
use Rattle.std.specs.Result.{IfOk, OnOk}
use Rattle.std.proofs.lemmas.Option.{none-some, same_Some}
use Rattle.metadata_schema.specs.declared.mutation.Update.{Update}
use Rattle.cell_merge.specs.declared.cell.Pair.{Pair}
use Rattle.cell_merge.proofs.Membership.{Contains-here}
use Rattle.store_meaning.specs.RowWrites.{LevelRow, MayStand, place_of, columns_in}
use Rattle.state_reader.specs.declared.level.LevelKind.{LevelKind}
use Rattle.state_reader.specs.LevelRows.{IsOfKind}
use Rattle.level_index.specs.declared.entry.LevelEntry.{LevelEntry}
use Rattle.level_index.specs.declared.pending.WriteFault.{WriteFault}
use Rattle.level_index.specs.declared.pending.WriteFault.TheVariants.{NoRow, BadColumns, NoMemory}
use Rattle.level_index.specs.Entries.{LevelMap, level_of, StandsAt, IsLevelMap, IsRowOf, columns_at, entry_of}
use Rattle.level_index.specs.Value.{PreparedLevel, with_row}
use Rattle.level_index.specs.Writes.{GivesRow, GivesEntry, EntryCause, IsNoRowCause, MakesRow, MakesEntry, Prepares, WriteCause}
use Rattle.level_index.proofs.EntryLemmas.{stands_in, entry_stands}
use Rattle.level_index.proofs.LevelLemmas.{level_with}

-- the row is none, or memory wants: that is why there is no entry
pub no_row_cause : (kind : LevelKind) (columns : List Update) (row : List ℕ) (updates : List Update) (fault : WriteFault) → IsNoRowCause kind row fault → EntryCause kind columns row updates fault
no_row_cause kind columns row updates NoRow cause = cause
no_row_cause kind columns row updates BadColumns cause = absurd cause
no_row_cause kind columns row updates NoMemory cause = tt

-- nothing is given where it may be
pub if_nothing : (kind : LevelKind) (row : List ℕ) (r : Result (Option LevelEntry) WriteFault) (P : Option LevelEntry → Type 0) → IfOk r (λ found. found ≡ None) → OnOk r (IsRowOf kind row) → (IsRowOf kind row → P None) → IfOk r P
if_nothing kind row (Ok found) P none of holds = subst P (sym none) (holds of)
if_nothing kind row (Err fault) P none of holds = tt

-- ---- the first of some pairs

pub first_none : (pairs : List Pair) → slice_get pairs 0 ≡ None → pairs ≡ []
first_none [] e = refl
first_none (pair ∷ pairs) e = absurd (none-some pair (sym e))

pub first_some : (pairs : List Pair) (first : Pair) → slice_get pairs 0 ≡ Some first → Contains pairs first
first_some [] first e = absurd (none-some first e)
first_some (pair ∷ pairs) first e = subst (Contains (pair ∷ pairs)) (same_Some pair first e) (Contains-here pair pairs)

module _ (index : LevelMap) (is : IsLevelMap index.kind index.entries) (row : List ℕ) (updates : List Update) where
  columns_there : (to : LevelRow) → row ≡ place_of to → MayStand (IsOfKind index.kind) to → columns_at (map.get index.entries row) ≡ columns_in (level_of index) to
  columns_there to place form = ap (λ r. columns_at (map.get index.entries r)) place ∙ sym (stands_in index is to form)

  to_level : (to : LevelRow) → GivesRow (IsOfKind index.kind) (columns_at (map.get index.entries row)) row updates to → MakesRow (IsOfKind index.kind) (level_of index) row updates to
  to_level to gives = subst (λ c. GivesRow (IsOfKind index.kind) c row updates to) (columns_there to gives.place gives.form) gives

  from_level : (to : LevelRow) → MakesRow (IsOfKind index.kind) (level_of index) row updates to → GivesRow (IsOfKind index.kind) (columns_at (map.get index.entries row)) row updates to
  from_level to makes = subst (λ c. GivesRow (IsOfKind index.kind) c row updates to) (sym (columns_there to makes.place makes.form)) makes

  module _ (kind : LevelKind) (columns : List Update) (kind_is : kind ≡ index.kind) (columns_are : columns ≡ columns_at (map.get index.entries row)) where
    pub makes_entry : (entry : Option LevelEntry) → GivesEntry kind columns row updates entry → MakesEntry index row updates entry
    makes_entry entry gives = record {
      to = gives.to;
      makes = to_level gives.to (subst (λ k. GivesRow (IsOfKind k) (columns_at (map.get index.entries row)) row updates gives.to) kind_is (subst (λ c. GivesRow (IsOfKind kind) c row updates gives.to) columns_are gives.gives));
      is = gives.is;
    }

    pub write_cause : (fault : WriteFault) → EntryCause kind columns row updates fault → WriteCause index row updates fault
    write_cause NoRow cause = subst (λ k. IsRowOf k row → ⊥) kind_is cause
    write_cause BadColumns cause = record {
      row_of = subst (λ k. IsRowOf k row) kind_is cause.row_of;
      none = λ to makes. cause.none to (subst (λ c. GivesRow (IsOfKind kind) c row updates to) (sym columns_are) (subst (λ k. GivesRow (IsOfKind k) (columns_at (map.get index.entries row)) row updates to) (sym kind_is) (from_level to makes)));
    }
    write_cause NoMemory cause = tt

  -- the entry that is made stands at the row
  pub made_stands : (entry : Option LevelEntry) → MakesEntry index row updates entry → IfSome entry (StandsAt index.kind row)
  made_stands entry made = subst (λ o. IfSome o (StandsAt index.kind row)) (sym made.is) (subst (λ r. IfSome (entry_of made.to) (StandsAt index.kind r)) (sym made.makes.place) (entry_stands index.kind made.to made.makes.form))

  pub prepares : (entry : Option LevelEntry) → MakesEntry index row updates entry → (prepared : PreparedLevel) → prepared.before ≡ index → prepared.after ≡ with_row index row entry → Prepares index row updates prepared
  prepares entry made prepared before after = record {
    before = before;
    kind = ap (λ (m : LevelMap). m.kind) after;
    to = made.to;
    makes = made.makes;
    level = ap level_of (after ∙ (λ i. with_row index (made.makes.place i) (made.is i))) ∙ level_with index is made.to made.makes.form;
  }
