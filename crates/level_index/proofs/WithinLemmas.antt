-- The cells of one row tell of it what all cells do.
use Rattle.std.proofs.Common.{◌≡◌, ◌≢◌, ◌↔◌, ℕ, Bool, true, false, cond, List, [], ◌∷◌, Contains, Option, Some, None, refl, sym, ◌∙◌, ap, subst}
use Rattle.std.specs.List.{filter}
use Rattle.std.specs.Option.{option_and_then}
use Rattle.std.proofs.lemmas.Bool.{false≢true}
use Rattle.std.proofs.lemmas.Option.{none-some}
use Rattle.row_keys.specs.declared.key.Key.{Key}
use Rattle.metadata_schema.specs.declared.mutation.Update.{Update}
use Rattle.metadata_schema.specs.Bytes.{same}
use Rattle.cell_merge.specs.declared.cell.Cell.{Cell}
use Rattle.cell_merge.specs.declared.cell.Pair.{Pair}
use Rattle.cell_merge.specs.Newest.{is_same_key, later, latest, newest_at, IsNewest}
use Rattle.cell_merge.proofs.KeyLemmas.{same_key-true}
use Rattle.level_rows.proofs.EndLemmas.{same-true, same-itself}
use Rattle.store_meaning.specs.Levels.{SpellsRow}
use Rattle.store_meaning.proofs.RowLemmas.{key_at}
use Rattle.state_reader.specs.Columns.{AreInOrder}
use Rattle.state_reader.specs.declared.level.LevelKind.{LevelKind}
use Rattle.state_reader.specs.declared.level.LevelFault.{LevelFault}
use Rattle.state_reader.specs.declared.level.LevelFault.TheVariants.{Bad, NoMemory}
use Rattle.state_reader.specs.declared.level.BadRow.TheVariants.{Tablet, Candidate, Flag}
use Rattle.state_reader.specs.LevelRows.{LevelCause}

-- the cells of the row
abbrev pub within : List ℕ → List Cell → List Cell
within row cells = filter (λ cell. same cell.key.row row) cells

pub latest-within : (row : List ℕ) (cells : List Cell) (k : Key) → k.row ≡ row → latest (within row cells) k ≡ latest cells k
latest-within row [] k at = refl
latest-within row (c ∷ cs) k at = by (same c.key.row row) (is_same_key c.key k) refl refl (latest-within row cs k at)
  where
    by : (b e : Bool) → same c.key.row row ≡ b → is_same_key c.key k ≡ e → latest (within row cs) k ≡ latest cs k → latest (cond b (c ∷ within row cs) (within row cs)) k ≡ later (cond e (Some c) None) (latest cs k)
    by true e p q h = ap (λ t. later (cond t (Some c) None) (latest (within row cs) k)) q ∙ ap (later (cond e (Some c) None)) h
    by false true p q h = absurd (false≢true (sym p ∙ same-itself c.key.row row (ap (λ (x : Key). x.row) (same_key-true c.key k q) ∙ at)))
    by false false p q h = h

pub latest-beside : (row : List ℕ) (cells : List Cell) (k : Key) → k.row ≢ row → latest (within row cells) k ≡ None
latest-beside row [] k apart = refl
latest-beside row (c ∷ cs) k apart = by (same c.key.row row) refl (latest-beside row cs k apart)
  where
    at_key : (e : Bool) → same c.key.row row ≡ true → is_same_key c.key k ≡ e → latest (within row cs) k ≡ None → later (cond e (Some c) None) (latest (within row cs) k) ≡ None
    at_key true p q h = absurd (apart (ap (λ (x : Key). x.row) (sym (same_key-true c.key k q)) ∙ same-true c.key.row row p))
    at_key false p q h = h

    by : (b : Bool) → same c.key.row row ≡ b → latest (within row cs) k ≡ None → latest (cond b (c ∷ within row cs) (within row cs)) k ≡ None
    by true p h = at_key (is_same_key c.key k) p refl h
    by false p h = h

value_of : Option Cell → Option (List ℕ)
value_of o = option_and_then (λ cell. cell.value) o

pub spells-within : (row : List ℕ) (cells : List Cell) (columns : List Update) → SpellsRow (within row cells) row columns ↔ SpellsRow cells row columns
unfolding value_of
spells-within row cells columns = (
  λ spells. record { each = λ family qualifier. sym (ap value_of (latest-within row cells (key_at row family qualifier) refl)) ∙ spells.each family qualifier },
  λ spells. record { each = λ family qualifier. ap value_of (latest-within row cells (key_at row family qualifier) refl) ∙ spells.each family qualifier },
)

pub spells-beside : (row other : List ℕ) (cells : List Cell) → other ≢ row → SpellsRow (within row cells) other []
unfolding value_of
spells-beside row other cells apart = record { each = λ family qualifier. ap value_of (latest-beside row cells (key_at other family qualifier) apart) }

-- the pairs of the row
pub record AreRowPairs (row : List ℕ) (pairs group : List Pair) : Type 0 where
  pub rising : AreInOrder group
  pub each : (pair : Pair) → Contains group pair ↔ (Contains pairs pair × (pair.key.row ≡ row))

pub newest-within : (row : List ℕ) (cells : List Cell) (pairs group : List Pair) → IsNewest cells pairs → AreRowPairs row pairs group → IsNewest (within row cells) group
unfolding value_of
newest-within row cells pairs group newest are = record {
  rising = are.rising;
  each = λ pair. (
    λ there. (let both = (are.each pair).0 there in ap value_of (latest-within row cells pair.key both.1) ∙ (newest.each pair).0 both.0),
    λ e. back pair e (same pair.key.row row) refl,
  );
}
  where
    back : (pair : Pair) → newest_at (within row cells) pair.key ≡ Some pair.value → (b : Bool) → same pair.key.row row ≡ b → Contains group pair
    back pair e true at =
        let row_is = same-true pair.key.row row at in
        (are.each pair).1 ((newest.each pair).1 (sym (ap value_of (latest-within row cells pair.key row_is)) ∙ e), row_is)
    back pair e false at = absurd (none-some pair.value (sym (ap value_of (latest-beside row cells pair.key (λ row_is. false≢true (sym at ∙ same-itself pair.key.row row row_is)))) ∙ e))

-- why a row tells of nothing is the same of all cells
module _ (kind : LevelKind) (row : List ℕ) (cells : List Cell) where
  -- what the cells of the row spell at any row, or nothing
  excluded : (other : List ℕ) (columns : List Update) → (SpellsRow (within row cells) other [] → ⊥) → (SpellsRow (within row cells) other columns → ⊥) → SpellsRow cells other columns → ⊥
  excluded other columns none refuses spells = by (same other row) refl
    where
      by : (b : Bool) → same other row ≡ b → ⊥
      by true at =
          let row_is = same-true other row at in
          refuses (subst (λ r. SpellsRow (within row cells) r columns) (sym row_is) ((spells-within row cells columns).1 (subst (λ r. SpellsRow cells r columns) row_is spells)))
      by false at = none (spells-beside row other cells (λ row_is. false≢true (sym at ∙ same-itself other row row_is)))

  pub cause-within : (fault : LevelFault) → LevelCause kind (within row cells) fault → LevelCause kind cells fault
  cause-within (Bad (Tablet at)) bad = record {
    table = bad.table;
    end = bad.end;
    of = bad.of;
    named = bad.named;
    none = λ tablet form spells. excluded at _ (bad.none None tt) (bad.none tablet form) spells;
  }
  cause-within (Bad (Candidate at)) bad = record {
    path = bad.path;
    place = bad.place;
    none = λ is_there form spells. excluded at _ (bad.none false (λ (e : false ≡ true). cc)) (bad.none is_there form) spells;
  }
  cause-within (Bad (Flag at)) bad = record {
    path = bad.path;
    place = bad.place;
    none = λ flag form spells. excluded at _ (bad.none None tt) (bad.none flag form) spells;
  }
  cause-within NoMemory bad = tt
