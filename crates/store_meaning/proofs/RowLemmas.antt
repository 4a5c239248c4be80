-- What the newest of a record's cells are at its row, and elsewhere.
use Rattle.std.proofs.Common.{◌≡◌, ◌≢◌, inl, inr, ℕ, Bool, true, false, cond, List, [], ◌∷◌, map, Option, Some, None, refl, sym, ◌∙◌, ap, arith, ltb}
use Rattle.std.specs.Option.{option_map, option_and_then, option_flatten}
use Rattle.std.proofs.lemmas.Bool.{cases_Bool, and_parts, and_from, ltb-true}
use Rattle.row_keys.specs.declared.key.Key.{Key}
use Rattle.metadata_schema.specs.declared.mutation.Update.{Update}
use Rattle.metadata_schema.specs.Bytes.{same}
use Rattle.metadata_schema.specs.Columns.{is_named, update_at, column_at}
use Rattle.cell_merge.specs.declared.cell.Cell.{Cell}
use Rattle.cell_merge.specs.Newest.{is_same_key, later, latest}
use Rattle.cell_merge.proofs.KeyLemmas.{same_key-true, same_key-same}
use Rattle.level_rows.proofs.EndLemmas.{same-true, same-itself}
use Rattle.store_layout.specs.NewStore.{cell_of}

abbrev pub key_at : List ℕ → List ℕ → List ℕ → Key
key_at row family qualifier = record { row = row; family = family; qualifier = qualifier }

-- the cell that gives a column this value
abbrev pub given : List ℕ → ℕ → List ℕ → List ℕ → Option (List ℕ) → Cell
given row time family qualifier value = cell_of row time (record { family = family; qualifier = qualifier; value = value })

same_column : (row family qualifier : List ℕ) (update : Update) → is_same_key (key_at row update.family update.qualifier) (key_at row family qualifier) ≡ is_named family qualifier update
same_column row family qualifier update = by (is_named family qualifier update) refl
  where
    by : (b : Bool) → is_named family qualifier update ≡ b → is_same_key (key_at row update.family update.qualifier) (key_at row family qualifier) ≡ b
    by true e =
        let parts = and_parts (same update.family family) (same update.qualifier qualifier) e in
        let one = same-true _ _ parts.0 in
        let two = same-true _ _ parts.1 in
        same_key-same (key_at row update.family update.qualifier) (key_at row family qualifier) (λ i. key_at row (one i) (two i))
    by false e = elim (cases_Bool (is_same_key (key_at row update.family update.qualifier) (key_at row family qualifier))) [
      | inl is ↦ absurd (
          let k = same_key-true (key_at row update.family update.qualifier) (key_at row family qualifier) is in
          let right : is_named family qualifier update ≡ true = and_from (same update.family family) (same update.qualifier qualifier) (same-itself _ _ (ap (λ key. key.family) k)) (same-itself _ _ (ap (λ key. key.qualifier) k)) in
          let wrong : true ≡ false = sym right ∙ e in
          cc)
      | inr is ↦ is
    ]

-- of cells of one time the first counts
first_counts : (row : List ℕ) (time : ℕ) (update : Update) (family qualifier : List ℕ) (o : Option (Option (List ℕ))) → later (Some (cell_of row time update)) (option_map (given row time family qualifier) o) ≡ Some (cell_of row time update)
first_counts row time update family qualifier None = refl
first_counts row time update family qualifier (Some v) = by (ltb time time) refl
  where
    by : (b : Bool) → ltb time time ≡ b → cond b (Some (given row time family qualifier v)) (Some (cell_of row time update)) ≡ Some (cell_of row time update)
    by true e = absurd (let less = ltb-true time time e in omega (arith, less))
    by false e = refl

pub own_latest : (row : List ℕ) (time : ℕ) (updates : List Update) (family qualifier : List ℕ)
    → latest (map (cell_of row time) updates) (key_at row family qualifier) ≡ option_map (given row time family qualifier) (update_at updates family qualifier)
own_latest row time [] family qualifier = refl
own_latest row time (u ∷ us) family qualifier =
    ap (λ b. later (cond b (Some (cell_of row time u)) None) (latest (map (cell_of row time) us) (key_at row family qualifier))) (same_column row family qualifier u)
    ∙ ap (later (cond (is_named family qualifier u) (Some (cell_of row time u)) None)) (own_latest row time us family qualifier)
    ∙ by (is_named family qualifier u) refl
  where
    by : (b : Bool) → is_named family qualifier u ≡ b
        → later (cond b (Some (cell_of row time u)) None) (option_map (given row time family qualifier) (update_at us family qualifier)) ≡ option_map (given row time family qualifier) (cond b (Some u.value) (update_at us family qualifier))
    by true e =
        let parts = and_parts (same u.family family) (same u.qualifier qualifier) e in
        let one = same-true _ _ parts.0 in
        let two = same-true _ _ parts.1 in
        first_counts row time u family qualifier (update_at us family qualifier) ∙ (λ i. Some (given row time (one i) (two i) u.value))
    by false e = refl

-- at a record's row the cells give its columns
pub own_columns : (row : List ℕ) (time : ℕ) (updates : List Update) (family qualifier : List ℕ)
    → option_and_then (λ cell. cell.value) (latest (map (cell_of row time) updates) (key_at row family qualifier)) ≡ column_at updates family qualifier
own_columns row time updates family qualifier = ap (option_and_then (λ (cell : Cell). cell.value)) (own_latest row time updates family qualifier) ∙ by (update_at updates family qualifier)
  where
    by : (o : Option (Option (List ℕ))) → option_and_then (λ cell. cell.value) (option_map (given row time family qualifier) o) ≡ option_flatten o
    by None = refl
    by (Some None) = refl
    by (Some (Some v)) = refl

-- at another row they give nothing
pub other_latest : (row : List ℕ) (time : ℕ) (other : List ℕ) (updates : List Update) (family qualifier : List ℕ) → other ≢ row → latest (map (cell_of row time) updates) (key_at other family qualifier) ≡ None
other_latest row time other [] family qualifier apart = refl
other_latest row time other (u ∷ us) family qualifier apart = ap (λ b. later (cond b (Some (cell_of row time u)) None) (latest (map (cell_of row time) us) (key_at other family qualifier))) fails ∙ other_latest row time other us family qualifier apart
  where
    fails : is_same_key (key_at row u.family u.qualifier) (key_at other family qualifier) ≡ false
    fails = elim (cases_Bool (is_same_key (key_at row u.family u.qualifier) (key_at other family qualifier))) [
      | inl is ↦ absurd (apart (sym (ap (λ key. key.row) (same_key-true (key_at row u.family u.qualifier) (key_at other family qualifier) is))))
      | inr is ↦ is
    ]

pub later-none : (o : Option Cell) → later o None ≡ o
later-none None = refl
later-none (Some cell) = refl
