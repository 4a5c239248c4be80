-- What cells make of the pairs of a table, and of the plain state.
use Rattle.std.proofs.Common.{◌≡◌, inl, inr, ℕ, Bool, true, false, cond, List, [], ◌∷◌, map, Option, Some, None, Contains, refl, sym, ◌∙◌, ap, arith, ltb}
use Rattle.std.specs.Prelude.{Ok, Err}
use Rattle.std.specs.FinMap as map_of
use Rattle.std.specs.FinMap.{get-insert, get-remove}
use Rattle.std.specs.Option.{option_map_or}
use Rattle.std.proofs.lemmas.Bool.{cases_Bool, ltb-true}
use Rattle.row_keys.specs.declared.key.Key.{Key}
use Rattle.plain_model.specs.State.{PairMap, Table, PlainState}
use Rattle.plain_model.specs.declared.operation.Op.TheVariants.{Insert, Remove}
use Rattle.plain_model.specs.declared.stop.PlainStop.TheVariants.{NoTable}
use Rattle.plain_model.specs.Apply.{put_table, apply}
use Rattle.metadata_schema.specs.declared.mutation.Mutation.{Mutation}
use Rattle.metadata_schema.specs.declared.mutation.Update.{Update}
use Rattle.cell_merge.specs.declared.cell.Cell.{Cell}
use Rattle.cell_merge.specs.Newest.{is_same_key, later, latest}
use Rattle.cell_merge.specs.Changes.{overlaid}
use Rattle.cell_merge.proofs.KeyLemmas.{key_cmp_total, same_key-true, same_key-same}
use Rattle.cell_merge.proofs.LatestLemmas.{latest-some}
use Rattle.level_rows.proofs.Membership.{Contains-here, Contains-there}
use Rattle.store_layout.specs.NewStore.{cell_of}
use Rattle.store_meaning.specs.Content.{cells_of_mutation}
use Rattle.store_meaning.proofs.ContentLemmas.{of_mutation}
use Rattle.kept_meaning.specs.Puts.{with_cell, with_cells, state_with}

-- ---- pairs

same_key-back : (a b : Key) → is_same_key a b ≡ is_same_key b a
same_key-back a b = elim (cases_Bool (is_same_key b a)) [
  | inl is ↦ same_key-same a b (sym (same_key-true b a is)) ∙ sym is
  | inr is ↦ elim (cases_Bool (is_same_key a b)) [
    | inl too ↦ absurd (let wrong : true ≡ false = sym (same_key-same b a (sym (same_key-true a b too))) ∙ is in cc)
    | inr too ↦ too ∙ sym is
  ]
]

-- one cell is put
with_cell-get : (cell : Cell) (pairs : PairMap) (key : Key) → map_of.get (with_cell cell pairs) key ≡ cond (is_same_key cell.key key) cell.value (map_of.get pairs key)
with_cell-get cell pairs key = by cell.value ∙ ap (λ b. cond b cell.value (map_of.get pairs key)) (same_key-back key cell.key)
  where
    by : (value : Option (List ℕ)) → map_of.get (option_map_or (λ v. map_of.insert pairs cell.key v) value (map_of.remove pairs cell.key)) key ≡ cond (is_same_key key cell.key) value (map_of.get pairs key)
    by None = get-remove key_cmp_total pairs cell.key key
    by (Some v) = get-insert key_cmp_total pairs cell.key v key

-- all of them are put, where all are of one time
with_cells-get : (time : ℕ) (cells : List Cell) → ((cell : Cell) → Contains cells cell → cell.time ≡ time) → (pairs : PairMap) (key : Key) → map_of.get (with_cells cells pairs) key ≡ overlaid (latest cells key) (map_of.get pairs key)
with_cells-get time [] at pairs key = refl
with_cells-get time (cell ∷ cells) at pairs key =
    with_cell-get cell (with_cells cells pairs) key
    ∙ ap (cond (is_same_key cell.key key) cell.value) (with_cells-get time cells (λ other there. at other (Contains-there cell other cells there)) pairs key)
    ∙ by (is_same_key cell.key key) (latest cells key) refl
  where
    by : (b : Bool) (o : Option Cell) → latest cells key ≡ o → cond b cell.value (overlaid o (map_of.get pairs key)) ≡ overlaid (later (cond b (Some cell) None) o) (map_of.get pairs key)
    by true None e = refl
    by true (Some other) e = earlier (ltb cell.time other.time) refl
      where
        earlier : (b : Bool) → ltb cell.time other.time ≡ b → cell.value ≡ overlaid (cond b (Some other) (Some cell)) (map_of.get pairs key)
        earlier true less = absurd (
            let first = at cell (Contains-here cell cells) in
            let second = at other (Contains-there cell other cells (latest-some cells key other e).there) in
            let lt = ltb-true _ _ less in
            omega (arith, first, second, lt))
        earlier false less = refl
    by false None e = refl
    by false (Some other) e = refl

pub mutation_pairs : (mutation : Mutation) (pairs : PairMap) (key : Key) → map_of.get (with_cells (cells_of_mutation mutation) pairs) key ≡ overlaid (latest (cells_of_mutation mutation) key) (map_of.get pairs key)
mutation_pairs mutation = with_cells-get mutation.time (cells_of_mutation mutation) (λ cell there. (of_mutation mutation cell there).1)

-- ---- the state

module _ (state : PlainState) (id : List ℕ) (cells : List Cell) where
  abbrev pub put_in : Table → PlainState
  put_in table = put_table id (record table { pairs = with_cells cells table.pairs }) state

  pub state_there : (table : Table) → map_of.get state.tables id ≡ Some table → state_with id cells state ≡ put_in table
  state_there table e = ap (λ o. option_map_or put_in o state) e

  pub state_none : map_of.get state.tables id ≡ None → state_with id cells state ≡ state
  state_none e = ap (λ o. option_map_or put_in o state) e

-- ---- one update

module _ (state : PlainState) (mutation : Mutation) (table : Table) (update : Update) (there : map_of.get state.tables mutation.table ≡ Some table) (one : mutation.updates ≡ update ∷ []) where
  abbrev key : Key
  key = record { row = mutation.row; family = update.family; qualifier = update.qualifier }

  abbrev cell_with : Option (List ℕ) → Cell
  cell_with value = record { key = key; time = mutation.time; value = value }

  cells_are : (value : Option (List ℕ)) → update.value ≡ value → cells_of_mutation mutation ≡ cell_with value ∷ []
  cells_are value is = ap (map (cell_of mutation.row mutation.time)) one ∙ ap (λ v. cell_with v ∷ []) is

  made : (value : Option (List ℕ)) → update.value ≡ value → state_with mutation.table (cells_of_mutation mutation) state ≡ put_table mutation.table (record table { pairs = with_cell (cell_with value) table.pairs }) state
  made value is = ap (λ cells. state_with mutation.table cells state) (cells_are value is) ∙ state_there state mutation.table (cell_with value ∷ []) table there

  pub inserted : (value : List ℕ) → update.value ≡ Some value → apply (Insert mutation.table (record { key = key; value = value })) state ≡ Ok (state_with mutation.table (cells_of_mutation mutation) state)
  inserted value is =
      ap (λ o. option_map_or (λ t. Ok (put_table mutation.table (record t { pairs = map_of.insert t.pairs key value }) state)) o (Err NoTable)) there
      ∙ ap Ok (sym (made (Some value) is))

  pub removed : update.value ≡ None → apply (Remove mutation.table key) state ≡ Ok (state_with mutation.table (cells_of_mutation mutation) state)
  removed is =
      ap (λ o. option_map_or (λ t. Ok (put_table mutation.table (record t { pairs = map_of.remove t.pairs key }) state)) o (Err NoTable)) there
      ∙ ap Ok (sym (made None is))
