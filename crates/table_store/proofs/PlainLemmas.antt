-- Tables and the plain states that they stand for, there and back.
use Rattle.std.proofs.Common.{◌≡◌, inl, inr, ⊎_elim, List, [], ◌∷◌, ℕ, map as mapped, Option, Some, None, refl, sym, ◌∙◌, ap}
use Rattle.std.specs.Cmp.Lexicographic.{nat_list_cmp_total}
use Rattle.std.specs.FinMap as map
use Rattle.std.specs.FinMap.{find, get-entries, get-from_entries, entries_sorted}
use Rattle.node_store.specs.PathsTo.{path_cmp}
use Rattle.node_store.proofs.PathMaps.{same_paths}
use Rattle.plain_model.specs.State.{Table}
use Rattle.table_store.specs.Tables.{ByName, Tables, AreDrawn, bare, plain_of, ids_by_name, texts_of, table_texts, plain_texts}
use Rattle.table_store.proofs.LawsLemmas.{In, in_find, in_found, find_in, plain_from, stands}

-- an id for a name, as an entry of the index
abbrev named : List (List ℕ × Table) → List (List ℕ × List ℕ)
named es = mapped (λ e. (e.1.name, e.0)) es

in_named : (id : List ℕ) (table : Table) (es : List (List ℕ × Table)) → In id table es → In table.name id (named es)
in_named id table [] among = among
in_named id table (e ∷ es) among = ⊎_elim (λ same. inl (ap (λ (t : Table). t.name) same.1, same.0)) (λ later. inr (in_named id table es later)) among

in_back : (name id : List ℕ) (es : List (List ℕ × Table)) → In name id (named es) → (table : Table) × In id table es × (table.name ≡ name)
in_back name id [] among = absurd among
in_back name id (e ∷ es) among = ⊎_elim
    (λ same. (e.1, inl (same.1, refl), same.0))
    (λ later. let found = in_back name id es later in (found.0, inr found.1, found.2))
    among

module _ (tables : Tables) (ids : AreDrawn tables) where
  abbrev index : ByName
  index = ids_by_name (plain_of tables)

  abbrev listed : List (List ℕ × Table)
  listed = map.entries (plain_of tables).tables

  get_index : (name : List ℕ) → map.get index name ≡ find path_cmp name (named listed)
  get_index name = get-from_entries nat_list_cmp_total (named listed) name

  from : (name id : List ℕ) → map.get index name ≡ Some id → map.get tables.by_name name ≡ Some id
  from name id is =
      let there = in_back name id listed (in_find name id (named listed) (sym (get_index name) ∙ is)) in
      let found = get-entries (plain_of tables).tables id ∙ find_in id there.0 listed (entries_sorted (plain_of tables).tables) there.1 in
      ap (λ n. map.get tables.by_name n) (sym there.2) ∙ (plain_from tables id there.0 found).0

  to : (name id : List ℕ) → map.get tables.by_name name ≡ Some id → map.get index name ≡ Some id
  to name id is = at (map.get index name) refl
    where
      among : In name id (named listed)
      among = in_named id (bare name) listed (in_find id (bare name) listed (sym (get-entries (plain_of tables).tables id) ∙ stands tables ids name id is))

      at : (o : Option (List ℕ)) → map.get index name ≡ o → map.get index name ≡ Some id
      at None none = absurd (in_found name id (named listed) among (sym (get_index name) ∙ none))
      at (Some other) some = some ∙ sym (from name other some) ∙ is

  each : (name : List ℕ) → map.get index name ≡ map.get tables.by_name name
  each name = at (map.get index name) (map.get tables.by_name name) refl refl
    where
      at : (p q : Option (List ℕ)) → map.get index name ≡ p → map.get tables.by_name name ≡ q → map.get index name ≡ map.get tables.by_name name
      at (Some id) q is other = is ∙ sym (from name id is)
      at None None is other = is ∙ sym other
      at None (Some id) is other = to name id other ∙ sym other

  -- the names and ids of tables are those of the plain state
  pub index_is : index ≡ tables.by_name
  index_is = same_paths index tables.by_name each

pub texts_plain : (tables : Tables) → AreDrawn tables → plain_texts (plain_of tables) ≡ table_texts tables
texts_plain tables ids = ap (λ names. texts_of (map.entries names)) (index_is tables ids)
