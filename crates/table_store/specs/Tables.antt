-- The tables of a store, by name, and the number of the next one.
use Rattle.std.specs.Prelude.{◌≡◌, ℕ, ◌+◌, Bool, List, ◌∷◌, ◌++◌, map as mapped, Some}
use Rattle.std.specs.Ordering.{nat_cmp}
use Rattle.std.specs.Cmp.Lexicographic.{slice_cmp}
use Rattle.std.specs.FinMap as map
use Rattle.plain_model.specs.State.{PlainState, Table}
use Rattle.table_store.specs.Numbers.{base36, IsDrawn}

-- the id of each table, by its name
abbrev pub ByName : Type 0
ByName = map.FinMap (slice_cmp nat_cmp) (List ℕ)

pub record Tables : Type 0 where
  pub by_name : ByName
  -- the number that the next table's id spells
  pub next : ℕ

abbrev pub no_tables : Tables
no_tables = record { by_name = map.empty; next = 1 }

-- a table without split points and pairs
abbrev pub bare : List ℕ → Table
bare name = record { name = name; points = map.empty; pairs = map.empty }

-- the plain state that these tables make up: each has its name alone
abbrev pub plain_of : Tables → PlainState
plain_of tables = record { tables = map.from_entries (mapped (λ e. (e.1, bare e.0)) (map.entries tables.by_name)); staged = map.empty }

abbrev pub is_taken : List ℕ → Tables → Bool
is_taken name tables = map.contains_key tables.by_name name

-- the tables with one more, under the next number
abbrev pub created : List ℕ → Tables → Tables
created name tables = record { by_name = map.insert tables.by_name name (base36 tables.next); next = tables.next + 1 }

-- each id was drawn, and none stands twice
pub record AreDrawn (tables : Tables) : Type 0 where
  pub drawn : (name id : List ℕ) → map.get tables.by_name name ≡ Some id → IsDrawn tables.next id
  pub differ : (one two id : List ℕ) → map.get tables.by_name one ≡ Some id → map.get tables.by_name two ≡ Some id → one ≡ two

-- `NAME ID`
abbrev pub text_of : List ℕ → List ℕ → List ℕ
text_of name id = name ++ 32 ∷ id

abbrev pub texts_of : List (List ℕ × List ℕ) → List (List ℕ)
texts_of entries = mapped (λ e. text_of e.0 e.1) entries

-- a text for each table, in byte order of their names
abbrev pub table_texts : Tables → List (List ℕ)
table_texts tables = texts_of (map.entries tables.by_name)

-- the ids of the tables of a plain state, by their names
abbrev pub ids_by_name : PlainState → ByName
ids_by_name state = map.from_entries (mapped (λ e. (e.1.name, e.0)) (map.entries state.tables))

-- a text for each table of a plain state, in byte order of their names
abbrev pub plain_texts : PlainState → List (List ℕ)
plain_texts state = texts_of (map.entries (ids_by_name state))
