-- The plain state: its tables, and the files that wait to be imported.
use Rattle.std.specs.Prelude.{ℕ, Bool, List, [], ◌∷◌, refl}
use Rattle.std.specs.Coded.{Coded, code_by, coded×, coded_list, coded_ℕ}
use base.Stored.{coded_unit}
use Rattle.std.specs.FinMap as map
use Rattle.row_keys.specs.declared.key.Key.{Key}
use Rattle.row_keys.specs.Keys.{key_cmp}
use Rattle.row_keys.specs.RowOrder.{bytes_cmp}

-- the rows at which a table is split: a finite map from each to nothing
abbrev pub PointSet : Type 0
PointSet = map.FinMap bytes_cmp (Unit {0})

-- a value for each key
abbrev pub PairMap : Type 0
PairMap = map.FinMap key_cmp (List ℕ)

-- a table: its name, the rows at which it is split, and its pairs
pub record Table : Type 0 where
  pub name : List ℕ
  pub points : PointSet
  pub pairs : PairMap

-- all that operations read and change
pub record PlainState : Type 0 where
  -- by id
  pub tables : map.FinMap bytes_cmp Table
  -- the staged files, by name
  pub staged : map.FinMap bytes_cmp PairMap

-- no tables and no files
abbrev pub nothing : PlainState
nothing = record { tables = map.empty; staged = map.empty }

-- whether a table is split at the row
abbrev pub has_point : PointSet → List ℕ → Bool
has_point points row = map.contains_key points row

-- this row, too
abbrev pub with_point : PointSet → List ℕ → PointSet
with_point points row = map.insert points row tt

-- these rows, too
abbrev pub with_points : List (List ℕ) → PointSet → PointSet
with_points [] points = points
with_points (row ∷ more) points = with_points more (with_point points row)

-- ---- how these are stored as values

abbrev pub bytes_code : Coded (List ℕ)
bytes_code = coded_list coded_ℕ

abbrev pub key_code : Coded Key
key_code = code_by (List ℕ × (List ℕ × List ℕ)) (coded× bytes_code (coded× bytes_code bytes_code))
    (λ k. (k.row, (k.family, k.qualifier))) (λ p. record { row = p.0; family = p.1.0; qualifier = p.1.1 }) (λ _. refl)

abbrev pub pairs_code : Coded PairMap
pairs_code = map.code key_code bytes_code

abbrev pub table_code : Coded Table
table_code = code_by (List ℕ × (PointSet × PairMap)) (coded× bytes_code (coded× (map.code bytes_code coded_unit) pairs_code))
    (λ t. (t.name, (t.points, t.pairs))) (λ p. record { name = p.0; points = p.1.0; pairs = p.1.1 }) (λ _. refl)

abbrev pub state_code : Coded PlainState
state_code = code_by (map.FinMap bytes_cmp Table × map.FinMap bytes_cmp PairMap) (coded× (map.code bytes_code table_code) (map.code bytes_code pairs_code))
    (λ s. (s.tables, s.staged)) (λ p. record { tables = p.0; staged = p.1 }) (λ _. refl)
