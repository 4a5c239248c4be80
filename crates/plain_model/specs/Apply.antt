-- What each operation makes of the plain state: a state, or the first refusal that holds.
use Rattle.std.specs.Prelude.{ℕ, Bool, true, not, ◌&&◌, if◌then◌else◌, nat_eq, List, [], ◌∷◌, map as mapped, Option, Some, None, Result, Ok, Err}
use Rattle.std.specs.List.{list_any}
use Rattle.std.specs.Option.{option_map_or}
use Rattle.std.specs.Result.{result_map_both}
use Rattle.std.specs.Cmp.Lexicographic.{pointwise}
use Rattle.std.specs.FinMap as map
use Rattle.row_keys.specs.declared.key.Key.{Key}
use Rattle.row_keys.specs.RowOrder.{bytes_cmp, is_below, is_above, is_within, is_interval}
use Rattle.plain_model.specs.declared.operation.Op.{Op}
use Rattle.plain_model.specs.declared.operation.Op.TheVariants.{Create, Delete, Rename, Split, Merge, DeleteRows, Import, Clone, Insert, Remove, Stage}
use Rattle.plain_model.specs.declared.operation.Pair.{Pair}
use Rattle.plain_model.specs.declared.stop.PlainStop.{PlainStop}
use Rattle.plain_model.specs.declared.stop.PlainStop.TheVariants.{NoTable, Exists, NoStaged, BadRange}
use Rattle.plain_model.specs.State.{PointSet, has_point, with_point, with_points, PairMap, Table, PlainState}

-- what comes of an operation
abbrev pub Outcome : Type 0
Outcome = Result PlainState PlainStop

-- some table has the name
abbrev pub has_name : List ℕ → PlainState → Bool
has_name name s = list_any (λ table. pointwise nat_eq name table.name) (map.values s.tables)

-- the table stands at the id
abbrev pub put_table : List ℕ → Table → PlainState → PlainState
put_table id table s = record s { tables = map.insert s.tables id table }

-- what `make` makes of the table of this id; NoTable where there is none
abbrev pub at_table : List ℕ → PlainState → (Table → Outcome) → Outcome
at_table id s make = option_map_or make (map.get s.tables id) (Err NoTable)

-- the table of this id gives way to what `make` makes of it
abbrev pub change_table : List ℕ → PlainState → (Table → Result Table PlainStop) → Outcome
change_table id s make = at_table id s (λ table. result_map_both (λ changed. put_table id changed s) (λ refusal. refusal) (make table))

-- below the bound; one that isn't there is no limit
abbrev pub is_under : Option (List ℕ) → List ℕ → Bool
is_under None row = true
is_under (Some high) row = is_below row high

-- the points above `from` and below `to` go
abbrev pub points_outside : Option (List ℕ) → Option (List ℕ) → PointSet → PointSet
points_outside from to points = map.retain_keys points (λ point. not (is_above from point && is_under to point))

-- the pairs of the rows in (from, to] go
abbrev pub pairs_outside : Option (List ℕ) → Option (List ℕ) → PairMap → PairMap
pairs_outside from to pairs = map.retain_keys pairs (λ key. not (is_within from to key.row))

-- these are put in their order: a later one over an earlier one
abbrev pub put_all : List (Key × List ℕ) → PairMap → PairMap
put_all [] pairs = pairs
put_all (entry ∷ more) pairs = put_all more (map.insert pairs entry.0 entry.1)

-- each key with its value
abbrev pub entries_of : List Pair → List (Key × List ℕ)
entries_of pairs = mapped (λ pair. (pair.key, pair.value)) pairs

-- the pairs of the staged files of these names are put, file after file; none where a name isn't staged
abbrev pub put_files : List (List ℕ) → map.FinMap bytes_cmp PairMap → PairMap → Option PairMap
put_files [] staged pairs = Some pairs
put_files (name ∷ more) staged pairs = option_map_or (λ file. put_files more staged (put_all (map.entries file) pairs)) (map.get staged name) None

-- one equation for each operation; `if` and `at_table` stand in the order in which refusals are tried
abbrev pub apply : Op → PlainState → Outcome
apply (Create id name splits) s = if has_name name s then Err Exists else Ok (put_table id (record { name = name; points = with_points splits map.empty; pairs = map.empty }) s)
apply (Delete id) s = at_table id s (λ table. Ok (record s { tables = map.remove s.tables id }))
apply (Rename id name) s = change_table id s (λ table. if has_name name s then Err Exists else Ok (record table { name = name }))
apply (Split id at) s = change_table id s (λ table. if has_point table.points at then Err Exists else Ok (record table { points = with_point table.points at }))
apply (Merge id from to) s = change_table id s (λ table. if is_interval from to then Ok (record table { points = points_outside from to table.points }) else Err BadRange)
apply (DeleteRows id from to) s = change_table id s (λ table. if is_interval from to then Ok (record table { points = points_outside from to table.points; pairs = pairs_outside from to table.pairs }) else Err BadRange)
apply (Import id names) s = change_table id s (λ table. option_map_or (λ pairs. Ok (record table { pairs = pairs })) (put_files names s.staged table.pairs) (Err NoStaged))
apply (Clone id new_id name) s = at_table id s (λ table. if has_name name s then Err Exists else Ok (put_table new_id (record table { name = name }) s))
apply (Insert id pair) s = change_table id s (λ table. Ok (record table { pairs = map.insert table.pairs pair.key pair.value }))
apply (Remove id key) s = change_table id s (λ table. Ok (record table { pairs = map.remove table.pairs key }))
apply (Stage name pairs) s = if map.contains_key s.staged name then Err Exists else Ok (record s { staged = map.insert s.staged name (put_all (entries_of pairs) map.empty) })
