-- Operations that don't meet, so that it makes no difference which comes first.
use Rattle.std.specs.Prelude.{◌≡◌, ◌≢◌, ℕ, List, [], ◌∷◌, Some, ⊤}
use Rattle.std.specs.Result.{result_ok}
use Rattle.std.specs.FinMap as map
use Rattle.plain_model.specs.declared.operation.Op.{Op}
use Rattle.plain_model.specs.declared.operation.Op.TheVariants.{Create, Delete, Rename, Split, Merge, DeleteRows, Import, Clone, Insert, Remove, Stage}
use Rattle.plain_model.specs.State.{Table, PlainState}
use Rattle.plain_model.specs.Laws.{in_turn}

-- the ids of the tables that an operation reads or changes
abbrev pub tables_of : Op → List (List ℕ)
tables_of (Create id name splits) = id ∷ []
tables_of (Delete id) = id ∷ []
tables_of (Rename id name) = id ∷ []
tables_of (Split id at) = id ∷ []
tables_of (Merge id from to) = id ∷ []
tables_of (DeleteRows id from to) = id ∷ []
tables_of (Import id names) = id ∷ []
tables_of (Clone id new_id name) = new_id ∷ id ∷ []
tables_of (Insert id pair) = id ∷ []
tables_of (Remove id key) = id ∷ []
tables_of (Stage name pairs) = []

-- the name that it gives to a table
abbrev pub given_names : Op → List (List ℕ)
given_names (Create id name splits) = name ∷ []
given_names (Rename id name) = name ∷ []
given_names (Clone id new_id name) = name ∷ []
given_names _ = []

-- the ids of the tables whose names it takes away, where they are there
abbrev pub unnamed_tables : Op → List (List ℕ)
unnamed_tables (Create id name splits) = id ∷ []
unnamed_tables (Delete id) = id ∷ []
unnamed_tables (Rename id name) = id ∷ []
unnamed_tables (Clone id new_id name) = new_id ∷ []
unnamed_tables _ = []

-- the staged file that it makes, and those that it asks for
abbrev pub staged_by : Op → List (List ℕ)
staged_by (Stage name pairs) = name ∷ []
staged_by _ = []

abbrev pub files_of : Op → List (List ℕ)
files_of (Import id names) = names
files_of (Stage name pairs) = name ∷ []
files_of _ = []

-- it holds of each of the list
abbrev pub EachOf : (List ℕ → Type 0) → List (List ℕ) → Type 0
EachOf P [] = ⊤
EachOf P (x ∷ xs) = P x × EachOf P xs

-- the lists have nothing in common
abbrev pub AreDisjoint : List (List ℕ) → List (List ℕ) → Type 0
AreDisjoint xs ys = EachOf (λ x. EachOf (λ y. x ≢ y) ys) xs

-- none of these tables has one of these names
abbrev pub HaveNone : List (List ℕ) → List (List ℕ) → PlainState → Type 0
HaveNone ids names s = EachOf (λ id. EachOf (λ name. (table : Table) → map.get s.tables id ≡ Some table → table.name ≢ name) names) ids

pub record AreApart (a b : Op) (s : PlainState) : Type 0 where
  -- of different tables, and giving different names
  pub tables : AreDisjoint (tables_of a) (tables_of b)
  pub names : AreDisjoint (given_names a) (given_names b)
  -- neither gives a name that the other takes away
  pub names_of_first : HaveNone (unnamed_tables a) (given_names b) s
  pub names_of_second : HaveNone (unnamed_tables b) (given_names a) s
  -- neither stages a file that the other asks for
  pub files_of_first : AreDisjoint (staged_by a) (files_of b)
  pub files_of_second : AreDisjoint (staged_by b) (files_of a)

-- both orders give the same state, or are refused both
abbrev pub ApartCommute : Type 0
ApartCommute = (a b : Op) (s : PlainState) → AreApart a b s → result_ok (in_turn a b s) ≡ result_ok (in_turn b a s)
