-- Where a key stands in the list of a map, or would stand.
use Rattle.std.specs.Prelude.{◌≡◌, ℕ, ◌≤◌, ◌<◌, length, Some, None, Result, slice_set, slice_index_or, insert, remove, MatchResult}
use Rattle.std.specs.declared.cmp.Ordering.{Ordering}
use Rattle.std.specs.FinMap as map
use Rattle.plain_model.specs.Listed.{listed}

-- the key has a value, and its item stands at this index: what changes there changes in the map
pub record IsFound {K V X : Type 0} {R : K → K → Ordering} (item : K × V → X) (m : map.FinMap R V) (key : K) (i : ℕ) : Type 0 where
  pub value : V
  pub has : map.get m key ≡ Some value
  pub within : i < length (listed item m)
  pub at : (d : X) → slice_index_or (listed item m) i d ≡ item (key, value)
  pub put : (w : V) → slice_set (listed item m) i (item (key, w)) ≡ listed item (map.insert m key w)
  pub removed : remove (listed item m) i ≡ listed item (map.remove m key)

-- the key has no value, and its item belongs at this index
pub record IsMissing {K V X : Type 0} {R : K → K → Ordering} (item : K × V → X) (m : map.FinMap R V) (key : K) (i : ℕ) : Type 0 where
  pub has_not : map.get m key ≡ None
  pub within : i ≤ length (listed item m)
  pub put : (w : V) → insert (listed item m) i (item (key, w)) ≡ listed item (map.insert m key w)

abbrev pub IsPlace : {K V X : Type 0} {R : K → K → Ordering} → (K × V → X) → map.FinMap R V → K → Result ℕ ℕ → Type 0
IsPlace item m key found = MatchResult found (IsFound item m key) (IsMissing item m key)
