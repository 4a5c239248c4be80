-- What holds of operations, histories and plain states.
use Rattle.std.specs.Prelude.{◌≡◌, ℕ, Bool, true, not, ◌&&◌, List, [], ◌∷◌, ◌++◌, Option, Some, None, Ok, Err, IsTrue}
use Rattle.std.specs.List.{list_all}
use Rattle.std.specs.Option.{option_and_then, option_map}
use Rattle.std.specs.Ordering.{is_lt}
use Rattle.std.specs.declared.cmp.Ordering.{Ordering}
use Rattle.std.specs.FinMap as map
use Rattle.row_keys.specs.RowOrder.{is_below, is_interval}
use Rattle.plain_model.specs.declared.operation.Op.{Op}
use Rattle.plain_model.specs.declared.operation.Op.TheVariants.{Merge, DeleteRows, Clone, Insert}
use Rattle.plain_model.specs.declared.operation.Entry.{Entry}
use Rattle.plain_model.specs.declared.operation.Pair.{Pair}
use Rattle.plain_model.specs.declared.stop.PlainStop.{PlainStop}
use Rattle.plain_model.specs.State.{PairMap, Table, PlainState}
use Rattle.plain_model.specs.Apply.{Outcome, apply}
use Rattle.plain_model.specs.History.{after}

-- the operation behind an outcome
abbrev pub followed_by : Outcome → Op → Outcome
followed_by (Ok next) op = apply op next
followed_by (Err refusal) op = Err refusal

-- one operation and then the other
abbrev pub in_turn : Op → Op → PlainState → Outcome
in_turn first second s = followed_by (apply first s) second

-- ---- histories

-- a history goes on where its beginning ends
abbrev pub HistoriesJoin : Type 0
HistoriesJoin = (history more : List Entry) (s : PlainState) → after (history ++ more) s ≡ option_and_then (after more) (after history s)

-- a refused operation is in no history
abbrev pub RefusedIsInNoHistory : Type 0
RefusedIsInNoHistory = (history more : List Entry) (entry : Entry) (s reached : PlainState) (refusal : PlainStop) → after history s ≡ Some reached → apply entry.op reached ≡ Err refusal → after (history ++ entry ∷ more) s ≡ None

-- ---- names and orders

-- no two tables have the same name
pub record AreNamedApart (s : PlainState) : Type 0 where
  pub apart : (id other : List ℕ) (table another : Table) → map.get s.tables id ≡ Some table → map.get s.tables other ≡ Some another → table.name ≡ another.name → id ≡ other

-- an operation keeps names apart, and so does a history
abbrev pub NamesStayApart : Type 0
NamesStayApart = (op : Op) (s next : PlainState) → AreNamedApart s → apply op s ≡ Ok next → AreNamedApart next

abbrev pub HistoriesNameApart : Type 0
HistoriesNameApart = (history : List Entry) (s reached : PlainState) → AreNamedApart s → after history s ≡ Some reached → AreNamedApart reached

-- each is below all that stand behind it
abbrev pub is_rising : {K : Type 0} → (K → K → Ordering) → List K → Bool
is_rising R [] = true
is_rising R (key ∷ more) = list_all (λ other. is_lt (R key other)) more && is_rising R more

-- the keys of a map strictly rise: split points, pairs' keys, ids and names of files
abbrev pub KeysRise : {K : Type 0} → (K → K → Ordering) → Type 0 → Type 0
KeysRise R V = (m : map.FinMap R V) → IsTrue (is_rising R (map.keys m))

-- ---- ranges in ranges

-- the lower bound is no higher than the other one
abbrev pub starts_by : Option (List ℕ) → Option (List ℕ) → Bool
starts_by None other = true
starts_by (Some from) None = not true
starts_by (Some from) (Some other) = not (is_below other from)

-- the upper bound is no lower than the other one
abbrev pub ends_past : Option (List ℕ) → Option (List ℕ) → Bool
ends_past None other = true
ends_past (Some to) None = not true
ends_past (Some to) (Some other) = not (is_below to other)

-- the range from low to high isn't empty, and lies in the one between from and to
pub record IsNested (low high from to : Option (List ℕ)) : Type 0 where
  pub starts : IsTrue (starts_by from low)
  pub ends : IsTrue (ends_past to high)
  pub interval : IsTrue (is_interval low high)

-- the inner operation makes no difference, before the outer one and behind it
pub record Absorbs (outer inner : Op) : Type 0 where
  pub before : (s : PlainState) → in_turn inner outer s ≡ apply outer s
  pub behind : (s : PlainState) → in_turn outer inner s ≡ apply outer s

-- so for merges, and for deletions
abbrev pub MergeAbsorbs : Type 0
MergeAbsorbs = (id : List ℕ) (low high from to : Option (List ℕ)) → IsNested low high from to → Absorbs (Merge id from to) (Merge id low high)

abbrev pub DeleteRowsAbsorbs : Type 0
DeleteRowsAbsorbs = (id : List ℕ) (low high from to : Option (List ℕ)) → IsNested low high from to → Absorbs (DeleteRows id from to) (DeleteRows id low high)

-- ---- clones

-- the pairs of a table, if it is there
abbrev pub pairs_at : List ℕ → PlainState → Option PairMap
pairs_at id s = option_map (λ table. table.pairs) (map.get s.tables id)

-- a clone has the pairs of its original, and what is inserted into the one isn't in the other
pub record StandApart (s cloned : PlainState) (id new_id : List ℕ) (pair : Pair) : Type 0 where
  pub alike : pairs_at new_id cloned ≡ pairs_at id s
  pub original : (next : PlainState) → apply (Insert new_id pair) cloned ≡ Ok next → pairs_at id next ≡ pairs_at id s
  pub copy : (next : PlainState) → apply (Insert id pair) cloned ≡ Ok next → pairs_at new_id next ≡ pairs_at id s

abbrev pub ClonesStandApart : Type 0
ClonesStandApart = (id new_id name : List ℕ) (pair : Pair) (s cloned : PlainState) → (id ≡ new_id → ⊥) → apply (Clone id new_id name) s ≡ Ok cloned → StandApart s cloned id new_id pair
