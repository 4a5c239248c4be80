-- How what contracts see of an index is stored, and what is true of a row that is about to be written.
use Rattle.std.specs.Prelude.{ℕ, List, Option, None, refl}
use Rattle.std.specs.FinMap as map
use Rattle.std.specs.Option.{IsSome, IfSome}
use Rattle.std.specs.Coded.{Coded, code_by, coded×, coded_list, coded_ℕ}
use Rattle.node_store.specs.PathsTo.{with_entry}
use Rattle.state_reader.specs.declared.level.LevelKind.{LevelKind}
use Rattle.level_index.specs.declared.entry.LevelEntry.{LevelEntry}
use Rattle.level_index.specs.declared.pending.Pending.{Pending}
use Rattle.level_index.specs.declared.pending.Pending.TheVariants.{Put, Removal}
use Rattle.level_index.specs.Entries.{Entries, LevelMap, StandsAt}

-- how an index is stored
abbrev pub index_code : Coded LevelKind → Coded LevelEntry → Coded LevelMap
index_code kind entry = code_by (LevelKind × Entries) (coded× kind (map.code (coded_list coded_ℕ) entry)) (λ m. (m.kind, m.entries)) (λ p. record { kind = p.0; entries = p.1 }) (λ _. refl)

-- a level before and after a row for which all memory has been taken
pub record PreparedLevel : Type 0 where
  pub before : LevelMap
  pub after : LevelMap

-- how it is stored
abbrev pub prepared_code : Coded LevelKind → Coded LevelEntry → Coded PreparedLevel
prepared_code kind entry = code_by (LevelMap × LevelMap) (coded× (index_code kind entry) (index_code kind entry)) (λ p. (p.before, p.after)) (λ p. record { before = p.0; after = p.1 }) (λ _. refl)

-- the index with this at the row, or with nothing there
abbrev pub with_row : LevelMap → List ℕ → Option LevelEntry → LevelMap
with_row index row entry = record index { entries = with_entry index.entries row entry }

-- an entry that was put is put back, and one to be removed is there still
abbrev pub prepared : LevelMap → Pending → PreparedLevel
prepared index (Put row old) = record { before = with_row index row old; after = index }
prepared index (Removal row) = record { before = index; after = with_row index row None }

-- what was put is there, and what was there before stood at its own row
abbrev pub MayPend : LevelMap → Pending → Type 0
MayPend index (Put row old) = IsSome (map.get index.entries row) × IfSome old (StandsAt index.kind row)
MayPend index (Removal row) = Unit {0}

pub record IsPrepared (index : LevelMap) (pending : Pending) : Type 0 where
  pub may : MayPend index pending
