-- Who stops whom, in a queue in order of numbers.
use Rattle.std.specs.Prelude.{◌≡◌, ◌≢◌, ◌⊎◌, ℕ, ◌==◌, if◌then◌else◌, List, [], ◌∷◌, Option, Some, None}
use Rattle.table_locks.specs.declared.grants.LockKind.{LockKind}
use Rattle.table_locks.specs.declared.grants.LockKind.TheVariants.{Read, Write}
use Rattle.table_locks.specs.declared.grants.LockEntry.{LockEntry}

-- the transaction has an entry
abbrev pub IsIn : List LockEntry → ℕ → Type 0
IsIn [] t = ⊥
IsIn (e ∷ es) t = (e.tid ≡ t) ⊎ IsIn es t

-- no entry is the transaction's
abbrev pub Lacks : List LockEntry → ℕ → Type 0
Lacks [] t = Unit {0}
Lacks (e ∷ es) t = (e.tid ≢ t) × Lacks es t

abbrev pub by_kind : {A : Type 0} → LockKind → A → A → A
by_kind Read r w = r
by_kind Write r w = w

-- the kind of the transaction's entry
abbrev pub kind_of : List LockEntry → ℕ → LockKind
kind_of [] t = Read
kind_of (e ∷ es) t = if e.tid == t then e.kind else kind_of es t

-- the transaction of the first WRITE entry before it
abbrev pub first_write : List LockEntry → ℕ → Option ℕ
first_write [] t = None
first_write (e ∷ es) t = if e.tid == t then None else by_kind e.kind (first_write es t) (Some e.tid)

-- the transaction of the first entry, if that isn't its own
abbrev pub first_other : List LockEntry → ℕ → Option ℕ
first_other [] t = None
first_other (e ∷ es) t = if e.tid == t then None else Some e.tid

-- A READ entry is stopped by the first WRITE entry before it, and a WRITE entry by the first entry.
abbrev pub stopped_by : List LockEntry → ℕ → Option ℕ
stopped_by es t = by_kind (kind_of es t) (first_write es t) (first_other es t)

abbrev pub IsOneWrite : LockEntry → LockEntry → Type 0
IsOneWrite one two = (one.kind ≡ Write) ⊎ (two.kind ≡ Write)

abbrev pub AreReads : List LockEntry → Type 0
AreReads [] = Unit {0}
AreReads (e ∷ es) = (e.kind ≡ Read) × AreReads es
