-- The earlier of two entries comes first.
use Rattle.std.proofs.Common.{◌≡◌, ◌≢◌, ⊎_elim, ℕ, ◌==◌, if◌then◌else◌, List, [], ◌∷◌, ◌++◌, Option, Some, None, refl, sym, ◌∙◌, ap, subst, append_assoc}
use Rattle.std.proofs.lemmas.Bool.Decides.{eqb_tells}
use Rattle.table_locks.specs.declared.grants.LockKind.{LockKind}
use Rattle.table_locks.specs.declared.grants.LockKind.TheVariants.{Read, Write}
use Rattle.table_locks.specs.declared.grants.LockEntry.{LockEntry}
use Rattle.table_locks.specs.Grants.{Lacks, IsOneWrite, AreReads, by_kind, kind_of, first_write, first_other, stopped_by}

-- a choice whose test fails, and one whose test holds
passed : {A : Type 0} (a b : ℕ) (x y : A) → a ≢ b → (if a == b then x else y) ≡ y
passed a b x y apart = ⊎_elim (λ same. absurd (apart same.1)) (λ other. ap (λ t. if t then x else y) other.0) (eqb_tells a b)

met : {A : Type 0} (a : ℕ) (x y : A) → (if a == a then x else y) ≡ x
met a x y = ⊎_elim (λ same. ap (λ t. if t then x else y) same.0) (λ other. absurd (other.1 refl)) (eqb_tells a a)

own_kind : (before after : List LockEntry) (two : LockEntry) → Lacks before two.tid → kind_of (before ++ two ∷ after) two.tid ≡ two.kind
own_kind [] after two lacks = met two.tid two.kind (kind_of after two.tid)
own_kind (e ∷ es) after two lacks = passed e.tid two.tid e.kind (kind_of (es ++ two ∷ after) two.tid) lacks.0 ∙ own_kind es after two lacks.1

write_found : (before rest : List LockEntry) (one : LockEntry) (t : ℕ) → Lacks before t → one.tid ≢ t → one.kind ≡ Write → (x : ℕ) × (first_write (before ++ one ∷ rest) t ≡ Some x)
write_found [] rest one t lacks apart is = (one.tid, passed one.tid t None (by_kind one.kind (first_write rest t) (Some one.tid)) apart ∙ ap (λ k. by_kind k (first_write rest t) (Some one.tid)) is)
write_found (e ∷ es) rest one t lacks apart is =
    let later = write_found es rest one t lacks.1 apart is in
    let here = passed e.tid t None (by_kind e.kind (first_write (es ++ one ∷ rest) t) (Some e.tid)) lacks.0 in
    elim e.kind as (λ k. e.kind ≡ k → (x : ℕ) × (first_write (e ∷ (es ++ one ∷ rest)) t ≡ Some x)) [
      | Read ↦ λ kind. (later.0, here ∙ ap (λ k. by_kind k (first_write (es ++ one ∷ rest) t) (Some e.tid)) kind ∙ later.1)
      | Write ↦ λ kind. (e.tid, here ∙ ap (λ k. by_kind k (first_write (es ++ one ∷ rest) t) (Some e.tid)) kind)
    ] refl

other_found : (before rest : List LockEntry) (one : LockEntry) (t : ℕ) → Lacks before t → one.tid ≢ t → (x : ℕ) × (first_other (before ++ one ∷ rest) t ≡ Some x)
other_found [] rest one t lacks apart = (one.tid, passed one.tid t None (Some one.tid) apart)
other_found (e ∷ es) rest one t lacks apart = (e.tid, passed e.tid t None (Some e.tid) lacks.0)

front : (before between : List LockEntry) (one : LockEntry) (t : ℕ) → Lacks (before ++ one ∷ between) t → Lacks before t × (one.tid ≢ t)
front [] between one t lacks = (tt, lacks.0)
front (e ∷ es) between one t lacks = let more = front es between one t lacks.1 in ((lacks.0, more.0), more.1)

pub not_before : (before between after : List LockEntry) (one two : LockEntry) → Lacks (before ++ one ∷ between) two.tid → IsOneWrite one two → stopped_by (before ++ one ∷ (between ++ two ∷ after)) two.tid ≢ None
not_before before between after one two lacks write granted =
    let parts = front before between one two.tid lacks in
    let rest = between ++ two ∷ after in
    let all = before ++ one ∷ rest in
    let kind : kind_of all two.tid ≡ two.kind = subst (λ l. kind_of l two.tid ≡ two.kind) (append_assoc before (one ∷ between) (two ∷ after)) (own_kind (before ++ one ∷ between) after two lacks) in
    let other = other_found before rest one two.tid parts.0 parts.1 in
    ⊎_elim
    (λ first.
    let found = write_found before rest one two.tid parts.0 parts.1 first in
    either (kind_of all two.tid) found.0 other.0 (first_write all two.tid) (first_other all two.tid) found.1 other.1 granted)
    (λ second. at_write (kind_of all two.tid) other.0 (first_write all two.tid) (first_other all two.tid) (kind ∙ second) other.1 granted)
    write
  where
    some_not_none : (x : ℕ) (r : Option ℕ) → r ≡ Some x → r ≡ None → ⊥
    some_not_none x r is none = cc

    either : (k : LockKind) (x y : ℕ) (r w : Option ℕ) → r ≡ Some x → w ≡ Some y → by_kind k r w ≡ None → ⊥
    either Read x y r w a b none = some_not_none x r a none
    either Write x y r w a b none = some_not_none y w b none

    at_write : (k : LockKind) (y : ℕ) (r w : Option ℕ) → k ≡ Write → w ≡ Some y → by_kind k r w ≡ None → ⊥
    at_write k y r w is b none = some_not_none y w b (ap (λ v. by_kind v r w) (sym is) ∙ none)

neither : (k : LockKind) (r w : Option ℕ) → r ≡ None → w ≡ None → by_kind k r w ≡ None
neither Read r w a b = a
neither Write r w a b = b

pub first_free : (one : LockEntry) (after : List LockEntry) → stopped_by (one ∷ after) one.tid ≡ None
first_free one after =
    neither (kind_of (one ∷ after) one.tid) (first_write (one ∷ after) one.tid) (first_other (one ∷ after) one.tid) (met one.tid None (by_kind one.kind (first_write after one.tid) (Some one.tid))) (met one.tid None (Some one.tid))

no_write : (before after : List LockEntry) (one : LockEntry) → Lacks before one.tid → AreReads before → first_write (before ++ one ∷ after) one.tid ≡ None
no_write [] after one lacks reads = met one.tid None (by_kind one.kind (first_write after one.tid) (Some one.tid))
no_write (e ∷ es) after one lacks reads =
    passed e.tid one.tid None (by_kind e.kind (first_write (es ++ one ∷ after) one.tid) (Some e.tid)) lacks.0 ∙ ap (λ k. by_kind k (first_write (es ++ one ∷ after) one.tid) (Some e.tid)) reads.0 ∙ no_write es after one lacks.1 reads.1

pub reads_free : (before after : List LockEntry) (one : LockEntry) → Lacks before one.tid → AreReads before → one.kind ≡ Read → stopped_by (before ++ one ∷ after) one.tid ≡ None
reads_free before after one lacks reads is =
    ap (λ k. by_kind k (first_write (before ++ one ∷ after) one.tid) (first_other (before ++ one ∷ after) one.tid)) (own_kind before after one lacks ∙ is) ∙ no_write before after one lacks reads
