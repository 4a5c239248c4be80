-- What the calls of a journal ensure, from what they do to the bytes.
use Rattle.std.proofs.Common.{◌≡◌, inl, inr, ⊎_elim, ℕ, ◌+◌, ◌^◌, ◌<◌, List, [], ◌∷◌, ◌++◌, length, Some, Option, Result, Ok, Err, IsTrue, sym, ◌∙◌, ap, subst, refl, arith}
use Rattle.std.proofs.lemmas.Option.{same_Some}
use Rattle.std.proofs.lemmas.List.Elements.{All-nil}
use Rattle.host_model.specs.Picture.{Image, Picture, Becomes, MayBecome, ChangesFile, OnBytes, FileStep, file_at}
use Rattle.host_model.specs.State.{HostState}
use Rattle.host_model.specs.Moves.{Reached, Moves}
use Rattle.host_model.specs.Calls.{IsSettled, IsSound, Replaces, Torn, Puts}
use Rattle.host_model.specs.declared.call.HostCall.{HostCall}
use Rattle.host_model.specs.declared.fault.HostFault.{HostFault}
use Rattle.host_model.specs.Leaves.{LeavesOnly}
use Rattle.host_model.specs.Stores.{Stores}
use Rattle.host_model.proofs.CallsLemmas.{was_faithful}
use Rattle.host_model.proofs.Images.{after_change, bytes_at, bytes_weaker, bytes_twice}
use Rattle.host_model.proofs.StoresLemmas.{stores_failed, stores_then, replaced}
use Rattle.journal_core.specs.Records.{body, spelled, HasRecords, HasNone}
use Rattle.journal_core.specs.Parts.{KeepsFront}
use Rattle.journal_core.specs.Changes.{MayMake, MayGain, Gains}
use Rattle.journal_core.specs.Journal.{Holds, IsOpen, IsDamaged, HasThere, HasEither, Appends}
use Rattle.journal_core.proofs.RecordsLemmas.{behind_gains, gate_gains, opened_gains}
use Rattle.journal_core.proofs.ReadingLemmas.{one_list}

made : (x y : Option (List ℕ)) → MayBecome (Some []) x y → MayMake 1 x y
made x y (inl stays) = inl stays
made x y (inr is) = inr (record { bytes = []; is = is; short = omega arith })

torn : (x y z : Option (List ℕ)) → Becomes (Some []) x y → OnBytes (Torn 0 1) y z → MayMake 1 x z
torn x y z is step = let t = bytes_at [] step is in inr (record { bytes = step.after; is = step.is; short = omega (arith, t.no_longer) })

put : (x y z : Option (List ℕ)) → Becomes (Some []) x y → OnBytes (Puts 0 (0 ∷ [])) y z → Becomes (Some (0 ∷ [])) x z
put x y z is step = let p = bytes_at [] step is in step.is ∙ ap (λ (l : List ℕ). Some l) p.is

-- the file wasn't made
pub create_failed : {kind : HostCall} {name : List ℕ} (A : Option (List ℕ) → Option (List ℕ) → Type 0) {T U F : Type 0} {e : HostFault} (fault : F) {a b : HostState} → IsSound a → Replaces kind name (Some []) {T = T} (Err e) a b
    → Stores name (MayMake 1) A {T = U} (Err fault) a b
create_failed A {e = e} fault sound call = stores_failed _ A fault (replaced {result = Err e} sound call) made

-- the file was made, and then its gate, whether that failed or not
pub create_both : {kind : HostCall} {name : List ℕ} {T U F : Type 0} {u : T} {result : Result U F} {a b c : HostState} → IsSound a → Replaces kind name (Some []) {T = T} (Ok u) a b → Stores name (OnBytes (Torn 0 1)) (OnBytes (Puts 0 (0 ∷ []))) result b c
    → Stores name (MayMake 1) (Becomes (Some (0 ∷ []))) result a c
create_both {u = u} sound call gate = stores_then (MayMake 1) (Becomes (Some (0 ∷ []))) sound (replaced {result = Ok u} sound call) gate made torn put

-- a new journal
pub holds_none : {name : List ℕ} {x y : Image} → ChangesFile name (Becomes (Some (0 ∷ []))) x y → Holds name 0 [] y
holds_none change = record {
  file = 0 ∷ [];
  is = after_change change ∙ change.steps;
  ends = record { has = record { gate = 0; rest = []; shut = λ e. absurd (omega (arith, e)); is = refl; short = All-nil (λ (l : List ℕ). length l < 2 ^ 32) }; counts = refl };
}

-- bytes that are no records
pub damaged : {name : List ℕ} {image : Image} {bytes : List ℕ} → file_at image name ≡ Some bytes → HasNone bytes → IsDamaged name image
damaged is none = record { none = λ end records holds. none.none records (subst (λ (file : List ℕ). HasRecords file records) (same_Some _ _ (sym holds.is ∙ is)) holds.ends.has) }

-- a file has one list of records, and one closed gate
pub holds_once : {name : List ℕ} {image : Image} {end other : ℕ} {records others : List (List ℕ)} → Holds name end records image → Holds name other others image → (records ≡ others) × (end ≡ other)
holds_once {records = records} {others = others} one two =
    let has : HasRecords two.file records = subst (λ (file : List ℕ). HasRecords file records) (same_Some _ _ (sym one.is ∙ two.is)) one.ends.has in
    let same : records ≡ others = one_list two.file records others has two.ends.has in
    (same, one.ends.counts ∙ ap (λ (l : List (List ℕ)). length (spelled l)) same ∙ sym two.ends.counts)

-- a file that a fault or a crash changed
pub either_after : {name payload : List ℕ} {end : ℕ} {records : List (List ℕ)} {x y : Image} → ChangesFile name (OnBytes (MayGain end payload)) x y → Holds name end records x → HasEither name records payload y
either_after {records = records} change holds =
    let gains = bytes_at holds.file change.steps holds.is in
    let there = after_change change ∙ change.steps.is in
    elim (gains.each records holds.ends) [
      | inl has ↦ inl (record { file = change.steps.after; is = there; has = has })
      | inr has ↦ inr (record { file = change.steps.after; is = there; has = has })
    ]

-- a file that an append changed
pub holds_after : {name payload : List ℕ} {end : ℕ} {records : List (List ℕ)} {x y : Image} → ChangesFile name (OnBytes (Gains end payload)) x y → Holds name end records x → Holds name (end + 5 + length payload) (records ++ payload ∷ []) y
holds_after {records = records} change holds =
    let gains = bytes_at holds.file change.steps holds.is in
    record { file = change.steps.after; is = after_change change ∙ change.steps.is; ends = gains.each records holds.ends }

-- the record behind the closed gate wasn't written
pub first_failed : {name payload : List ℕ} {end : ℕ} {A : Option (List ℕ) → Option (List ℕ) → Type 0} {T E U F : Type 0} {e : E} (fault : F) {a b : HostState} → Stores name (OnBytes (KeepsFront (end + 1))) A {T = T} (Err e) a b
    → Stores name (OnBytes (MayGain end payload)) (OnBytes (Gains end payload)) {T = U} (Err fault) a b
first_failed {payload = payload} {end = end} fault one = stores_failed _ _ fault one (λ x y keeps. bytes_weaker (MayGain end payload) keeps (λ f g k. behind_gains end payload f g k))

-- the record was written, and then the gate, whether it failed or not
pub both_writes : {name payload : List ℕ} {end : ℕ} {T E U F : Type 0} {u : T} {result : Result U F} {a b c : HostState} → length payload < 2 ^ 32 → IsSound a
    → Stores name (OnBytes (KeepsFront (end + 1))) (OnBytes (Puts (end + 1) (body payload ++ 0 ∷ []))) {T = T} {E = E} (Ok u) a b
    → Stores name (OnBytes (Torn end 1)) (OnBytes (Puts end (1 ∷ []))) result b c
    → Stores name (OnBytes (MayGain end payload)) (OnBytes (Gains end payload)) result a c
both_writes {payload = payload} {end = end} short sound one two =
    stores_then (OnBytes (MayGain end payload)) (OnBytes (Gains end payload)) sound one two
    (λ x y keeps. bytes_weaker (MayGain end payload) keeps (λ f g k. behind_gains end payload f g k))
    (λ x y z puts torn. bytes_twice (MayGain end payload) puts torn (λ f g h p t. gate_gains end payload f g h short p t))
    (λ x y z puts opens. bytes_twice (Gains end payload) puts opens (λ f g h p o. opened_gains end payload f g h short p o))

-- a journal stays open over an append
pub open_after : {name payload : List ℕ} {end : ℕ} {D : Option (List ℕ) → Option (List ℕ) → Type 0} {T E : Type 0} {u : T} {a b : HostState} → Stores name D (OnBytes (Gains end payload)) {T = T} {E = E} (Ok u) a b → (IsTrue a.is_faithful → IsOpen name end a.files) → IsTrue b.is_faithful
    → IsOpen name (end + 5 + length payload) b.files
open_after {payload = payload} stores was_open faithful =
    let first = was_faithful stores.quiet.keeps faithful in
    let was = was_open first in
    record { records = was.records ++ payload ∷ []; holds = holds_after (stores.done first) was.holds }

there : {name : List ℕ} {end : ℕ} {records : List (List ℕ)} {x : Image} (y : Image) → Holds name end records x → file_at y name ≡ file_at x name → HasThere name records y
there y holds same = record { file = holds.file; is = same ∙ holds.is; has = holds.ends.has }

-- a crash in between
crashed : {name payload : List ℕ} {end : ℕ} {records : List (List ℕ)} {T E : Type 0} {A : Option (List ℕ) → Option (List ℕ) → Type 0} {result : Result T E} {a b : HostState} → IsSound a → Stores name (OnBytes (MayGain end payload)) A result a b → Holds name end records a.files
    → IsTrue a.is_honest → IsSettled name a → LeavesOnly (λ p. HasEither name records payload p.image) a b
crashed {name} {payload} {end} {records} {a = a} {b = b} sound stores holds h s = record {
  later = moves.later;
  each = λ p left. ⊎_elim (λ past. inl (there p.image holds (s.each p (sound.only_now h p past)))) (reached p) (moves.between a.moment p (omega arith) left);
  before = λ t p le left. ⊎_elim (λ past. inl past) (λ r. inr (reached p r)) (moves.between t p le left);
}
  where
    moves : Moves (FileStep name (OnBytes (MayGain end payload))) (FileStep name (OnBytes (MayGain end payload))) a b
    moves = stores.moves h s

    reached : (p : Picture) → Reached a.may_leave (FileStep name (OnBytes (MayGain end payload))) p → HasEither name records payload p.image
    reached p r = either_after r.steps.steps (record { file = holds.file; is = s.each r.start r.left ∙ holds.is; ends = holds.ends })

pub appends : {name payload : List ℕ} {end : ℕ} {records : List (List ℕ)} {T E : Type 0} {result : Result T E} {a b : HostState} → IsSound a → Stores name (OnBytes (MayGain end payload)) (OnBytes (Gains end payload)) result a b → Holds name end records a.files
    → Appends name end records payload result a b
appends {result = Err e} sound stores holds = record {
  done = λ f. tt;
  tried = λ f. either_after (stores.tried f) holds;
  crash = λ h s. crashed sound stores holds h s;
  lasts = λ h. tt;
}
appends {name} {payload} {end} {records} {result = Ok u} {a = a} {b = b} sound stores holds = record {
  done = λ f. holds_after (stores.done f) holds;
  tried = λ f. either_after (stores.tried f) holds;
  crash = λ h s. crashed sound stores holds h s;
  lasts = λ h p now.
      let done : ChangesFile name (OnBytes (Gains end payload)) a.files b.files = stores.done (sound.faithful h) in
      let settled : IsSettled name b = stores.settled h in
      there p.image (holds_after done holds) (settled.each p now);
}
