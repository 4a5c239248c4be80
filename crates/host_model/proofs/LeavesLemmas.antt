-- What every crash leaves, over one stretch after another.
use Rattle.std.proofs.Common.{◌≡◌, inl, inr, ⊎_elim, ℕ, ◌++◌, take, List, Result, IsTrue, sym, ◌∙◌, ap, subst, arith}
use Rattle.std.proofs.lemmas.List.{append-nil}
use Rattle.host_model.specs.declared.fault.HostFault.{HostFault}
use Rattle.host_model.specs.Picture.{Picture, Image, Same, file_at}
use Rattle.host_model.specs.State.{HostState, picture_now}
use Rattle.host_model.specs.Moves.{Moves}
use Rattle.host_model.specs.Calls.{IsSound, Says}
use Rattle.host_model.specs.Leaves.{LeavesOnly, Told, AllSettled}
use Rattle.host_model.specs.Alters.{Alters, AreSettled}

-- before the first call
pub leaves_start : (kind : Picture → Type 0) {first : HostState} → IsSound first → IsTrue first.is_honest → ((p : Picture) → first.may_leave p → kind p) → LeavesOnly kind first first
leaves_start kind sound honest now = record { later = omega arith; each = λ p left. now p (sound.only_now honest p left); before = λ t p le left. inl left }

pub leaves_weaker : {one two : Picture → Type 0} {first now : HostState} → LeavesOnly one first now → ((p : Picture) → one p → two p) → LeavesOnly two first now
leaves_weaker only more = record {
  later = only.later;
  each = λ p left. more p (only.each p left);
  before = λ t p le left. ⊎_elim (λ past. inl past) (λ is. inr (more p is)) (only.before t p le left);
}

-- one stretch after another
pub leaves_then : {kind : Picture → Type 0} {a b c : HostState} → LeavesOnly kind a b → LeavesOnly kind b c → LeavesOnly kind a c
leaves_then {a = a} one two = record {
  later = omega (arith, one.later, two.later);
  each = λ p left. ⊎_elim (λ past. one.each p past) (λ is. is) (two.before a.moment p one.later left);
  before = λ t p le left. ⊎_elim (λ past. one.before t p le past) (λ is. inr is) (two.before t p (omega (arith, le, one.later)) left);
}

-- one call, or a stretch of calls
pub moves_leave : (kind : Picture → Type 0) {during after : Picture → Picture → Type 0} {a b : HostState} → IsSound a → IsTrue a.is_honest → Moves during after a b
    → ((p : Picture) → a.may_leave p → kind p) → ((d p : Picture) → a.may_leave d → during d p → kind p) → LeavesOnly kind a b
moves_leave kind {a = a} sound honest moves start step = record {
  later = moves.later;
  each = λ p left. ⊎_elim (λ past. start p (sound.only_now honest p past)) (λ r. step r.start p r.left r.steps) (moves.between a.moment p (omega arith) left);
  before = λ t p le left. ⊎_elim (λ past. inl past) (λ r. inr (step r.start p r.left r.steps)) (moves.between t p le left);
}

-- a crash before the call leaves what reads give, with the bytes said so far
pub rests_shows : {state : HostState} → IsSound state → IsTrue state.is_honest → AllSettled state → (p : Picture) → state.may_leave p → p ≡ picture_now state
rests_shows sound honest rests p now = let image = rests.each p now in let said = sound.said honest p now in λ i. record { image = image i; said = said i }

-- a durable change, where nothing was pending
pub alters_leave : {own : List ℕ → Type 0} {during after : Image → Image → Type 0} {T E : Type 0} {result : Result T E} {a b : HostState} (kind : Picture → Type 0)
    → IsSound a → IsTrue a.is_honest → AllSettled a → Alters own during after result a b
    → kind (picture_now a) → ((p : Picture) → during a.files p.image → p.said ≡ a.said → kind p) → LeavesOnly kind a b
alters_leave {own} {during} {a = a} kind sound honest rests alters start step =
    moves_leave kind sound honest (alters.moves honest settled)
    (λ p now. subst kind (sym (rests_shows sound honest rests p now)) start)
    (λ d p now change. step p (subst (λ i. during i p.image) (rests.each d now) change.steps) (change.said ∙ sound.said honest d now))
  where
    settled : AreSettled own a
    settled = record { each = λ p now name owns. ap (λ i. file_at i name) (rests.each p now) }

-- bytes that are said, where nothing was pending
pub says_leave : {bytes : List ℕ} {T : Type 0} {result : Result T HostFault} {a b : HostState} (kind : Picture → Type 0)
    → IsSound a → IsTrue a.is_honest → AllSettled a → Says bytes result a b → ((p : Picture) → Told a.files a.said bytes p → kind p) → LeavesOnly kind a b
says_leave {bytes} {a = a} kind sound honest rests says each =
    moves_leave kind sound honest (says.moves honest)
    (λ p now. each p (record { image_is = rests.each p now; count = 0; said_is = sound.said honest p now ∙ sym (append-nil a.said) }))
    (λ d p now front. each p (record { image_is = front.image ∙ rests.each d now; count = front.count; said_is = front.said ∙ ap (λ l. l ++ take front.count bytes) (sound.said honest d now) }))

-- a call that only asks
pub same_leave : {a b : HostState} (kind : Picture → Type 0) → IsSound a → IsTrue a.is_honest → AllSettled a → Moves Same Same a b → kind (picture_now a) → LeavesOnly kind a b
same_leave kind sound honest rests moves start =
    moves_leave kind sound honest moves
    (λ p now. subst kind (sym (rests_shows sound honest rests p now)) start)
    (λ d p now same. subst kind (sym (same ∙ rests_shows sound honest rests d now)) start)

-- what was pending is still all that is
pub rests_after_same : {a b : HostState} → Moves Same Same a b → b.files ≡ a.files → AllSettled a → AllSettled b
rests_after_same moves same rests = record { each = λ p now. let r = moves.at_end p now in ap (λ q. q.image) r.steps ∙ rests.each r.start r.left ∙ sym same }

pub rests_after_say : {bytes : List ℕ} {T : Type 0} {result : Result T HostFault} {a b : HostState} → IsTrue a.is_honest → IsTrue a.is_faithful → Says bytes result a b → AllSettled a → AllSettled b
rests_after_say honest faithful says rests = record { each = λ p now. let r = (says.moves honest).at_end p now in r.steps.image ∙ rests.each r.start r.left ∙ sym (says.same faithful).0 }
