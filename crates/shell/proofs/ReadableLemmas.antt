-- What could be read can still be read.
use Rattle.std.proofs.Common.{◌≡◌, inl, inr, ⊎_elim, Bool, true, false, List, ℕ, Result, IsTrue, sym, subst}
use Rattle.host_model.specs.declared.fault.HostFault.{HostFault}
use Rattle.host_model.specs.Picture.{Image, Picture, Same}
use Rattle.host_model.specs.State.{HostState}
use Rattle.host_model.specs.Moves.{Moves}
use Rattle.host_model.specs.Calls.{IsSound, Keeps, Says}
use Rattle.host_model.specs.Leaves.{LeavesOnly, AllSettled}
use Rattle.host_model.specs.Alters.{Alters}
use Rattle.host_model.proofs.CallsLemmas.{still_faithful, still_honest}
use Rattle.host_model.proofs.LeavesLemmas.{leaves_start, leaves_weaker, leaves_then, alters_leave, says_leave, same_leave}
use Rattle.store_meaning.specs.Readable.{IsReadable}
use Rattle.shell.specs.Readable.{StaysReadable, IsStart, IsLeft, LeavesReadable}

-- of two kinds, both
pub leaves_both : {one two : Picture → Type 0} {a b : HostState} → LeavesOnly one a b → LeavesOnly two a b → LeavesOnly (λ p. one p × two p) a b
leaves_both first second = record {
  later = first.later;
  each = λ p left. (first.each p left, second.each p left);
  before = λ t p le left. ⊎_elim
      (λ past. inl past)
      (λ is. ⊎_elim (λ past. inl past) (λ also. inr (is, also)) (second.before t p le left))
      (first.before t p le left);
}

pub stays_refl : {state : HostState} → IsSound state → StaysReadable state state
stays_refl sound = record {
  tried = λ f is. is;
  leaves = λ h rests is. leaves_start (λ p. IsReadable p.image) sound h (λ p now. subst (λ i. IsReadable i) (sym (rests.each p now)) is);
}

-- a call that leaves the files, whatever else it does
pub stays_same : {a b : HostState} → IsSound a → (IsTrue a.is_faithful → b.files ≡ a.files) → (IsTrue a.is_honest → Moves Same Same a b) → StaysReadable a b
stays_same sound same moves = record {
  tried = λ f is. subst (λ i. IsReadable i) (sym (same f)) is;
  leaves = λ h rests is. same_leave (λ p. IsReadable p.image) sound h rests (moves h) is;
}

pub stays_image : {a b : HostState} → (IsTrue a.is_faithful → b.files ≡ a.files) → (IsTrue a.is_honest → AllSettled a → LeavesOnly (λ p. p.image ≡ a.files) a b) → StaysReadable a b
stays_image same only = record {
  tried = λ f is. subst (λ i. IsReadable i) (sym (same f)) is;
  leaves = λ h rests is. leaves_weaker (only h rests) (λ p at. subst (λ i. IsReadable i) (sym at) is);
}

pub stays_said : {bytes : List ℕ} {T : Type 0} {result : Result T HostFault} {a b : HostState} → IsSound a → Says bytes result a b → StaysReadable a b
stays_said sound says = record {
  tried = λ f is. subst (λ i. IsReadable i) (sym (says.same f).0) is;
  leaves = λ h rests is. says_leave (λ p. IsReadable p.image) sound h rests says (λ p told. subst (λ i. IsReadable i) (sym told.image_is) is);
}

pub stays_altered : {own : List ℕ → Type 0} {during after : Image → Image → Type 0} {T E : Type 0} {result : Result T E} {a b : HostState} → IsSound a → Alters own during after result a b → ((d p : Image) → during d p → IsReadable d → IsReadable p) → StaysReadable a b
stays_altered {a = a} {b = b} sound alters keeps = record {
  tried = λ f is. keeps a.files b.files (alters.tried f) is;
  leaves = λ h rests is. alters_leave (λ p. IsReadable p.image) sound h rests alters is (λ p step said. keeps a.files p.image step is);
}

-- one stretch after another
pub stays_then : {a b c : HostState} → IsSound a → Keeps a b → (IsTrue a.is_honest → AllSettled a → AllSettled b) → StaysReadable a b → StaysReadable b c → StaysReadable a c
stays_then sound keeps settled one two = record {
  tried = λ f is. two.tried (still_faithful keeps f) (one.tried f is);
  leaves = λ h rests is. leaves_then (one.leaves h rests is) (two.leaves (still_honest keeps h) (settled h rests) (one.tried (sound.faithful h) is));
}

-- ---- over a whole run

pub read_left : (init : Bool) (image : Image) → IsReadable image → IsLeft init image
read_left false image is = is
read_left true image is = inr is

-- the store was opened or made, and its script was served
pub run_readable : (init : Bool) {first mid now : HostState} → IsSound first → Keeps first mid → (IsTrue first.is_honest → AllSettled first → AllSettled mid) → LeavesReadable init first mid
    → (IsTrue first.is_faithful → IsStart init first.files → IsReadable mid.files) → StaysReadable mid now → LeavesReadable init first now
run_readable init {now = now} sound keeps settled opened there served = record {
  tried = λ f start. read_left init now.files (served.tried (still_faithful keeps f) (there f start));
  leaves = λ h rests start.
      leaves_then (opened.leaves h rests start)
      (leaves_weaker (served.leaves (still_honest keeps h) (settled h rests) (there (sound.faithful h) start)) (λ p is. read_left init p.image is));
}
