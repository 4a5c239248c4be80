-- How the work of a step is made of durable actions.
use Rattle.std.proofs.Common.{◌≡◌, ◌⊎◌, inl, inr, ⊎_elim, ℕ, Option, Some, None, Result, Ok, Err, IsTrue, OnOk, IfSome, refl, sym, ◌∙◌, subst}
use Rattle.std.proofs.lemmas.Result.{on_ok_weaker}
use Rattle.host_model.specs.Picture.{Picture}
use Rattle.host_model.specs.State.{HostState, picture_now}
use Rattle.host_model.specs.Calls.{IsSound}
use Rattle.host_model.specs.declared.fault.Stop.{Stop}
use Rattle.host_model.proofs.CallsLemmas.{keeps-refl, looks-refl, keeps-then, still_faithful, still_honest}
use Rattle.fate_runner.specs.Book.{Book, Meaning, IsKept, Within, IsLawful}
use Rattle.fate_runner.specs.Works.{Acts, Works}
use Rattle.host_model.specs.Leaves.{LeavesOnly, AllSettled}
use Rattle.host_model.proofs.LeavesLemmas.{leaves_weaker, leaves_then}
use Rattle.fate_runner.proofs.Turning.{only_looks, within_kept, within_start, works_start}

module _ (m : Meaning) (lawful : IsLawful m) (t : ℕ) where
  pub within_then : {p q r : Picture} → Within m t p q → Within m t q r → Within m t p r
  within_then {p = p} {q = q} {r = r} one two = record {
    books = λ u. two.books u ∙ one.books u;
    rest = two.rest;
    fits = subst (λ b. m.fits r t b) (one.books t) two.fits;
    others = λ u other. lawful.goes_on u p q r (one.others u other) (two.others u other);
  }

  -- one stretch of work after another
  pub works_then : {a b c : HostState} {between : Book} {next : Option Book} → IsSound a → Works m t (Some between) a b → Works m t next b c → Works m t next a c
  works_then {a = a} {b = b} {c = c} {next = next} sound one two = record {
    keeps = keeps-then one.keeps two.keeps;
    books = λ f. after_books next (one.books f) (two.books (still_faithful one.keeps f));
    tried = λ f kept. within_then (one.tried f kept) (two.tried (still_faithful one.keeps f) (kept_b f kept));
    done = λ f kept. two.done (still_faithful one.keeps f) (kept_b f kept);
    inside = λ h at_rest kept.
        let here = one.tried (sound.faithful h) kept in
        leaves_then (one.inside h at_rest kept) (leaves_weaker (two.inside (still_honest one.keeps h) (one.rests h at_rest kept) (kept_b (sound.faithful h) kept)) (λ p within. within_then here within));
    rests = λ h at_rest kept. two.rests (still_honest one.keeps h) (one.rests h at_rest kept) (kept_b (sound.faithful h) kept);
  }
    where
      kept_b : IsTrue a.is_faithful → IsKept m (picture_now a) → IsKept m (picture_now b)
      kept_b f kept = within_kept m lawful t kept (one.tried f kept)

      after_books : (n : Option Book) → ((u : ℕ) → m.book (picture_now b) u ≡ m.book (picture_now a) u) → IfSome n (λ _. (u : ℕ) → m.book (picture_now c) u ≡ m.book (picture_now b) u) → IfSome n (λ _. (u : ℕ) → m.book (picture_now c) u ≡ m.book (picture_now a) u)
      after_books (Some x) first second = λ u. second u ∙ first u
      after_books None first second = tt

  module _ (during after : Picture → Picture → Type 0) {T : Type 0} {did : Result T Stop} {a b : HostState} (acts : Acts did during after a b) (sound : IsSound a)
      (is_within : IsTrue a.is_faithful → IsKept m (picture_now a) → (q : Picture) → during (picture_now a) q → Within m t (picture_now a) q) where
    act_tried : IsTrue a.is_faithful → IsKept m (picture_now a) → Within m t (picture_now a) (picture_now b)
    act_tried f kept = is_within f kept (picture_now b) (acts.tried f)

    act_inside : IsTrue a.is_honest → AllSettled a → IsKept m (picture_now a) → LeavesOnly (Within m t (picture_now a)) a b
    act_inside h at_rest kept = leaves_weaker (acts.inside h at_rest) (is_within (sound.faithful h) kept)

    -- an action that may have failed, and no more
    pub act_stopped : Works m t None a b
    act_stopped = record { keeps = acts.keeps; books = λ f. tt; tried = act_tried; done = λ f kept. tt; inside = act_inside; rests = λ h at_rest kept. tt }

    -- an action that is done
    pub act_done : (next : Book) {u : T} → did ≡ Ok u → ((q : Picture) → after (picture_now a) q → (u : ℕ) → m.book q u ≡ m.book (picture_now a) u)
        → (IsTrue a.is_faithful → IsKept m (picture_now a) → (q : Picture) → after (picture_now a) q → m.fits q t next) → Works m t (Some next) a b
    act_done next done books fits = record {
      keeps = acts.keeps;
      books = λ f. books (picture_now b) (was_done (acts.done f));
      tried = act_tried;
      done = λ f kept. fits f kept (picture_now b) (was_done (acts.done f));
      inside = act_inside;
      rests = λ h at_rest kept. was_done (acts.rests h at_rest);
    }
      where
        was_done : {P : Type 0} → OnOk did P → P
        was_done {P} p = subst (λ (d : Result T Stop). OnOk d P) done p

  -- no action
  pub no_work : {a : HostState} (next : Book) → IsSound a → (IsTrue a.is_faithful → IsKept m (picture_now a) → m.fits (picture_now a) t next) → Works m t (Some next) a a
  no_work {a = a} next sound fits = works_start m lawful t (λ b. next) sound fits

-- an action said more weakly
pub acts_weaker : {T : Type 0} {did : Result T Stop} {during after : Picture → Picture → Type 0} (wanted_during wanted : Picture → Picture → Type 0) {a b : HostState} → ((q : Picture) → during (picture_now a) q → wanted_during (picture_now a) q)
    → ((q : Picture) → after (picture_now a) q → wanted (picture_now a) q) → Acts did during after a b → Acts did wanted_during wanted a b
acts_weaker {did = did} wanted_during wanted {a = a} {b = b} early late acts = record {
  keeps = acts.keeps;
  tried = λ f. early (picture_now b) (acts.tried f);
  done = λ f. on_ok_weaker did (late (picture_now b)) (acts.done f);
  inside = λ h at_rest. leaves_weaker (acts.inside h at_rest) early;
  rests = acts.rests;
}

-- an action that isn't begun
pub not_begun : {T : Type 0} {stop : Stop} (during after : Picture → Picture → Type 0) {a : HostState} → IsSound a → during (picture_now a) (picture_now a) → Acts {T = T} (Err stop) during after a a
not_begun during after {a = a} sound same = record {
  keeps = keeps-refl a;
  tried = λ f. same;
  done = λ f. tt;
  inside = λ h at_rest. only_looks (during (picture_now a)) sound (looks-refl a) h at_rest same;
  rests = λ h at_rest. tt;
}
