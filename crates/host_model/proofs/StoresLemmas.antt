-- One durable change of a file after another.
use Rattle.std.proofs.Common.{◌≡◌, ◌≤◌, ⊎_elim, ℕ, List, Option, Result, Ok, Err, IsTrue, length, sym, ◌∙◌, ap, subst, arith}
use Rattle.std.proofs.lemmas.Result.{on_ok_weaker}
use Rattle.host_model.specs.Picture.{Picture, Image, ChangesFile, OnBytes, Becomes, MayBecome, FileStep, Same, file_at, set_file}
use Rattle.host_model.specs.State.{HostState}
use Rattle.host_model.specs.Moves.{Moves}
use Rattle.host_model.specs.Calls.{IsSettled, IsSound, Writes, Syncs, Replaces, Torn, Puts, Reaches}
use Rattle.host_model.specs.Stores.{Stores}
use Rattle.host_model.specs.Leaves.{AllSettled}
use Rattle.host_model.specs.declared.call.HostCall.{HostCall}
use Rattle.host_model.specs.declared.fault.HostFault.{HostFault}
use Rattle.host_model.proofs.Bytes.{length-overlaid}
use Rattle.host_model.proofs.Images.{changes_twice, changes_nothing, change_weaker, after_change, step_of, file_then, file_weaker, file_nothing}
use Rattle.host_model.proofs.CallsLemmas.{quiet-then, quiet-refl, still_faithful, still_honest, on_ok_of}
use Rattle.host_model.proofs.MovesLemmas.{started, goes_on, weaker}

-- a step of a file, there or not
abbrev Step : Type 1
Step = Option (List ℕ) → Option (List ℕ) → Type 0

-- at Ok each crash leaves the file changed by `after`
pub stored : {name : List ℕ} {D A : Option (List ℕ) → Option (List ℕ) → Type 0} {T E : Type 0} {u : T} {a b : HostState} → Stores name D A {T = T} {E = E} (Ok u) a b → IsTrue a.is_faithful → IsTrue a.is_honest → IsSettled name a
    → Moves (FileStep name D) (FileStep name A) a b
stored {name} {D} {A} {a = a} {b = b} one f h s = record {
  later = m.later;
  between = m.between;
  remembers = m.remembers;
  at_end = λ p now.
      let r = m.at_end p now in
      let change = r.steps.steps in
      let end : file_at b.files name ≡ change.after = sym (set.each p now) ∙ after_change change in
      let start : file_at a.files name ≡ file_at r.start.image name = sym (s.each r.start r.left) in
      record {
        start = r.start;
        left = r.left;
        steps = record { said = r.steps.said; steps = record { after = change.after; steps = subst (λ x. A x change.after) start (subst (λ y. A (file_at a.files name) y) end (step_of done)); is = change.is } };
      };
}
  where
    m : Moves (FileStep name D) (FileStep name D) a b
    m = one.moves h s

    done : ChangesFile name A a.files b.files
    done = one.done f

    set : IsSettled name b
    set = one.settled h

-- one durable change, and then another
pub stores_then : {name : List ℕ} {D1 A1 D2 A2 : Option (List ℕ) → Option (List ℕ) → Type 0} (D A : Option (List ℕ) → Option (List ℕ) → Type 0) {T E U F : Type 0} {u : T} {result : Result U F} {a b c : HostState}
    → IsSound a → Stores name D1 A1 {T = T} {E = E} (Ok u) a b → Stores name D2 A2 result b c
    → ((x y : Option (List ℕ)) → D1 x y → D x y)
    → ((x y z : Option (List ℕ)) → A1 x y → D2 y z → D x z)
    → ((x y z : Option (List ℕ)) → A1 x y → A2 y z → A x z)
    → Stores name D A result a c
stores_then D A {result = result} sound one two early late ends = record {
  quiet = quiet-then one.quiet two.quiet;
  tried = λ f. changes_twice D (one.done f) (two.tried (still_faithful one.quiet.keeps f)) late;
  done = λ f. on_ok_weaker result (λ change. changes_twice A (one.done f) change ends) (two.done (still_faithful one.quiet.keeps f));
  moves = λ h s.
      goes_on _ _ (stored one (sound.faithful h) h s) (two.moves (still_honest one.quiet.keeps h) (one.settled h))
      (λ d p left step. file_weaker D step early)
      (λ d e p left first second. file_then D first second late)
      (λ d e p left first second. file_then D first second late);
  settled = λ h. two.settled (still_honest one.quiet.keeps h);
}

-- a change that failed, said more weakly
pub stores_failed : {name : List ℕ} {D1 A1 : Option (List ℕ) → Option (List ℕ) → Type 0} (D A : Option (List ℕ) → Option (List ℕ) → Type 0) {T E U F : Type 0} {e : E} (fault : F) {a b : HostState} → Stores name D1 A1 {T = T} (Err e) a b
    → ((x y : Option (List ℕ)) → D1 x y → D x y)
    → Stores name D A {T = U} (Err fault) a b
stores_failed D A fault one early = record {
  quiet = one.quiet;
  tried = λ f. change_weaker D (one.tried f) early;
  done = λ f. tt;
  moves = λ h s. weaker _ _ (one.moves h s) (λ d p left step. file_weaker D step early) (λ d p left step. file_weaker D step early);
  settled = λ h. tt;
}

-- the same at another type of errors
pub stores_ok : {name : List ℕ} {D A : Option (List ℕ) → Option (List ℕ) → Type 0} {T E U : Type 0} (F : Type 0) {u : T} (v : U) {a b : HostState} → Stores name D A {T = T} {E = E} (Ok u) a b → Stores name D A {T = U} {E = F} (Ok v) a b
stores_ok F v one = record { quiet = one.quiet; tried = one.tried; done = one.done; moves = one.moves; settled = one.settled }

-- what is done, said more weakly
pub stores_weaker : {name : List ℕ} {D1 A1 : Option (List ℕ) → Option (List ℕ) → Type 0} (D A : Option (List ℕ) → Option (List ℕ) → Type 0) {T E : Type 0} {result : Result T E} {a b : HostState} → Stores name D1 A1 result a b
    → ((x y : Option (List ℕ)) → D1 x y → D x y)
    → ((x y : Option (List ℕ)) → A1 x y → A x y)
    → Stores name D A result a b
stores_weaker D A {result = result} one during ends = record {
  quiet = one.quiet;
  tried = λ f. change_weaker D (one.tried f) during;
  done = λ f. on_ok_weaker result (λ change. change_weaker A change ends) (one.done f);
  moves = λ h s. weaker _ _ (one.moves h s) (λ d p left step. file_weaker D step during) (λ d p left step. file_weaker D step during);
  settled = one.settled;
}

-- a write and a sync
pub write_synced : {name : List ℕ} {at : ℕ} {bytes : List ℕ} {T U : Type 0} {u : T} {result : Result U HostFault} {old mid new : HostState} → Writes name at bytes (Ok u) old mid → Syncs name result mid new
    → Stores name (OnBytes (Torn at (length bytes))) (OnBytes (Puts at bytes)) result old new
write_synced {name} {at} {bytes} {result = result} {old} {mid} {new} write sync = record {
  quiet = quiet-then write.quiet sync.quiet;
  tried = λ f. subst (λ (i : Image). ChangesFile name (OnBytes (Torn at (length bytes))) old.files i) (sym (sync.same (still_faithful write.quiet.keeps f))) (write.tried f);
  done = λ f. on_ok_of result (subst (λ (i : Image). ChangesFile name (OnBytes (Puts at bytes)) old.files i) (sym (sync.same (still_faithful write.quiet.keeps f))) (write.done f));
  moves = λ h s. goes_on _ _ (write.moves h) (sync.moves (still_honest write.quiet.keeps h)) (λ d p left one. one) stays stays;
  settled = λ h. sync.settled (still_honest write.quiet.keeps h);
}
  where
    stays : (d e p : Picture) → old.may_leave d → FileStep name (OnBytes (Torn at (length bytes))) d e → Same e p → FileStep name (OnBytes (Torn at (length bytes))) d p
    stays d e p left one same = subst (λ (q : Picture). FileStep name (OnBytes (Torn at (length bytes))) d q) (sym same) one

-- a write that fails is one that failed with its sync
pub write_failed : {name : List ℕ} {at : ℕ} {bytes : List ℕ} (A : Option (List ℕ) → Option (List ℕ) → Type 0) {T U F : Type 0} {e : HostFault} (fault : F) {old new : HostState} → Writes name at bytes {T = T} (Err e) old new
    → Stores name (OnBytes (Torn at (length bytes))) A {T = U} (Err fault) old new
write_failed A fault write = record { quiet = write.quiet; tried = write.tried; done = λ f. tt; moves = λ h s. write.moves h; settled = λ h. tt }

-- a file made anew, or taken out
pub replaced : {kind : HostCall} {name : List ℕ} {file : Option (List ℕ)} {T : Type 0} {result : Result T HostFault} {old new : HostState} → IsSound old → Replaces kind name file result old new → Stores name (MayBecome file) (Becomes file) result old new
replaced {name} {file} {result = Err e} sound call = record { quiet = call.quiet; tried = call.tried; done = call.done; moves = λ h s. call.moves h; settled = λ h. tt }
replaced {name} {file} {result = Ok u} {old = old} {new = new} sound call = record {
  quiet = call.quiet;
  tried = call.tried;
  done = call.done;
  moves = λ h s. call.moves h;
  settled = λ h.
      let lasts : Moves (FileStep name (MayBecome file)) (FileStep name (Becomes file)) old new = call.lasting h in
      let done : ChangesFile name (Becomes file) old.files new.files = call.done (sound.faithful h) in
      record { each = λ p now. let r = lasts.at_end p now in step_of r.steps.steps ∙ sym (step_of done) };
}

-- nothing was done
pub stores_nothing : (name : List ℕ) (D A : Option (List ℕ) → Option (List ℕ) → Type 0) {T E : Type 0} (fault : E) (state : HostState) → IsSound state → (IsTrue state.is_faithful → D (file_at state.files name) (file_at state.files name))
    → Stores name D A {T = T} (Err fault) state state
stores_nothing name D A fault state sound stays = record {
  quiet = quiet-refl state;
  tried = λ f. changes_nothing name D state.files (stays f);
  done = λ f. tt;
  moves = λ h s.
      let same : (d p : Picture) → state.may_leave d → Same d p → FileStep name D d p = λ d p left is.
      subst (λ (q : Picture). FileStep name D d q) (sym is) (file_nothing name D d (subst (λ o. D o o) (sym (s.each d left)) (stays (sound.faithful h)))) in
      weaker _ _ (started state) same same;
  settled = λ h. tt;
}

-- where the next bytes may go
pub reaches_after : {name : List ℕ} {D : Option (List ℕ) → Option (List ℕ) → Type 0} {at : ℕ} {bytes : List ℕ} {T E : Type 0} {u : T} {old mid : HostState} (next : ℕ) → Stores name D (OnBytes (Puts at bytes)) {T = T} {E = E} (Ok u) old mid → next ≤ at → IsTrue old.is_faithful → Reaches mid.files name next
reaches_after {name} {D} {at} {bytes} {old = old} {mid = mid} next stores le f =
    let change : ChangesFile name (OnBytes (Puts at bytes)) old.files mid.files = stores.done f in
    let step = change.steps in
    record { file = step.after; is = after_change change ∙ step.is; within = omega (arith, le, step.steps.within, ap length step.steps.is, length-overlaid step.before at bytes step.steps.within) }

-- where no write is pending, none is pending on one file
pub settled_one : (name : List ℕ) (state : HostState) → AllSettled state → IsSettled name state
settled_one name state all = record { each = λ p now. ap (λ i. file_at i name) (all.each p now) }

-- a durable change leaves no write pending
pub all_settled : {name : List ℕ} {D A : Option (List ℕ) → Option (List ℕ) → Type 0} {T E : Type 0} {u : T} {a b : HostState} → Stores name D A {T = T} {E = E} (Ok u) a b → IsTrue a.is_faithful → IsTrue a.is_honest → AllSettled a → AllSettled b
all_settled {name} {D} {A} {a = a} {b = b} one f h all = record {
  each = λ p now.
      let r = m.at_end p now in
      let change = r.steps.steps in
      let same : change.after ≡ done.after = sym (after_change change) ∙ set.each p now ∙ after_change done in
      change.is ∙ ap (λ i. set_file i name change.after) (all.each r.start r.left) ∙ ap (λ o. set_file a.files name o) same ∙ sym done.is;
}
  where
    m : Moves (FileStep name D) (FileStep name D) a b
    m = one.moves h (settled_one name a all)

    done : ChangesFile name A a.files b.files
    done = one.done f

    set : IsSettled name b
    set = one.settled h

-- what holds of each crash in between, from what each start and step give
pub stores_leaves : {name : List ℕ} {D A : Option (List ℕ) → Option (List ℕ) → Type 0} {T E : Type 0} {result : Result T E} {a b : HostState} → IsSound a → Stores name D A result a b → IsTrue a.is_honest → AllSettled a → (P : Picture → Type 0)
    → ((p : Picture) → p.image ≡ a.files → p.said ≡ a.said → P p)
    → ((p : Picture) → ChangesFile name D a.files p.image → p.said ≡ a.said → P p)
    → (p : Picture) → b.left_since a.moment p → P p
stores_leaves {name} {D} {a = a} sound one h all P start step p left =
    ⊎_elim
    (λ past. let now = sound.only_now h p past in start p (all.each p now) (sound.said h p now))
    (λ r. step p (subst (λ i. ChangesFile name D i p.image) (all.each r.start r.left) r.steps.steps) (r.steps.said ∙ sound.said h r.start r.left))
    ((one.moves h (settled_one name a all)).between a.moment p (omega arith) left)
