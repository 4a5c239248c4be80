-- What a crash may leave after one event more.
use Rattle.std.proofs.Common.{◌≡◌, inl, inr, ℕ, ◌-◌, ◌≤◌, List, [], ◌∷◌, ◌++◌, length, take, drop, Option, Some, Vec, refl, sym, ◌∙◌, ap, subst, arith, take-append-drop}
use Rattle.std.specs.declared.alloc.Global.{Global}
use Rattle.host_model.specs.Picture.{Picture, Same, file_at, FileStep, Becomes, MayBecome}
use Rattle.host_model.proofs.Images.{set_file-set_file, set_file-own, file_nothing}
use Rattle.host_model.specs.Moves.{Reached, Moves}
use Rattle.host_model.specs.State.{Faults}
use Rattle.host_model.specs.declared.call.HostCall.{HostCall}
use Rattle.host_model.specs.Calls.{TearsFile, IsSound, SaysFront}
use Rattle.memory_host.specs.declared.event.Written.{Written}
use Rattle.memory_host.specs.declared.event.Event.{Event}
use Rattle.memory_host.specs.declared.event.Event.TheVariants.{Write, Put, CutCreate, CutRemove, Sync, Say}
use Rattle.memory_host.specs.Files.{as_file}
use Rattle.memory_host.specs.Past.{before, SaysLast, May, LeftSince, state_of}

-- what is read may stay
pub stays : (es : List Event) (now : Picture) → May es now now
stays [] now = refl
stays (e ∷ es) now = inl refl

said_again : (count : ℕ) (said : List ℕ) → take (length said - count) said ++ drop (length said - count) said ≡ said
said_again count said = take-append-drop (length said - count) said

pub said_is : (es : List Event) (now p : Picture) → May es now p → p.said ≡ now.said
said_is [] now p is = ap (λ (q : Picture). q.said) is
said_is (e ∷ es) now p (inl is) = ap (λ (q : Picture). q.said) is
said_is (Write w ∷ es) now p (inr r) = r.steps.said ∙ said_is es (before (Write w) now) r.start r.left
said_is (Put name was ∷ es) now p (inr r) = r.steps.said ∙ said_is es (before (Put name was) now) r.start r.left
said_is (CutCreate name ∷ es) now p (inr r) = r.steps.said ∙ said_is es now r.start r.left
said_is (CutRemove name was ∷ es) now p (inr r) = r.steps.said ∙ said_is es (before (CutRemove name was) now) r.start r.left
said_is (Sync name ∷ es) now p (inr b) = said_is es now p b.0
said_is (Say count ∷ es) now p (inr r) = r.steps.said ∙ ap (λ (l : List ℕ). l ++ drop (length now.said - count) now.said) (said_is es (before (Say count) now) r.start r.left) ∙ said_again count now.said

not_later : (es : List Event) (now : Picture) (t : ℕ) (p : Picture) → LeftSince es now t p → t ≤ length es
not_later [] now t p left = left.0
not_later (e ∷ es) now t p (inl left) = omega (arith, not_later es (before e now) t p left)
not_later (e ∷ es) now t p (inr left) = left.0

counts_now : (es : List Event) (now : Picture) (t : ℕ) (p : Picture) → t ≤ length es → May es now p → LeftSince es now t p
counts_now [] now t p le may = (le, may)
counts_now (e ∷ es) now t p le may = inr (le, may)

only_now : (es : List Event) (now p : Picture) → LeftSince es now (length es) p → May es now p
only_now [] now p left = left.1
only_now (e ∷ es) now p (inl left) = absurd (let late = not_later es (before e now) (length (e ∷ es)) p left in omega arith)
only_now (e ∷ es) now p (inr left) = left.1

pub sound : (past : List Event) (now : Picture) (script : List ℕ) (faults found : Faults) (last : Option HostCall) → IsSound (state_of past now script faults found last)
sound past now script faults found last = record {
  faithful = λ h. h;
  stays = λ h. stays past now;
  said = λ h p may. said_is past now p may;
  counts_now = λ h t p le may. counts_now past now t p le may;
  only_now = λ h p left. only_now past now p left;
}

-- no event
pub moves_same : (past : List Event) (now : Picture) (script script' : List ℕ) (faults faults' found found' : Faults) (last last' : Option HostCall) → Moves Same Same (state_of past now script faults found last) (state_of past now script' faults' found' last')
moves_same past now script script' faults faults' found found' last last' = record {
  later = omega arith;
  between = λ t p le left. inl left;
  remembers = λ t p le left. left;
  at_end = λ p may. record { start = p; left = may; steps = refl };
}

-- an event more
pub moves_push : (past : List Event) (e : Event) (was now : Picture) (script script' : List ℕ) (faults faults' found found' : Faults) (last last' : Option HostCall) (step : Picture → Picture → Type 0) → before e now ≡ was
    → ((p : Picture) → May (e ∷ past) now p → Reached (May past was) step p)
    → Moves step step (state_of past was script faults found last) (state_of (e ∷ past) now script' faults' found' last')
moves_push past e was now script script' faults faults' found found' last last' step undone here = record {
  later = omega arith;
  between = λ t p le left. elim left [
    | inl earlier ↦ inl (subst (λ (q : Picture). LeftSince past q t p) undone earlier)
    | inr newest ↦ inr (here p newest.1)
  ];
  remembers = λ t p le left. inl (subst (λ (q : Picture). LeftSince past q t p) (sym undone) left);
  at_end = λ p may. here p may;
}

-- what each kind of event may leave
pub write_leaves : (past : List Event) (w : Written) (was now : Picture) → before (Write w) now ≡ was → TearsFile w.name w.at w.count was now → (p : Picture) → May (Write w ∷ past) now p → Reached (May past was) (TearsFile w.name w.at w.count) p
write_leaves past w was now undone torn p (inl is) = record { start = was; left = stays past was; steps = subst (λ (q : Picture). TearsFile w.name w.at w.count was q) (sym is) torn }
write_leaves past w was now undone torn p (inr r) = subst (λ (q : Picture). Reached (May past q) (TearsFile w.name w.at w.count) p) undone r

-- the file that was put again
put_again : (name : List ℕ) (was : Option (Vec ℕ Global)) (now : Picture) → FileStep name (Becomes (file_at now.image name)) (before (Put name was) now) now
put_again name was now = record {
  said = refl;
  steps = record {
    after = file_at now.image name;
    steps = refl;
    is = sym (set_file-set_file now.image name (as_file was) (file_at now.image name) ∙ set_file-own now.image name (file_at now.image name) refl);
  };
}

pub put_leaves : (past : List Event) (name : List ℕ) (made : Option (Vec ℕ Global)) (was now : Picture) → before (Put name made) now ≡ was → (p : Picture) → May (Put name made ∷ past) now p → Reached (May past was) (FileStep name (Becomes (file_at now.image name))) p
put_leaves past name made was now undone p may = subst (λ (q : Picture). Reached (May past q) (FileStep name (Becomes (file_at now.image name))) p) undone (at_once may)
  where
    at_once : May (Put name made ∷ past) now p → Reached (May past (before (Put name made) now)) (FileStep name (Becomes (file_at now.image name))) p
    at_once (inl is) = record { start = before (Put name made) now; left = stays past _; steps = subst (λ (q : Picture). FileStep name (Becomes (file_at now.image name)) (before (Put name made) now) q) (sym is) (put_again name made now) }
    at_once (inr r) = r

pub cut_create_leaves : (past : List Event) (name : List ℕ) (now p : Picture) → May (CutCreate name ∷ past) now p → Reached (May past now) (FileStep name (MayBecome (Some []))) p
cut_create_leaves past name now p (inl is) = record { start = now; left = stays past now; steps = subst (λ (q : Picture). FileStep name (MayBecome (Some [])) now q) (sym is) (file_nothing name (MayBecome (Some [])) now (inl refl)) }
cut_create_leaves past name now p (inr r) = r

pub cut_remove_leaves : (past : List Event) (name : List ℕ) (made : Vec ℕ Global) (was now : Picture) → before (CutRemove name made) now ≡ was → (p : Picture) → May (CutRemove name made ∷ past) now p → Reached (May past was) (FileStep name (MayBecome (file_at now.image name))) p
cut_remove_leaves past name made was now undone p may = subst (λ (q : Picture). Reached (May past q) (FileStep name (MayBecome (file_at now.image name))) p) undone (at_once may)
  where
    step : FileStep name (MayBecome (file_at now.image name)) (before (CutRemove name made) now) now
    step = record {
      said = refl;
      steps = record {
        after = file_at now.image name;
        steps = inr refl;
        is = sym (set_file-set_file now.image name (Some made.items) (file_at now.image name) ∙ set_file-own now.image name (file_at now.image name) refl);
      };
    }

    at_once : May (CutRemove name made ∷ past) now p → Reached (May past (before (CutRemove name made) now)) (FileStep name (MayBecome (file_at now.image name))) p
    at_once (inl is) = record { start = before (CutRemove name made) now; left = stays past _; steps = subst (λ (q : Picture). FileStep name (MayBecome (file_at now.image name)) (before (CutRemove name made) now) q) (sym is) step }
    at_once (inr r) = r

pub sync_leaves : (past : List Event) (name : List ℕ) (now p : Picture) → May (Sync name ∷ past) now p → Reached (May past now) Same p
sync_leaves past name now p (inl is) = record { start = now; left = stays past now; steps = is }
sync_leaves past name now p (inr b) = record { start = p; left = b.0; steps = refl }

pub sync_settles : (past : List Event) (name : List ℕ) (now p : Picture) → May (Sync name ∷ past) now p → file_at p.image name ≡ file_at now.image name
sync_settles past name now p (inl is) = ap (λ (q : Picture). file_at q.image name) is
sync_settles past name now p (inr b) = b.1

-- the bytes that were said last are a front of those that were to be said
pub record SaidLast (bytes : List ℕ) (count : ℕ) (now : List ℕ) : Type 0 where
  pub front : ℕ
  pub is : drop (length now - count) now ≡ take front bytes

pub say_leaves : (past : List Event) (count : ℕ) (bytes : List ℕ) (was now : Picture) → before (Say count) now ≡ was → SaidLast bytes count now.said → (p : Picture) → May (Say count ∷ past) now p → Reached (May past was) (SaysFront bytes) p
say_leaves past count bytes was now undone last p may = subst (λ (q : Picture). Reached (May past q) (SaysFront bytes) p) undone (at_once may)
  where
    says : (old new : Picture) → SaysLast count now.said old new → SaysFront bytes old new
    says old new one = record { image = one.image; count = last.front; said = one.said ∙ ap (λ (l : List ℕ). old.said ++ l) last.is }

    at_once : May (Say count ∷ past) now p → Reached (May past (before (Say count) now)) (SaysFront bytes) p
    at_once (inl is) = record { start = before (Say count) now; left = stays past _; steps = subst (λ (q : Picture). SaysFront bytes (before (Say count) now) q) (sym is) (says _ _ (record { image = refl; said = sym (said_again count now.said) })) }
    at_once (inr r) = record { start = r.start; left = r.left; steps = says r.start p r.steps }
