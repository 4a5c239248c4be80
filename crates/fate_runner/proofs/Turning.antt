-- How the parts of a turn make a turn.
use Rattle.std.proofs.Common.{◌≡◌, ◌⊎◌, inl, inr, ⊎_elim, ℕ, ◌≤◌, Option, Some, Result, Ok, Err, IsTrue, IsErr, OnOk, IfOk, refl, sym, ◌∙◌, ap, subst, arith, rules}
use Rattle.std.proofs.lemmas.Bool.Decides.{eqb_tells}
use Rattle.host_model.specs.Picture.{Picture}
use Rattle.host_model.specs.State.{HostState, picture_now}
use Rattle.host_model.specs.Calls.{Keeps, Looks, IsSound}
use Rattle.host_model.specs.Leaves.{LeavesOnly, AllSettled}
use Rattle.host_model.specs.declared.fault.Stop.{Stop}
use Rattle.host_model.proofs.CallsLemmas.{keeps-refl, keeps-then, looks-refl, still_faithful, still_honest}
use Rattle.host_model.proofs.LeavesLemmas.{leaves_weaker, leaves_then, same_leave, rests_after_same}
use Rattle.fate_runner.specs.Book.{Book, Meaning, IsKept, SetsBook, Within, IsLawful}
use Rattle.fate_runner.specs.Works.{Acts, Sets, MaySetBook, Works}
use Rattle.fate_runner.specs.Turn.{IsGiven, InTurn, Takes}
use Rattle.fate_runner.specs.declared.forms.Turned.{Turned}

-- a stretch that only looks
pub now_same : {a b : HostState} → Looks a b → IsTrue a.is_faithful → picture_now b ≡ picture_now a
now_same {a = a} {b = b} looks f = ap (λ i. let p : Picture = record { image = i; said = b.said } in p) (looks.same f) ∙ ap (λ s. let p : Picture = record { image = a.files; said = s } in p) (looks.quiet.said f)

pub rest_after : {a b : HostState} → IsSound a → Looks a b → IsTrue a.is_honest → AllSettled a → AllSettled b
rest_after sound looks h at_rest = rests_after_same (looks.moves h) (looks.same (sound.faithful h)) at_rest

pub only_looks : (P : Picture → Type 0) {a b : HostState} → IsSound a → Looks a b → IsTrue a.is_honest → AllSettled a → P (picture_now a) → LeavesOnly P a b
only_looks P sound looks h at_rest here = same_leave P sound h at_rest (looks.moves h) here

if_ok : (P : Turned → Type 0) (result : Result Turned Stop) → IsErr result → IfOk result P
if_ok P (Ok x) is = absurd (search rules)
if_ok P (Err e) is = tt

on_ok : (P : Type 0) (result : Result Turned Stop) → IsErr result → OnOk result P
on_ok P (Ok x) is = absurd (search rules)
on_ok P (Err e) is = tt

module _ (m : Meaning) (lawful : IsLawful m) (t : ℕ) where
  -- a picture inside the work of a step is kept
  pub within_kept : {old p : Picture} → IsKept m old → Within m t old p → IsKept m p
  within_kept {old = old} {p = p} kept within = record { rest = within.rest; fits = each }
    where
      each : (u : ℕ) → m.fits p u (m.book p u)
      each u = subst (λ b. m.fits p u b) (sym (within.books u)) (⊎_elim (λ same. subst (λ v. m.fits p v (m.book old v)) (sym same.1) within.fits) (λ other. lawful.relies u old p (m.book old u) (within.others u other.1) (kept.fits u)) (eqb_tells u t))

  -- before the work
  pub within_start : {p : Picture} → IsKept m p → Within m t p p
  within_start {p = p} kept = record { books = λ u. refl; rest = kept.rest; fits = kept.fits t; others = λ u other. lawful.stays u p }

  -- no work before the action
  pub works_start : {a : HostState} (move : Book → Book) → IsSound a → (IsTrue a.is_faithful → IsKept m (picture_now a) → m.fits (picture_now a) t (move (m.book (picture_now a) t))) → Works m t (Some (move (m.book (picture_now a) t))) a a
  works_start {a = a} move sound fits = record {
    keeps = keeps-refl a;
    books = λ f u. refl;
    tried = λ f kept. within_start kept;
    done = fits;
    inside = λ h at_rest kept. only_looks (Within m t (picture_now a)) sound (looks-refl a) h at_rest (within_start kept);
    rests = λ h at_rest kept. at_rest;
  }

  -- what a step promises over a faithful disk alone
  pub works_when : {next : Option Book} {a b : HostState} → IsSound a → Keeps a b → (IsTrue a.is_faithful → Works m t next a b) → Works m t next a b
  works_when sound keeps works = record {
    keeps = keeps;
    books = λ f. (works f).books f;
    tried = λ f kept. (works f).tried f kept;
    done = λ f kept. (works f).done f kept;
    inside = λ h at_rest kept. (works (sound.faithful h)).inside h at_rest kept;
    rests = λ h at_rest kept. (works (sound.faithful h)).rests h at_rest kept;
  }

  module _ (rule : Turned → Book → Type 0) where
    pub within_in_turn : {old p : Picture} → IsKept m old → Within m t old p → InTurn m t rule old p
    within_in_turn kept within = record { kept = within_kept kept within; book = inl (within.books t); others = within.others }

    -- before the turn
    pub turn_start : {p : Picture} → IsKept m p → InTurn m t rule p p
    turn_start kept = within_in_turn kept (within_start kept)

    -- after the work its book is set
    pub set_in_turn : {old p q : Picture} (b : Book) → IsKept m old → Within m t old p → m.fits p t b → (b ≡ m.book old t) ⊎ IsGiven rule b → SetsBook m.book m.alike t b p q → InTurn m t rule old q
    set_in_turn {old = old} {p = p} {q = q} b kept within fits given sets = record {
      kept = record { rest = lawful.alike_rest p q sets.same within.rest; fits = each };
      book = subst (λ n. (n ≡ m.book old t) ⊎ IsGiven rule n) (sym sets.is) given;
      others = λ u other. lawful.goes_on u old p q (within.others u other) (lawful.alike_leaves u p q sets.same (sets.others u other));
    }
      where
        here : IsKept m p
        here = within_kept kept within

        own : m.fits q t (m.book q t)
        own = subst (λ n. m.fits q t n) (sym sets.is) (lawful.alike_fits t p q b sets.same fits)

        each : (u : ℕ) → m.fits q u (m.book q u)
        each u = ⊎_elim (λ same. subst (λ v. m.fits q v (m.book q v)) (sym same.1) own) (λ other. subst (λ n. m.fits q u n) (sym (sets.others u other.1)) (lawful.relies u p q (m.book p u) (lawful.alike_leaves u p q sets.same (sets.others u other.1)) (here.fits u))) (eqb_tells u t)

    -- a stretch that only looks, in a turn
    looked : {a b : HostState} → Looks a b → IsTrue a.is_faithful → IsKept m (picture_now a) → InTurn m t rule (picture_now a) (picture_now b)
    looked {a = a} looks f kept = subst (λ p. InTurn m t rule (picture_now a) p) (sym (now_same looks f)) (turn_start kept)

    -- the work after it
    worked : {a b : HostState} {p : Picture} → Looks a b → IsTrue a.is_faithful → IsKept m (picture_now a) → Within m t (picture_now b) p → InTurn m t rule (picture_now a) p
    worked {p = p} looks f kept within = within_in_turn kept (subst (λ o. Within m t o p) (now_same looks f) within)

    -- the turn stops before its action
    pub works_stop : {a b c : HostState} {next : Option Book} (result : Result Turned Stop) → IsErr result → IsSound a → Looks a b → Works m t next b c → Takes m t rule result a c
    works_stop {a = a} {b = b} {c = c} result is_err sound looks works = record {
      keeps = keeps-then looks.quiet.keeps works.keeps;
      turn = λ f kept. if_ok _ result is_err;
      tried = λ f kept. worked looks f kept (works.tried (still_faithful looks.quiet.keeps f) (kept_b f kept));
      inside = λ h at_rest kept.
          let f = sound.faithful h in
          leaves_then (only_looks (InTurn m t rule (picture_now a)) sound looks h at_rest (turn_start kept))
          (leaves_weaker (works.inside (still_honest looks.quiet.keeps h) (rest_after sound looks h at_rest) (kept_b f kept)) (λ p within. worked looks f kept within));
      rests = λ h at_rest kept. on_ok _ result is_err;
    }
      where
        kept_b : IsTrue a.is_faithful → IsKept m (picture_now a) → IsKept m (picture_now b)
        kept_b f kept = subst (λ p. IsKept m p) (sym (now_same looks f)) kept

    -- the transaction waits
    pub waits : {a b : HostState} (turned : Turned) → IsSound a → Looks a b → (IsTrue a.is_faithful → IsKept m (picture_now a) → rule turned (m.book (picture_now a) t)) → Takes m t rule (Ok turned) a b
    waits {a = a} {b = b} turned sound looks is = record {
      keeps = looks.quiet.keeps;
      turn = λ f kept. subst (λ p. rule turned (m.book p t)) (sym (now_same looks f)) (is f kept);
      tried = λ f kept. looked looks f kept;
      inside = λ h at_rest kept. only_looks (InTurn m t rule (picture_now a)) sound looks h at_rest (turn_start kept);
      rests = λ h at_rest kept. rest_after sound looks h at_rest;
    }

    -- the action after the work
    module _ (move : Book → Book) (turned : Turned) {T : Type 0} {did : Result T Stop} {a b c d : HostState} (sound : IsSound a) (sound_b : IsSound b) (looks : Looks a b) (works : Works m t (Some (move (m.book (picture_now b) t))) b c)
        (acts : Sets did m.book m.alike t (move (m.book (picture_now c) t)) c d) (is : IsTrue a.is_faithful → IsKept m (picture_now a) → rule turned (move (m.book (picture_now a) t))) where
      kept_b : IsTrue a.is_faithful → IsKept m (picture_now a) → IsKept m (picture_now b)
      kept_b f kept = subst (λ p. IsKept m p) (sym (now_same looks f)) kept

      is_b : IsTrue a.is_faithful → IsKept m (picture_now a) → rule turned (move (m.book (picture_now b) t))
      is_b f kept = subst (λ p. rule turned (move (m.book p t))) (sym (now_same looks f)) (is f kept)

      -- the work until here
      within : IsTrue a.is_faithful → IsKept m (picture_now a) → Within m t (picture_now b) (picture_now c)
      within f kept = works.tried (still_faithful looks.quiet.keeps f) (kept_b f kept)

      -- the action is made or not
      late : IsTrue a.is_faithful → IsKept m (picture_now a) → (p : Picture) → MaySetBook m.book m.alike t (move (m.book (picture_now c) t)) (picture_now c) p → InTurn m t rule (picture_now a) p
      late f kept p found = subst (λ o. InTurn m t rule o p) (now_same looks f) (⊎_elim stays sets found)
        where
          here : Within m t (picture_now b) (picture_now c)
          here = within f kept

          stays : SetsBook m.book m.alike t (m.book (picture_now c) t) (picture_now c) p → InTurn m t rule (picture_now b) p
          stays same = set_in_turn (m.book (picture_now b) t) (kept_b f kept) here here.fits (inl refl) (subst (λ o. SetsBook m.book m.alike t o (picture_now c) p) (here.books t) same)

          sets : SetsBook m.book m.alike t (move (m.book (picture_now c) t)) (picture_now c) p → InTurn m t rule (picture_now b) p
          sets done = set_in_turn (move (m.book (picture_now b) t)) (kept_b f kept) here (works.done (still_faithful looks.quiet.keeps f) (kept_b f kept)) (inr (record { turned = turned; rules = is_b f kept })) (subst (λ o. SetsBook m.book m.alike t (move o) (picture_now c) p) (here.books t) done)

      acted_tried : IsTrue a.is_faithful → IsKept m (picture_now a) → InTurn m t rule (picture_now a) (picture_now d)
      acted_tried f kept = late f kept (picture_now d) (acts.tried (still_faithful works.keeps (still_faithful looks.quiet.keeps f)))

      acted_inside : IsTrue a.is_honest → AllSettled a → IsKept m (picture_now a) → LeavesOnly (InTurn m t rule (picture_now a)) a d
      acted_inside h at_rest kept = leaves_then to_b (leaves_then (leaves_weaker (works.inside h_b rest_b (kept_b f kept)) (λ p done. worked looks f kept done)) (leaves_weaker (acts.inside h_c (works.rests h_b rest_b (kept_b f kept))) (late f kept)))
        where
          f : IsTrue a.is_faithful
          f = sound.faithful h

          h_b : IsTrue b.is_honest
          h_b = still_honest looks.quiet.keeps h

          h_c : IsTrue c.is_honest
          h_c = still_honest works.keeps h_b

          rest_b : AllSettled b
          rest_b = rest_after sound looks h at_rest

          to_b : LeavesOnly (InTurn m t rule (picture_now a)) a b
          to_b = only_looks (InTurn m t rule (picture_now a)) sound looks h at_rest (turn_start kept)

      -- it fails
      pub act_stops : (result : Result Turned Stop) → IsErr result → Takes m t rule result a d
      act_stops result is_err = record {
        keeps = keeps-then looks.quiet.keeps (keeps-then works.keeps acts.keeps);
        turn = λ f kept. if_ok _ result is_err;
        tried = acted_tried;
        inside = acted_inside;
        rests = λ h at_rest kept. on_ok _ result is_err;
      }

      -- it is done
      pub acted : {u : T} → did ≡ Ok u → Takes m t rule (Ok turned) a d
      acted done = record {
        keeps = keeps-then looks.quiet.keeps (keeps-then works.keeps acts.keeps);
        turn = after;
        tried = acted_tried;
        inside = acted_inside;
        rests = λ h at_rest kept. was_done (acts.rests (still_honest works.keeps (still_honest looks.quiet.keeps h)) (works.rests (still_honest looks.quiet.keeps h) (rest_after sound looks h at_rest) (kept_b (sound.faithful h) kept)));
      }
        where
          was_done : {P : Type 0} → OnOk did P → P
          was_done {P} p = subst (λ (r : Result T Stop). OnOk r P) done p

          after : IsTrue a.is_faithful → IsKept m (picture_now a) → rule turned (m.book (picture_now d) t)
          after f kept =
              let f_c = still_faithful works.keeps (still_faithful looks.quiet.keeps f) in
              let sets = was_done (acts.done f_c) in
              subst (λ o. rule turned o) (sym (sets.is ∙ ap move ((within f kept).books t))) (is_b f kept)
