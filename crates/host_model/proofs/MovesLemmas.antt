-- How a run of host calls goes on.
use Rattle.std.proofs.Common.{◌⊎◌, inl, inr, ⊎_elim, ℕ, ◌≤◌, refl, arith}
use Rattle.host_model.specs.Picture.{Picture, Same}
use Rattle.host_model.specs.State.{HostState}
use Rattle.host_model.specs.Moves.{Reached, Moves}

-- before the first call
pub started : (state : HostState) → Moves Same Same state state
started state = record {
  later = omega arith;
  between = λ t p le left. inl left;
  remembers = λ t p le left. left;
  at_end = λ p now. record { start = p; left = now; steps = refl };
}

-- one stretch more
pub goes_on : {D1 A1 D2 A2 : Picture → Picture → Type 0} (D A : Picture → Picture → Type 0) {old mid new : HostState} → Moves D1 A1 old mid → Moves D2 A2 mid new
    → ((d p : Picture) → old.may_leave d → D1 d p → D d p)
    → ((d e p : Picture) → old.may_leave d → A1 d e → D2 e p → D d p)
    → ((d e p : Picture) → old.may_leave d → A1 d e → A2 e p → A d p)
    → Moves D A old new
goes_on {D1 = D1} {A1 = A1} {D2 = D2} D A {old = old} {mid = mid} {new = new} first second early late ends = record {
  later = omega (arith, first.later, second.later);
  between = λ t p le left. ⊎_elim (from_first t p le) (λ r. inr (from_second p r)) (second.between t p (omega (arith, le, first.later)) left);
  remembers = λ t p le left. second.remembers t p (omega (arith, le, first.later)) (first.remembers t p le left);
  at_end = λ p now.
      let e = second.at_end p now in
      let d = first.at_end e.start e.left in
      record { start = d.start; left = d.left; steps = ends d.start e.start p d.left d.steps e.steps };
}
  where
    from_first : (t : ℕ) (p : Picture) → t ≤ old.moment → mid.left_since t p → old.left_since t p ⊎ Reached old.may_leave D p
    from_first t p le left = ⊎_elim (λ past. inl past) (λ r. inr (record { start = r.start; left = r.left; steps = early r.start p r.left r.steps })) (first.between t p le left)

    from_second : (p : Picture) → Reached mid.may_leave D2 p → Reached old.may_leave D p
    from_second p r =
        let d = first.at_end r.start r.left in
        record { start = d.start; left = d.left; steps = late d.start r.start p d.left d.steps r.steps }

-- a stretch that is said more weakly
pub weaker : {D1 A1 : Picture → Picture → Type 0} (D A : Picture → Picture → Type 0) {old new : HostState} → Moves D1 A1 old new
    → ((d p : Picture) → old.may_leave d → D1 d p → D d p)
    → ((d p : Picture) → old.may_leave d → A1 d p → A d p)
    → Moves D A old new
weaker {D1 = D1} {A1 = A1} D A {old = old} {new = new} moves during ends = record {
  later = moves.later;
  between = λ t p le left. ⊎_elim (λ past. inl past) (λ r. inr (record { start = r.start; left = r.left; steps = during r.start p r.left r.steps })) (moves.between t p le left);
  remembers = moves.remembers;
  at_end = λ p now.
      let r = moves.at_end p now in
      record { start = r.start; left = r.left; steps = ends r.start p r.left r.steps };
}
