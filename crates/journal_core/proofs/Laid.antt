-- Bytes that are written one behind another, and then synced.
use Rattle.std.proofs.Common.{◌≡◌, ℕ, ◌+◌, ◌≤◌, List, [], ◌∷◌, ◌++◌, length, take, Option, Result, Ok, Err, IsTrue, sym, ◌∙◌, ap, subst, arith}
use Rattle.std.proofs.lemmas.List.{take-take}
use Rattle.host_model.specs.Picture.{Picture, Image, ChangesFile, OnBytes, FileStep, Same}
use Rattle.host_model.specs.State.{HostState}
use Rattle.host_model.specs.Moves.{Moves}
use Rattle.host_model.specs.Calls.{IsQuiet, Writes, Syncs, Reaches, Torn, TearsFile, overlaid, Puts}
use Rattle.host_model.specs.declared.fault.HostFault.{HostFault}
use Rattle.host_model.proofs.Bytes.{overlaid-more, length-overlaid, torn-overlaid}
use Rattle.host_model.proofs.Images.{changes_twice, after_change}
use Rattle.host_model.proofs.CallsLemmas.{quiet-then, still_faithful, still_honest, was_faithful, on_ok_of}
use Rattle.host_model.proofs.MovesLemmas.{goes_on, weaker}
use Rattle.host_model.specs.Stores.{Stores}
use Rattle.host_model.proofs.Images.{change_weaker, file_then, file_weaker, bytes_twice, bytes_weaker}
use Rattle.journal_core.specs.Records.{body}
use Rattle.journal_core.specs.Parts.{KeepsFront}

pub front-then : (n : ℕ) {x y z : List ℕ} → KeepsFront n x y → KeepsFront n y z → KeepsFront n x z
front-then n one two = record { front = two.front ∙ one.front; no_shorter = omega (arith, one.no_shorter, two.no_shorter) }

-- a torn write past the front
pub front-torn : (n at count : ℕ) {x y : List ℕ} → n ≤ at → Torn at count x y → KeepsFront n x y
front-torn n at count {x} {y} past torn = record {
  front = sym (take-take n at y past) ∙ ap (λ (l : List ℕ). take n l) torn.before ∙ take-take n at x past;
  no_shorter = torn.no_shorter;
}

pub front-puts : (n at : ℕ) {bytes x y : List ℕ} → n ≤ at → Puts at bytes x y → KeepsFront n x y
front-puts n at {bytes = bytes} {x = x} past puts = front-torn n at (length bytes) past (subst (λ (f : List ℕ). Torn at (length bytes) x f) (sym puts.is) (torn-overlaid x at bytes puts.within))

abbrev KeepsFileFront : List ℕ → ℕ → Picture → Picture → Type 0
KeepsFileFront name n = FileStep name (OnBytes (KeepsFront n))

-- the file, with these bytes written from this offset on
pub record HasLaid (name : List ℕ) (at : ℕ) (bytes : List ℕ) (old new : HostState) : Type 0 where
  pub quiet : IsQuiet old new
  pub done : IsTrue old.is_faithful → ChangesFile name (OnBytes (Puts at bytes)) old.files new.files
  pub moves : IsTrue old.is_honest → Moves (KeepsFileFront name at) (KeepsFileFront name at) old new

module _ (name : List ℕ) (at : ℕ) where
  torn_front : (next count : ℕ) → at ≤ next → (d p : Picture) → TearsFile name next count d p → KeepsFileFront name at d p
  torn_front next count past d p torn = file_weaker (OnBytes (KeepsFront at)) torn (λ x y t. bytes_weaker (KeepsFront at) t (λ f g u. front-torn at next count past u))

  front_twice : (d e p : Picture) → KeepsFileFront name at d e → KeepsFileFront name at e p → KeepsFileFront name at d p
  front_twice d e p one two = file_then (OnBytes (KeepsFront at)) one two (λ x y z k1 k2. bytes_twice (KeepsFront at) k1 k2 (λ f g h f1 f2. front-then at f1 f2))

  front_same : (d e p : Picture) → KeepsFileFront name at d e → Same e p → KeepsFileFront name at d p
  front_same d e p one same = subst (λ (q : Picture). KeepsFileFront name at d q) (sym same) one

  -- the first write
  pub laid_first : {bytes : List ℕ} {u : Unit {0}} {old new : HostState} → Writes name at bytes (Ok u) old new → HasLaid name at bytes old new
  laid_first write = record {
    quiet = write.quiet;
    done = write.done;
    moves = λ h. weaker _ _ (write.moves h) (λ d p left torn. torn_front at _ (omega arith) d p torn) (λ d p left torn. torn_front at _ (omega arith) d p torn);
  }

  -- a write right behind what is laid
  pub laid_more : {xs ys : List ℕ} (next : ℕ) {u : Unit {0}} {old mid new : HostState} → next ≡ at + length xs → HasLaid name at xs old mid → Writes name next ys (Ok u) mid new → HasLaid name at (xs ++ ys) old new
  laid_more {xs} {ys} next {u} {old} {mid} {new} is laid write = record {
    quiet = quiet-then laid.quiet write.quiet;
    done = λ f. changes_twice (OnBytes (Puts at (xs ++ ys))) (laid.done f) (write.done (still_faithful laid.quiet.keeps f))
        (λ x y z one two. bytes_twice (Puts at (xs ++ ys)) one two (λ x y z one two. record { within = one.within; is = two.is ∙ ap (λ (l : List ℕ). overlaid l next ys) one.is ∙ overlaid-more x at next xs ys one.within is }));
    moves = λ h.
        let torn = λ (e p : Picture) (t : TearsFile name next (length ys) e p). torn_front next (length ys) (omega (arith, is)) e p t in
        goes_on _ _ (laid.moves h) (write.moves (still_honest laid.quiet.keeps h)) (λ d p left one. one) (λ d e p left one two. front_twice d e p one (torn e p two)) (λ d e p left one two. front_twice d e p one (torn e p two));
  }

  -- where it is written
  pub laid_reaches : {xs : List ℕ} (next : ℕ) {old mid : HostState} → next ≡ at + length xs → HasLaid name at xs old mid → IsTrue mid.is_faithful → Reaches mid.files name next
  laid_reaches {xs} next is laid f =
      let change = laid.done (was_faithful laid.quiet.keeps f) in
      let step = change.steps in
      record { file = step.after; is = after_change change ∙ step.is; within = omega (arith, is, ap length step.steps.is, length-overlaid step.before at xs step.steps.within) }

  -- the first write fails
  pub failed_first : {bytes : List ℕ} (after : Option (List ℕ) → Option (List ℕ) → Type 0) {fault : HostFault} {old new : HostState} → Writes name at bytes {T = Unit {0}} (Err fault) old new → Stores name (OnBytes (KeepsFront at)) after {T = Unit {0}} (Err fault) old new
  failed_first {bytes} after write = record {
    quiet = write.quiet;
    tried = λ f. change_weaker (OnBytes (KeepsFront at)) (write.tried f) (λ x y t. bytes_weaker (KeepsFront at) t (λ f g u. front-torn at at (length bytes) (omega arith) u));
    done = λ f. tt;
    moves = λ h s. weaker _ _ (write.moves h) (λ d p left torn. torn_front at _ (omega arith) d p torn) (λ d p left torn. torn_front at _ (omega arith) d p torn);
    settled = λ h. tt;
  }

  -- a later write fails
  pub laid_failed : {xs ys : List ℕ} (next : ℕ) (after : Option (List ℕ) → Option (List ℕ) → Type 0) {fault : HostFault} {old mid new : HostState} → next ≡ at + length xs → HasLaid name at xs old mid → Writes name next ys {T = Unit {0}} (Err fault) mid new → Stores name (OnBytes (KeepsFront at)) after {T = Unit {0}} (Err fault) old new
  laid_failed {xs} {ys} next after {fault} is laid write = record {
    quiet = quiet-then laid.quiet write.quiet;
    tried = λ f. changes_twice (OnBytes (KeepsFront at)) (laid.done f) (write.tried (still_faithful laid.quiet.keeps f))
        (λ x y z one two. bytes_twice (KeepsFront at) one two (λ x y z one two. front-then at (front-puts at at (omega arith) one) (front-torn at next (length ys) (omega (arith, is)) two)));
    done = λ f. tt;
    moves = λ h s.
        let torn = λ (e p : Picture) (t : TearsFile name next (length ys) e p). torn_front next (length ys) (omega (arith, is)) e p t in
        goes_on _ _ (laid.moves h) (write.moves (still_honest laid.quiet.keeps h)) (λ d p left one. one) (λ d e p left one two. front_twice d e p one (torn e p two)) (λ d e p left one two. front_twice d e p one (torn e p two));
    settled = λ h. tt;
  }

  -- the sync, whether it fails or not
  pub laid_synced : {bytes : List ℕ} (payload : List ℕ) {result : Result (Unit {0}) HostFault} {old mid new : HostState} → bytes ≡ body payload ++ 0 ∷ [] → HasLaid name at bytes old mid → Syncs name result mid new → Stores name (OnBytes (KeepsFront at)) (OnBytes (Puts at (body payload ++ 0 ∷ []))) result old new
  laid_synced {bytes} payload {result} {old} {mid} {new} is laid sync = record {
    quiet = quiet-then laid.quiet sync.quiet;
    tried = λ f. subst (λ (i : Image). ChangesFile name (OnBytes (KeepsFront at)) old.files i) (sym (sync.same (still_faithful laid.quiet.keeps f))) (change_weaker (OnBytes (KeepsFront at)) (laid.done f) (λ x y p. bytes_weaker (KeepsFront at) p (λ f g u. front-puts at at (omega arith) u)));
    done = λ f. on_ok_of result (subst (λ (i : Image). ChangesFile name (OnBytes (Puts at (body payload ++ 0 ∷ []))) old.files i) (sym (sync.same (still_faithful laid.quiet.keeps f))) (subst (λ (b : List ℕ). ChangesFile name (OnBytes (Puts at b)) old.files mid.files) is (laid.done f)));
    moves = λ h s. goes_on _ _ (laid.moves h) (sync.moves (still_honest laid.quiet.keeps h)) (λ d p left one. one) front_at front_at;
    settled = λ h. sync.settled (still_honest laid.quiet.keeps h);
  }
    where
      front_at : (d e p : Picture) → old.may_leave d → KeepsFileFront name at d e → Same e p → KeepsFileFront name at d p
      front_at d e p left one two = front_same d e p one two
