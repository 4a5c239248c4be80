-- Durable changes, said in other ways.
use Rattle.std.proofs.Common.{◌≡◌, ℕ, List, Result, Ok, Err, IsTrue, refl, sym, ap, subst}
use Rattle.std.proofs.lemmas.Result.{on_ok_weaker}
use Rattle.host_model.specs.Picture.{Picture, Image, ImageStep, Same, file_at}
use Rattle.host_model.specs.State.{HostState}
use Rattle.host_model.specs.Calls.{IsSound}
use Rattle.host_model.specs.Alters.{Alters}
use Rattle.host_model.proofs.CallsLemmas.{quiet-refl}
use Rattle.host_model.proofs.MovesLemmas.{started, weaker}

-- nothing was done
pub alters_nothing : (own : List ℕ → Type 0) (during after : Image → Image → Type 0) {T E : Type 0} (fault : E) (state : HostState) → ((i : Image) → during i i) → Alters own during after {T = T} (Err fault) state state
alters_nothing own during after fault state stays = record {
  quiet = quiet-refl state;
  tried = λ f. stays state.files;
  done = λ f. tt;
  moves = λ h s. weaker (ImageStep during) (ImageStep during) (started state) same same;
  settled = λ h. tt;
  rests = λ h s. tt;
}
  where
    same : (d p : Picture) → state.may_leave d → Same d p → ImageStep during d p
    same d p now is = record { said = ap (λ q. q.said) is; steps = subst (λ i. during d.image i) (sym (ap (λ q. q.image) is)) (stays d.image) }

module _ {own : List ℕ → Type 0} {D A : Image → Image → Type 0} {T E : Type 0} {result : Result T E} {a b : HostState} where
  -- the same said more weakly, of images that agree on these files
  pub alters_weaker : (during after : Image → Image → Type 0) → IsSound a → Alters own D A result a b
      → (IsTrue a.is_faithful → (d p : Image) → ((q : List ℕ) → own q → file_at d q ≡ file_at a.files q) → D d p → during d p)
      → (IsTrue a.is_faithful → (d p : Image) → ((q : List ℕ) → own q → file_at d q ≡ file_at a.files q) → A d p → after d p)
      → Alters own during after result a b
  alters_weaker during after sound one early late = record {
    quiet = one.quiet;
    tried = λ f. early f a.files b.files (λ q owns. refl) (one.tried f);
    done = λ f. on_ok_weaker result (λ change. late f a.files b.files (λ q owns. refl) change) (one.done f);
    moves = λ h s.
        let step : (d p : Picture) → a.may_leave d → ImageStep D d p → ImageStep during d p = λ d p now change. record { said = change.said; steps = early (sound.faithful h) d.image p.image (λ q owns. s.each d now q owns) change.steps } in
        weaker (ImageStep during) (ImageStep during) (one.moves h s) step step;
    settled = one.settled;
    rests = one.rests;
  }

-- the same at other types of answers
pub alters_failed : {own : List ℕ → Type 0} {D A : Image → Image → Type 0} {T E U F : Type 0} {e : E} (f : F) {a b : HostState} → Alters own D A {T = T} (Err e) a b → Alters own D A {T = U} (Err f) a b
alters_failed f one = record { quiet = one.quiet; tried = one.tried; done = λ f. tt; moves = one.moves; settled = λ h. tt; rests = λ h s. tt }

pub alters_ok : {own : List ℕ → Type 0} {D A : Image → Image → Type 0} {T E U : Type 0} (F : Type 0) {u : T} (v : U) {a b : HostState} → Alters own D A {T = T} {E = E} (Ok u) a b → Alters own D A {T = U} {E = F} (Ok v) a b
alters_ok F v one = record { quiet = one.quiet; tried = one.tried; done = one.done; moves = one.moves; settled = one.settled; rests = one.rests }
