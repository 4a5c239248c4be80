-- A durable change of one file, said of whole images.
use Rattle.std.proofs.Common.{◌≡◌, ℕ, List, Option, Result, Ok, Err, IsTrue, OnOk, refl, sym, subst}
use Rattle.std.proofs.lemmas.Result.{on_ok_weaker}
use Rattle.host_model.specs.Picture.{Picture, Image, ImageStep, ChangesFile, FileStep, file_at}
use Rattle.host_model.specs.State.{HostState}
use Rattle.host_model.specs.Calls.{IsSound, IsSettled}
use Rattle.host_model.specs.Stores.{Stores}
use Rattle.host_model.specs.Leaves.{AllSettled}
use Rattle.host_model.specs.Alters.{Alters}
use Rattle.host_model.proofs.MovesLemmas.{weaker}
use Rattle.host_model.proofs.StoresLemmas.{all_settled}

module _ {name : List ℕ} {D A : Option (List ℕ) → Option (List ℕ) → Type 0} {T E : Type 0} {result : Result T E} {a b : HostState} where
  -- `own` are the files of the one that changes it: this file, at the most
  pub alters_of : (own : List ℕ → Type 0) (during after : Image → Image → Type 0) → IsSound a → Stores name D A result a b
      → own name → ((q : List ℕ) → own q → q ≡ name)
      → ((d p : Image) → file_at d name ≡ file_at a.files name → ChangesFile name D d p → during d p)
      → ((d p : Image) → file_at d name ≡ file_at a.files name → ChangesFile name A d p → after d p)
      → Alters own during after result a b
  alters_of own during after sound stores owns only early late = record {
    quiet = stores.quiet;
    tried = λ f. early a.files b.files refl (stores.tried f);
    done = λ f. on_ok_weaker result (λ change. late a.files b.files refl change) (stores.done f);
    moves = λ h s.
        let settled : IsSettled name a = record { each = λ p now. s.each p now name owns } in
        let step : (d p : Picture) → a.may_leave d → FileStep name D d p → ImageStep during d p = λ d p now change. record { said = change.said; steps = early d.image p.image (settled.each d now) change.steps } in
        weaker (ImageStep during) (ImageStep during) (stores.moves h settled) step step;
    settled = λ h. on_ok_weaker result (λ s. record { each = λ p now q is. subst (λ n. file_at p.image n ≡ file_at b.files n) (sym (only q is)) (s.each p now) }) (stores.settled h);
    rests = λ h rests. rest h rests;
  }
    where
      rest : IsTrue a.is_honest → AllSettled a → OnOk result (AllSettled b)
      rest h rests = at result stores
        where
          at : (r : Result T E) → Stores name D A r a b → OnOk r (AllSettled b)
          at (Ok u) one = all_settled one (sound.faithful h) h rests
          at (Err e) one = tt
