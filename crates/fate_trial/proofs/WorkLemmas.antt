-- The work of a tower's steps.
use Rattle.std.proofs.Common.{◌≡◌, ◌≢◌, ◌⊎◌, inl, inr, ⊎_elim, ℕ, ◌^◌, ◌<◌, Bool, true, false, List, [], ◌∷◌, get_or, Option, Some, None, is_some, Result, Ok, Err, IsTrue, refl, sym, ◌∙◌, ap, subst, arith}
use Rattle.host_model.specs.Picture.{Picture}
use Rattle.host_model.specs.State.{HostState, picture_now}
use Rattle.host_model.specs.Calls.{IsSound}
use Rattle.host_model.specs.declared.fault.Stop.{Stop}
use Rattle.fate_runner.specs.declared.text.StepWords.{StepWords}
use Rattle.fate_runner.specs.declared.forms.TxStatus.{TxStatus}
use Rattle.fate_runner.specs.declared.forms.TxStatus.TheVariants.{InProgress, FailedInProgress, Successful}
use Rattle.fate_runner.specs.declared.forms.Cause.TheVariants.{Exists}
use Rattle.fate_runner.specs.Book.{Book, IsKept, Within, pushed, popped, tail_of, with_status}
use Rattle.fate_runner.specs.Works.{Acts, Works, IsTop, undone_book}
use Rattle.fate_runner.proofs.Working.{act_done, act_stopped, no_work}
use Rattle.fate_trial.specs.declared.levels.Level.{Level}
use Rattle.fate_trial.specs.declared.levels.Level.TheVariants.{Raise, Cover}
use Rattle.fate_trial.specs.declared.layout.Slot.{Slot}
use Rattle.fate_trial.specs.declared.layout.Slot.TheVariants.{Status, Lower, Upper, Walls, Roof}
use Rattle.fate_trial.specs.Layout.{slot_path, slot_value, has}
use Rattle.fate_trial.specs.Site.{nodes_of}
use Rattle.fate_trial.specs.Stored.{book_from, book_of, book_at, IsOfBook}
use Rattle.fate_trial.specs.Towers.{raise, cover, level_words, LevelSuits, IsGoing, Fits, Unknown, Waits, At_raise, At_cover, Undone, Ended, tower_meaning, Sets, MaySet, IsPart}
use Rattle.fate_trial.specs.TowerLaws.{tower_lawful, status_code, apart}
use Rattle.fate_trial.specs.SlotLemmas.{letter, slots_apart, tids_apart, slot-same}

-- ---- what a change of a part leaves

module _ (part : Slot) (is_part : IsPart part) (t : ℕ) (small : t < 2 ^ 64) (there : Bool) (p q : Picture) (sets : Sets part t there p q) where
  book_slot : (slot : Slot) (u : ℕ) → IsOfBook slot → slot_value (nodes_of q) slot u ≡ slot_value (nodes_of p) slot u
  book_slot slot u own = slot-same (nodes_of p) (nodes_of q) slot u (λ small_u. sets.elsewhere (slot_path slot u) (slots_apart slot part u t (λ same. apart slot part own is_part (sym same))))

  pub same_books : (u : ℕ) → book_at q u ≡ book_at p u
  unfolding book_of
  same_books u = λ i. book_from (book_slot Status u tt i) (book_slot Lower u tt i) (book_slot Upper u tt i)

  other_tid : (slot : Slot) (u : ℕ) → u ≢ t → has (nodes_of q) slot u ≡ has (nodes_of p) slot u
  other_tid slot u other = ap (λ v. is_some v) (slot-same (nodes_of p) (nodes_of q) slot u (λ small_u. sets.elsewhere (slot_path slot u) (tids_apart slot part u t small_u small other)))

  pub other_part : (slot : Slot) → letter slot ≢ letter part → has (nodes_of q) slot t ≡ has (nodes_of p) slot t
  other_part slot other = ap (λ v. is_some v) (slot-same (nodes_of p) (nodes_of q) slot t (λ small_t. sets.elsewhere (slot_path slot t) (slots_apart slot part t t other)))

  pub set_within : IsKept tower_meaning p → Fits (book_at p t) (has (nodes_of q) Walls t) (has (nodes_of q) Roof t) → Within tower_meaning t p q
  set_within kept fits = record {
    books = same_books;
    rest = sets.readable kept.rest;
    fits = fits;
    others = λ u other. record { book = same_books u; walls = other_tid Walls u other; roof = other_tid Roof u other };
  }

-- ---- what fits where a step is on top

going_code : (s : Option TxStatus) → IsGoing s → (status_code s ≡ 2) ⊎ (status_code s ≡ 3)
going_code s (inl is) = inl (ap status_code is)
going_code s (inr is) = inr (ap status_code is)

not_going : (s : Option TxStatus) {n : ℕ} {A : Type 0} → IsGoing s → status_code s ≡ n → n ≢ 2 → n ≢ 3 → A
not_going s {n = n} going is two three = absurd (⊎_elim (λ (e : status_code s ≡ 2). two (sym is ∙ e)) (λ (e : status_code s ≡ 3). three (sym is ∙ e)) (going_code s going))

-- the first letter of the top step's name
abbrev top_letter : List StepWords → ℕ
top_letter [] = 0
top_letter (w ∷ ws) = get_or w.name 0 0

at_raise : (b : Book) (walls roof : Bool) (below : List StepWords) → IsGoing b.status → b.stack ≡ raise ∷ below → Fits b walls roof → (b.stack ≡ raise ∷ []) × (roof ≡ false)
at_raise b walls roof below going top (Unknown s k w r) = absurd (omega (arith, ap top_letter top, ap top_letter k))
at_raise b walls roof below going top (Waits s k w r) = not_going b.status going (ap status_code s) (λ e. omega (arith, e)) (λ e. omega (arith, e))
at_raise b walls roof below going top (At_raise s k r) = (k, r)
at_raise b walls roof below going top (At_cover s k w) = absurd (omega (arith, ap top_letter top, ap top_letter k))
at_raise b walls roof below going top (Undone s k w r) = absurd (omega (arith, ap top_letter top, ap top_letter k))
at_raise b walls roof below going top (Ended s k w r) = absurd (omega (arith, ap top_letter top, ap top_letter k))

at_cover : (b : Book) (walls roof : Bool) (below : List StepWords) → b.stack ≡ cover ∷ below → Fits b walls roof → (b.stack ≡ cover ∷ raise ∷ []) × (walls ≡ true)
at_cover b walls roof below top (Unknown s k w r) = absurd (omega (arith, ap top_letter top, ap top_letter k))
at_cover b walls roof below top (Waits s k w r) = absurd (omega (arith, ap top_letter top, ap top_letter k))
at_cover b walls roof below top (At_raise s k r) = absurd (omega (arith, ap top_letter top, ap top_letter k))
at_cover b walls roof below top (At_cover s k w) = (k, w)
at_cover b walls roof below top (Undone s k w r) = absurd (omega (arith, ap top_letter top, ap top_letter k))
at_cover b walls roof below top (Ended s k w r) = absurd (omega (arith, ap top_letter top, ap top_letter k))

-- ---- works

-- what fits, at a picture
abbrev FitsAt : ℕ → Picture → Book → Type 0
FitsAt t p b = Fits b (has (nodes_of p) Walls t) (has (nodes_of p) Roof t)

-- no work
pub idle : (t : ℕ) (next : Book) {a : HostState} → IsSound a → (IsTrue a.is_faithful → IsKept tower_meaning (picture_now a) → FitsAt t (picture_now a) next) → Works tower_meaning t (Some next) a a
idle t next sound fits = no_work tower_meaning tower_lawful t next sound fits

pub idle_stop : (t : ℕ) {a : HostState} → IsSound a → Works tower_meaning t None a a
idle_stop t {a = a} sound =
    let works = idle t (book_at (picture_now a) t) sound (λ f kept. kept.fits t) in
    record { keeps = works.keeps; books = λ f. tt; tried = works.tried; done = λ f kept. tt; inside = works.inside; rests = λ h at_rest kept. tt }

module _ (part : Slot) (is_part : IsPart part) (t : ℕ) (small : t < 2 ^ 64) (there : Bool) {T : Type 0} {did : Result T Stop} {a b : HostState} (sound : IsSound a) (acts : Acts did (MaySet part t there) (Sets part t there) a b)
    (fits : (x : Bool) (q : Picture) → IsKept tower_meaning (picture_now a) → Sets part t x (picture_now a) q → FitsAt t q (book_at (picture_now a) t)) where
  within : IsTrue a.is_faithful → IsKept tower_meaning (picture_now a) → (q : Picture) → MaySet part t there (picture_now a) q → Within tower_meaning t (picture_now a) q
  within f kept q (inl sets) = set_within part is_part t small (has (nodes_of (picture_now a)) part t) (picture_now a) q sets kept (fits _ q kept sets)
  within f kept q (inr sets) = set_within part is_part t small there (picture_now a) q sets kept (fits there q kept sets)

  pub part_stopped : Works tower_meaning t None a b
  part_stopped = act_stopped tower_meaning tower_lawful t (MaySet part t there) (Sets part t there) acts sound within

  pub part_done : (next : Book) {u : T} → did ≡ Ok u → ((q : Picture) → IsKept tower_meaning (picture_now a) → Sets part t there (picture_now a) q → FitsAt t q next) → Works tower_meaning t (Some next) a b
  part_done next done fits_next =
      act_done tower_meaning tower_lawful t (MaySet part t there) (Sets part t there) acts sound within next done (λ q sets. same_books part is_part t small there (picture_now a) q sets) (λ f kept q sets. fits_next q kept sets)

-- the walls, with their step on top
module _ (t : ℕ) (small : t < 2 ^ 64) (p : Picture) (status : TxStatus) (going : IsGoing (Some status)) (top : IsTop raise (λ kind. Unit {0}) status (book_at p t)) (kept : IsKept tower_meaning p) (x : Bool) (q : Picture) (sets : Sets Walls t x p q) where
  has_now : ((book_at p t).stack ≡ raise ∷ []) × (has (nodes_of p) Roof t ≡ false)
  has_now = at_raise (book_at p t) (has (nodes_of p) Walls t) (has (nodes_of p) Roof t) top.below (subst IsGoing (sym top.status_is) going) top.stack_is (kept.fits t)

  no_roof : has (nodes_of q) Roof t ≡ false
  no_roof = other_part Walls (inl refl) t small x p q sets Roof (λ e. omega (arith, e)) ∙ has_now.1

  pub walls_fit : FitsAt t q (book_at p t)
  walls_fit = At_raise (subst IsGoing (sym top.status_is) going) has_now.0 no_roof

  pub walls_pushed : x ≡ true → FitsAt t q (pushed cover (book_at p t))
  walls_pushed is = At_cover (subst IsGoing (sym top.status_is) going) (ap (λ ws. cover ∷ ws) has_now.0) (sets.is ∙ is)

  pub walls_popped : x ≡ false → (book_at p t).status ≡ Some FailedInProgress → FitsAt t q (popped (book_at p t))
  walls_popped is back = Undone (inl back) (ap tail_of has_now.0) (sets.is ∙ is) no_roof

-- the roof, with its step on top
module _ (t : ℕ) (small : t < 2 ^ 64) (p : Picture) (status : TxStatus) (going : IsGoing (Some status)) (top : IsTop cover (λ kind. Unit {0}) status (book_at p t)) (kept : IsKept tower_meaning p) where
  has_walls : ((book_at p t).stack ≡ cover ∷ raise ∷ []) × (has (nodes_of p) Walls t ≡ true)
  has_walls = at_cover (book_at p t) (has (nodes_of p) Walls t) (has (nodes_of p) Roof t) top.below top.stack_is (kept.fits t)

  pub roof_refused : FitsAt t p (with_status FailedInProgress (Some Exists) (book_at p t))
  roof_refused = At_cover (inr refl) has_walls.0 has_walls.1

  module _ (x : Bool) (q : Picture) (sets : Sets Roof t x p q) where
    still_walls : has (nodes_of q) Walls t ≡ true
    still_walls = other_part Roof (inr refl) t small x p q sets Walls (λ e. omega (arith, e)) ∙ has_walls.1

    pub roof_fits : FitsAt t q (book_at p t)
    roof_fits = At_cover (subst IsGoing (sym top.status_is) going) has_walls.0 still_walls

    pub roof_ended : x ≡ true → FitsAt t q (with_status Successful None (book_at p t))
    roof_ended is = Ended refl refl still_walls (sets.is ∙ is)

    pub roof_popped : x ≡ false → FitsAt t q (popped (book_at p t))
    roof_popped is = At_raise (subst IsGoing (sym top.status_is) going) (ap tail_of has_walls.0) (sets.is ∙ is)

-- ---- the calls of the steps

top_of : (level wanted : Level) {status : TxStatus} {b : Book} → level ≡ wanted → IsTop (level_words level) (LevelSuits level) status b → IsTop (level_words wanted) (λ kind. Unit {0}) status b
top_of level wanted is top = record { status_is = top.status_is; kind = tt; below = top.below; stack_is = top.stack_is ∙ ap (λ l. level_words l ∷ top.below) is }

module _ (t : ℕ) (small : t < 2 ^ 64) {a : HostState} (sound : IsSound a) (level : Level) (status : TxStatus) (going : IsGoing (Some status)) (top : IsTop (level_words level) (LevelSuits level) status (book_at (picture_now a) t)) where
  module _ (is : level ≡ Raise) (there : Bool) {T : Type 0} {did : Result T Stop} {b : HostState} (acts : Acts did (MaySet Walls t there) (Sets Walls t there) a b) where
    pub raise_stopped : Works tower_meaning t None a b
    raise_stopped = part_stopped Walls (inl refl) t small there sound acts (λ x q kept sets. walls_fit t small (picture_now a) status going (top_of level Raise is top) kept x q sets)

    raise_done : (next : Book) {u : T} → did ≡ Ok u → ((q : Picture) → IsKept tower_meaning (picture_now a) → Sets Walls t there (picture_now a) q → FitsAt t q next) → Works tower_meaning t (Some next) a b
    raise_done next done fits_next = part_done Walls (inl refl) t small there sound acts (λ x q kept sets. walls_fit t small (picture_now a) status going (top_of level Raise is top) kept x q sets) next done fits_next

  module _ (is : level ≡ Cover) (there : Bool) {T : Type 0} {did : Result T Stop} {b : HostState} (acts : Acts did (MaySet Roof t there) (Sets Roof t there) a b) where
    pub cover_stopped : Works tower_meaning t None a b
    cover_stopped = part_stopped Roof (inr refl) t small there sound acts (λ x q kept sets. roof_fits t small (picture_now a) status going (top_of level Cover is top) kept x q sets)

    cover_done : (next : Book) {u : T} → did ≡ Ok u → ((q : Picture) → IsKept tower_meaning (picture_now a) → Sets Roof t there (picture_now a) q → FitsAt t q next) → Works tower_meaning t (Some next) a b
    cover_done next done fits_next = part_done Roof (inr refl) t small there sound acts (λ x q kept sets. roof_fits t small (picture_now a) status going (top_of level Cover is top) kept x q sets) next done fits_next

-- forward
module _ (t : ℕ) (small : t < 2 ^ 64) {a b : HostState} (sound : IsSound a) (level : Level) (top : IsTop (level_words level) (LevelSuits level) InProgress (book_at (picture_now a) t)) where
  pub raise_called : level ≡ Raise → {T : Type 0} {u : T} → Acts {T = T} (Ok u) (MaySet Walls t true) (Sets Walls t true) a b → Works tower_meaning t (Some (pushed cover (book_at (picture_now a) t))) a b
  raise_called is acts = raise_done t small sound level InProgress (inl refl) top is true acts (pushed cover (book_at (picture_now a) t)) refl (λ q kept sets. walls_pushed t small (picture_now a) InProgress (inl refl) (top_of level Raise is top) kept true q sets refl)

  pub raise_failed : level ≡ Raise → {T : Type 0} (stop : Stop) → Acts {T = T} (Err stop) (MaySet Walls t true) (Sets Walls t true) a b → Works tower_meaning t None a b
  raise_failed is stop acts = raise_stopped t small sound level InProgress (inl refl) top is true acts

  pub cover_called : level ≡ Cover → {T : Type 0} {u : T} → Acts {T = T} (Ok u) (MaySet Roof t true) (Sets Roof t true) a b → Works tower_meaning t (Some (with_status Successful None (book_at (picture_now a) t))) a b
  cover_called is acts = cover_done t small sound level InProgress (inl refl) top is true acts (with_status Successful None (book_at (picture_now a) t)) refl (λ q kept sets. roof_ended t small (picture_now a) InProgress (inl refl) (top_of level Cover is top) kept true q sets refl)

  pub cover_failed : level ≡ Cover → {T : Type 0} (stop : Stop) → Acts {T = T} (Err stop) (MaySet Roof t true) (Sets Roof t true) a b → Works tower_meaning t None a b
  cover_failed is stop acts = cover_stopped t small sound level InProgress (inl refl) top is true acts

-- a refused roof
module _ (t : ℕ) (small : t < 2 ^ 64) {a : HostState} (sound : IsSound a) (level : Level) (top : IsTop (level_words level) (LevelSuits level) InProgress (book_at (picture_now a) t)) where
  pub cover_refused : level ≡ Cover → Works tower_meaning t (Some (with_status FailedInProgress (Some Exists) (book_at (picture_now a) t))) a a
  cover_refused is = idle t (with_status FailedInProgress (Some Exists) (book_at (picture_now a) t)) sound (λ f kept. roof_refused t small (picture_now a) InProgress (inl refl) (top_of level Cover is top) kept)

-- back
module _ (t : ℕ) (small : t < 2 ^ 64) {a b : HostState} (sound : IsSound a) (level : Level) (top : IsTop (level_words level) (LevelSuits level) FailedInProgress (book_at (picture_now a) t)) where
  pub raise_undone : level ≡ Raise → (did : Result (Unit {0}) Stop) → Acts did (MaySet Walls t false) (Sets Walls t false) a b → Works tower_meaning t (undone_book (book_at (picture_now a) t) did) a b
  raise_undone is (Ok u) acts = raise_done t small sound level FailedInProgress (inr refl) top is false acts (popped (book_at (picture_now a) t)) refl (λ q kept sets. walls_popped t small (picture_now a) FailedInProgress (inr refl) (top_of level Raise is top) kept false q sets refl top.status_is)
  raise_undone is (Err stop) acts = raise_stopped t small sound level FailedInProgress (inr refl) top is false acts

  pub cover_undone : level ≡ Cover → (did : Result (Unit {0}) Stop) → Acts did (MaySet Roof t false) (Sets Roof t false) a b → Works tower_meaning t (undone_book (book_at (picture_now a) t) did) a b
  cover_undone is (Ok u) acts = cover_done t small sound level FailedInProgress (inr refl) top is false acts (popped (book_at (picture_now a) t)) refl (λ q kept sets. roof_popped t small (picture_now a) FailedInProgress (inr refl) (top_of level Cover is top) kept false q sets refl)
  cover_undone is (Err stop) acts = cover_stopped t small sound level FailedInProgress (inr refl) top is false acts
