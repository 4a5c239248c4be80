-- What each call of a host in memory ensures.
use Rattle.std.proofs.Common.{◌≡◌, inl, inr, false, ℕ, ◌+◌, ◌-◌, ◌≤◌, ◌/◌, IfOk, IfErr, List, [], ◌∷◌, ◌++◌, length, take, drop, Option, Some, None, Vec, Result, Ok, Err, OnOk, OnErr, refl, sym, ◌∙◌, ap, subst, arith, length-append, length-take, is_some, true}
use Rattle.std.specs.Option.{option_map}
use Rattle.std.specs.declared.alloc.Global.{Global}
use Rattle.std.specs.declared.alloc.AllocError.{AllocError}
use Rattle.host_model.specs.declared.fault.Stop.{Stop}
use Rattle.std.proofs.lemmas.Option.{same_Some}
use Rattle.std.proofs.lemmas.List.{take_all, drop_at, append-nil}
use Rattle.host_model.specs.Picture.{Picture, Same, file_at, ChangesFile, FileStep, OnBytes, Becomes, MayBecome, file_names}
use Rattle.host_model.specs.Moves.{Moves, Reached}
use Rattle.host_model.specs.State.{Faults, HostState}
use Rattle.host_model.specs.Calls.{Rose, IsQuiet, HasCause, Asks, Writes, Syncs, Replaces, Says, SaysFront, Hears, HearsFront, IsPart, Reads, Names, NamesCause, IsOfFiles, IsOfSink, IsOfSource, Counted, Faulted, Torn, Puts, TearsFile, Reaches, overlaid}
use Rattle.host_model.specs.declared.call.HostCall.{HostCall}
use Rattle.host_model.specs.declared.call.HostCall.TheVariants as kinds
use Rattle.host_model.specs.declared.fault.HostFault.{HostFault}
use Rattle.host_model.specs.declared.fault.HostFault.TheVariants.{Disk, Sink, Memory}
use Rattle.host_model.proofs.Images.{cases_name, file_at-set_file_same, file_at-set_file_other, changes_nothing, change_weaker, file_nothing, after_change, others_stay}
use Rattle.host_model.proofs.Bytes.{torn-overlaid}
use Rattle.host_model.proofs.MovesLemmas.{weaker}
use Rattle.memory_host.specs.declared.event.Event.{Event}
use Rattle.memory_host.specs.declared.event.Event.TheVariants.{Write, Put, CutCreate, CutRemove, Sync, Say}
use Rattle.memory_host.specs.declared.plan.Plan.{Plan}
use Rattle.memory_host.specs.declared.plan.Turn.TheVariants.{Works, Stops}
use Rattle.memory_host.specs.Plan.{Plans, NextFails, Checks, faults_of}
use Rattle.memory_host.proofs.PlanLemmas.{Called, called, rose_in_stops, memory_called, memory_rose}
use Rattle.memory_host.specs.Files.{as_file}
use Rattle.memory_host.specs.Past.{before, taken_back, May, state_of}
use Rattle.memory_host.specs.PastLemmas.{moves_same, moves_push, write_leaves, put_leaves, cut_create_leaves, cut_remove_leaves, sync_leaves, sync_settles, say_leaves, SaidLast}
use Rattle.memory_host.specs.Known.{Known}
use Rattle.memory_host.specs.Moments.{Adds, AddsWrite, AddsPut, AddsCutCreate, AddsCutRemove, CutsRemove, AddsSync, AddsSay}
use Rattle.memory_host.proofs.MomentsLemmas.{torn_wider}

abbrev state : Known → List ℕ → Plan → HostState
state k script plan = state_of k.past k.now script (faults_of plan.faults) (faults_of plan.found) plan.last

-- the fault is counted, and the newest call counted it
pub faulted : {kind : HostCall} (fault : HostFault) (k new : Known) (script rest : List ℕ) (p p' : Plan) → Called kind p p' → Counted fault (faults_of p.faults) (faults_of p'.faults) → Faulted fault (state k script p) (state new rest p')
faulted fault k new script rest p p' call rose = record { counted = rose; last = subst (λ (f : Faults). Counted fault f (faults_of p'.faults)) (sym call.found) rose }

pub torn-refl : (at n : ℕ) (file : List ℕ) → Torn at n file file
torn-refl at n file = record { before = refl; after = refl; no_shorter = omega arith; no_longer = omega arith }

pub some_there : (o : Option (List ℕ)) → is_some o ≡ true → (file : List ℕ) × (o ≡ Some file)
some_there None e = cc
some_there (Some file) e = (file, refl)

pub is_there : (o : Option (List ℕ)) (file : List ℕ) → o ≡ Some file → is_some o ≡ true
is_there o file is = ap (λ x. is_some x) is

-- a file that is read is there in each picture
pub stays_there : (es : List Event) (now p : Picture) (q : List ℕ) → May es now p → is_some (file_at now.image q) ≡ true → is_some (file_at p.image q) ≡ true
stays_there [] now p q is there = ap (λ (r : Picture). is_some (file_at r.image q)) is ∙ there
stays_there (e ∷ es) now p q (inl is) there = ap (λ (r : Picture). is_some (file_at r.image q)) is ∙ there
stays_there (Write w ∷ es) now p q (inr r) there = elim (cases_name q w.name) [
  | inl same ↦ subst (λ n. is_some (file_at p.image n) ≡ true) (sym same) (is_there (file_at p.image w.name) r.steps.steps.steps.after (after_change r.steps.steps ∙ r.steps.steps.steps.is))
  | inr other ↦ ap (λ o. is_some o) (others_stay q other r.steps.steps) ∙ stays_there es (before (Write w) now) r.start q r.left (ap (λ o. is_some o) (file_at-set_file_other now.image w.name (option_map (taken_back w) (file_at now.image w.name)) q other) ∙ there)
]
stays_there (Put name was ∷ es) now p q (inr r) there = elim (cases_name q name) [
  | inl same ↦ subst (λ n. is_some (file_at now.image n) ≡ true → is_some (file_at p.image n) ≡ true) (sym same) (λ t. ap (λ o. is_some o) (after_change r.steps.steps ∙ r.steps.steps.steps) ∙ t) there
  | inr other ↦ ap (λ o. is_some o) (others_stay q other r.steps.steps) ∙ stays_there es (before (Put name was) now) r.start q r.left (ap (λ o. is_some o) (file_at-set_file_other now.image name (as_file was) q other) ∙ there)
]
stays_there (CutCreate name ∷ es) now p q (inr r) there =
    let was : is_some (file_at r.start.image q) ≡ true = stays_there es now r.start q r.left there in
    elim (cases_name q name) [
      | inl same ↦ subst (λ n. is_some (file_at r.start.image n) ≡ true → is_some (file_at p.image n) ≡ true) (sym same) (λ t. elim r.steps.steps.steps [
        | inl kept ↦ ap (λ o. is_some o) (after_change r.steps.steps ∙ kept) ∙ t
        | inr made ↦ ap (λ o. is_some o) (after_change r.steps.steps ∙ made)
      ]) was
      | inr other ↦ ap (λ o. is_some o) (others_stay q other r.steps.steps) ∙ was
    ]
stays_there (CutRemove name was ∷ es) now p q (inr r) there = elim (cases_name q name) [
  | inl same ↦ subst (λ n. is_some (file_at now.image n) ≡ true → is_some (file_at p.image n) ≡ true) (sym same) (λ t. elim r.steps.steps.steps [
    | inl kept ↦ ap (λ o. is_some o) (after_change r.steps.steps ∙ kept) ∙ stays_there es (before (CutRemove name was) now) r.start name r.left (ap (λ o. is_some o) (file_at-set_file_same now.image name (Some was.items)))
    | inr gone ↦ ap (λ o. is_some o) (after_change r.steps.steps ∙ gone) ∙ t
  ]) there
  | inr other ↦ ap (λ o. is_some o) (others_stay q other r.steps.steps) ∙ stays_there es (before (CutRemove name was) now) r.start q r.left (ap (λ o. is_some o) (file_at-set_file_other now.image name (Some was.items) q other) ∙ there)
]
stays_there (Sync name ∷ es) now p q (inr b) there = stays_there es now p q b.0 there
stays_there (Say count ∷ es) now p q (inr r) there = ap (λ i. is_some (file_at i q)) r.steps.image ∙ stays_there es (before (Say count) now) r.start q r.left there

-- a write that changes nothing
pub tears_nothing : (es : List Event) (now : Picture) (name file : List ℕ) (at n : ℕ) → file_at now.image name ≡ Some file → (d p : Picture) → May es now d → Same d p → TearsFile name at n d p
tears_nothing es now name file at n there d p left same =
    let here = some_there (file_at d.image name) (stays_there es now d name left (is_there (file_at now.image name) file there)) in
    subst (λ (q : Picture). TearsFile name at n d q) (sym same) (file_nothing name (OnBytes (Torn at n)) d (record { before = here.0; after = here.0; was = here.1; is = here.1; steps = torn-refl at n here.0 }))

module _ {kind : HostCall} (k new : Known) (script : List ℕ) (a b : Plan) (call : Called kind a b) where
  quiet : new.now.said ≡ k.now.said → IsQuiet (state k script a) (state new script b)
  quiet same = record { keeps = record { faithful = refl; honest = refl; counts = call.falls }; said = λ _. same; script = λ _. refl }

  moves_add : (e : Event) (step : Picture → Picture → Type 0) → Adds e k new → ((p : Picture) → May (e ∷ k.past) new.now p → Reached (May k.past k.now) step p) → Moves step step (state k script a) (state new script b)
  moves_add e step adds here =
      subst (λ l. Moves step step (state k script a) (state_of l new.now script (faults_of b.faults) (faults_of b.found) b.last)) (sym adds.past) (moves_push k.past e k.now new.now script script (faults_of a.faults) (faults_of b.faults) (faults_of a.found) (faults_of b.found) a.last b.last step adds.undone here)

  -- a file that was put
  pub put_replaces : (name : List ℕ) (file : Option (List ℕ)) {T : Type 0} (u : T) → AddsPut name file k new → Replaces kind name file {T = T} (Ok u) (state k script a) (state new script b)
  put_replaces name file u add = record {
    quiet = quiet add.said;
    began = call.found;
    last = call.last;
    cause = record { caused = tt };
    done = λ _. record { after = file; steps = refl; is = add.image };
    tried = λ _. record { after = file; steps = inr refl; is = add.image };
    moves = λ _. weaker _ _ put perhaps perhaps;
    lasting = λ _. weaker _ _ put perhaps (λ d p left step. step);
  }
    where
      same : file_at new.now.image name ≡ file
      same = ap (λ i. file_at i name) add.image ∙ file_at-set_file_same k.now.image name file

      put : Moves (FileStep name (Becomes file)) (FileStep name (Becomes file)) (state k script a) (state new script b)
      put = moves_add (Put name add.was) (FileStep name (Becomes file)) add.adds (λ p may. subst (λ o. Reached (May k.past k.now) (FileStep name (Becomes o)) p) same (put_leaves k.past name add.was k.now new.now add.adds.undone p may))

      perhaps : (d p : Picture) → May k.past k.now d → FileStep name (Becomes file) d p → FileStep name (MayBecome file) d p
      perhaps d p left step = record { said = step.said; steps = record { after = step.steps.after; steps = inr step.steps.steps; is = step.steps.is } }

  -- a crash fell into the call
  pub cut_creates : (name : List ℕ) {T : Type 0} → AddsCutCreate name k new → Rose a.faults.disk b.faults.disk → Replaces kind name (Some []) {T = T} (Err Disk) (state k script a) (state new script b)
  cut_creates name add rose = record {
    quiet = quiet (ap (λ (p : Picture). p.said) add.same);
    began = call.found;
    last = call.last;
    cause = record { caused = (tt, faulted Disk k new script script a b call rose) };
    done = λ _. tt;
    tried = λ _. subst (λ (p : Picture). ChangesFile name (MayBecome (Some [])) k.now.image p.image) (sym add.same) (changes_nothing name (MayBecome (Some [])) k.now.image (inl refl));
    moves = λ _. moves_add (CutCreate name) (FileStep name (MayBecome (Some []))) (record { past = add.past; undone = add.same }) (λ p may.
        subst (λ (q : Picture). Reached (May k.past q) (FileStep name (MayBecome (Some []))) p) add.same (cut_create_leaves k.past name new.now p may));
    lasting = λ _. tt;
  }

  pub cut_removes : (name : List ℕ) {T : Type 0} → AddsCutRemove name k new → Rose a.faults.disk b.faults.disk → Replaces kind name None {T = T} (Err Disk) (state k script a) (state new script b)
  cut_removes name add rose = record {
    quiet = quiet add.said;
    began = call.found;
    last = call.last;
    cause = record { caused = (tt, faulted Disk k new script script a b call rose) };
    done = λ _. tt;
    tried = λ _. record { after = None; steps = inr refl; is = add.image };
    moves = λ _. moves_add (CutRemove name add.was) (FileStep name (MayBecome None)) add.adds (λ p may. subst (λ o. Reached (May k.past k.now) (FileStep name (MayBecome o)) p) gone (cut_remove_leaves k.past name add.was k.now new.now add.adds.undone p may));
    lasting = λ _. tt;
  }
    where
      gone : file_at new.now.image name ≡ None
      gone = ap (λ i. file_at i name) add.image ∙ file_at-set_file_same k.now.image name None

-- a write, whole or torn
module _ (k new : Known) (script : List ℕ) (a b : Plan) (call : Called kinds.Write a b) where
  module _ (name : List ℕ) (at : ℕ) (bytes landed : List ℕ) (add : AddsWrite name at (length bytes) landed k new) (fits : length landed ≤ length bytes) where
    tears : ChangesFile name (OnBytes (Torn at (length bytes))) k.now.image new.now.image
    tears = change_weaker (OnBytes (Torn at (length bytes))) add.image (λ x y one. record {
      before = one.before;
      after = one.after;
      was = one.was;
      is = one.is;
      steps = subst (λ (l : List ℕ). Torn at (length bytes) one.before l) (sym one.steps.is) (torn_wider at (length landed) (length bytes) one.before (overlaid one.before at landed) fits (torn-overlaid one.before at landed one.steps.within));
    })

    leaves : (p : Picture) → May (Write add.w ∷ k.past) new.now p → Reached (May k.past k.now) (TearsFile name at (length bytes)) p
    leaves p may =
        let torn : TearsFile name at (length bytes) k.now new.now = record { said = add.said; steps = tears } in
        let torn_w : TearsFile add.w.name add.w.at add.w.count k.now new.now =
        subst (λ q. TearsFile q add.w.at add.w.count k.now new.now) (sym add.name_is) (subst (λ q. TearsFile name q add.w.count k.now new.now) (sym add.at_is) (subst (λ q. TearsFile name at q k.now new.now) (sym add.count_is) torn)) in
        subst (λ q. Reached (May k.past k.now) (TearsFile q at (length bytes)) p) add.name_is
        (subst (λ q. Reached (May k.past k.now) (TearsFile add.w.name q (length bytes)) p) add.at_is
        (subst (λ q. Reached (May k.past k.now) (TearsFile add.w.name add.w.at q) p) add.count_is (write_leaves k.past add.w k.now new.now add.adds.undone torn_w p may)))

    pub write_writes : {T : Type 0} (u : T) → landed ≡ bytes → Writes name at bytes {T = T} (Ok u) (state k script a) (state new script b)
    write_writes u whole = record {
      quiet = quiet k new script a b call add.said;
      began = call.found;
      last = call.last;
      cause = record { caused = tt };
      done = λ _. subst (λ (l : List ℕ). ChangesFile name (OnBytes (Puts at l)) k.now.image new.now.image) whole add.image;
      tried = λ _. tears;
      moves = λ _. moves_add k new script a b call (Write add.w) (TearsFile name at (length bytes)) add.adds leaves;
    }

    pub torn_writes : {T : Type 0} → Rose a.faults.disk b.faults.disk → Writes name at bytes {T = T} (Err Disk) (state k script a) (state new script b)
    torn_writes rose = record {
      quiet = quiet k new script a b call add.said;
      began = call.found;
      last = call.last;
      cause = record { caused = (tt, faulted Disk k new script script a b call rose) };
      done = λ _. tt;
      tried = λ _. tears;
      moves = λ _. moves_add k new script a b call (Write add.w) (TearsFile name at (length bytes)) add.adds leaves;
    }

-- a file that is synced
module _ (k new : Known) (script : List ℕ) (a b : Plan) (call : Called kinds.Sync a b) where
  pub sync_syncs : (name : List ℕ) {T : Type 0} (u : T) → AddsSync name k new → Syncs name {T = T} (Ok u) (state k script a) (state new script b)
  sync_syncs name u add = record {
    quiet = quiet k new script a b call (ap (λ (p : Picture). p.said) add.same);
    began = call.found;
    last = call.last;
    cause = record { caused = tt };
    same = λ _. ap (λ (p : Picture). p.image) add.same;
    moves = λ _. moves_add k new script a b call (Sync name) Same (record { past = add.past; undone = add.same }) (λ p may. subst (λ (q : Picture). Reached (May k.past q) Same p) add.same (sync_leaves k.past name new.now p may));
    settled = λ _. record { each = λ p may. sync_settles k.past name new.now p (subst (λ l. May l new.now p) add.past may) };
  }

-- a say, whole or in part
module _ (k new : Known) (script : List ℕ) (a b : Plan) (call : Called kinds.Say a b) where
  module _ (bytes : List ℕ) (n : ℕ) (add : AddsSay (take n bytes) k new) where
    last : SaidLast bytes (length (take n bytes)) new.now.said
    last = record {
      front = n;
      is =
          ap (λ (l : List ℕ). drop (length l - length (take n bytes)) l) add.said
          ∙ ap (λ (i : ℕ). drop i (k.now.said ++ take n bytes)) (omega (arith, length-append k.now.said (take n bytes)))
          ∙ drop_at k.now.said (take n bytes) (length k.now.said) refl;
    }

    says : Moves (SaysFront bytes) (SaysFront bytes) (state k script a) (state new script b)
    says = moves_add k new script a b call (Say (length (take n bytes))) (SaysFront bytes) add.adds (λ p may. say_leaves k.past (length (take n bytes)) bytes k.now new.now add.adds.undone last p may)

    pub say_says : {T : Type 0} (u : T) → take n bytes ≡ bytes → Says bytes {T = T} (Ok u) (state k script a) (state new script b)
    say_says u whole = record {
      keeps = record { faithful = refl; honest = refl; counts = call.falls };
      began = call.found;
      last = call.last;
      same = λ _. (add.image, refl);
      done = λ _. add.said ∙ ap (λ (l : List ℕ). k.now.said ++ l) whole;
      tried = λ _. record { image = add.image; count = n; said = add.said };
      moves = λ _. says;
      counted = tt;
    }

    pub part_says : {T : Type 0} → Rose a.faults.sink b.faults.sink → Says bytes {T = T} (Err Sink) (state k script a) (state new script b)
    part_says rose = record {
      keeps = record { faithful = refl; honest = refl; counts = call.falls };
      began = call.found;
      last = call.last;
      same = λ _. (add.image, refl);
      done = λ _. tt;
      tried = λ _. record { image = add.image; count = n; said = add.said };
      moves = λ _. says;
      counted = (tt, faulted Sink k new script script a b call rose);
    }

-- nothing but the counts changes
module _ {kind : HostCall} (k : Known) (script : List ℕ) (a b : Plan) (call : Called kind a b) where
  pub calm_quiet : IsQuiet (state k script a) (state k script b)
  calm_quiet = quiet k k script a b call refl

  calm : Moves Same Same (state k script a) (state k script b)
  calm = moves_same k.past k.now script script (faults_of a.faults) (faults_of b.faults) (faults_of a.found) (faults_of b.found) a.last b.last

  pub calm_asks : {T : Type 0} (result : Result T HostFault) → HasCause result (state k script a) (state k script b) → Asks kind result (state k script a) (state k script b)
  calm_asks result cause = record { quiet = calm_quiet; began = call.found; last = call.last; cause = cause; same = λ _. refl; moves = λ _. calm }

  pub calm_replaces : (name : List ℕ) (file : Option (List ℕ)) {T : Type 0} (fault : HostFault) → IsOfFiles fault → Counted fault (faults_of a.faults) (faults_of b.faults) → Replaces kind name file {T = T} (Err fault) (state k script a) (state k script b)
  calm_replaces name file fault of rose = record {
    quiet = calm_quiet;
    began = call.found;
    last = call.last;
    cause = record { caused = (of, faulted fault k k script script a b call rose) };
    done = λ _. tt;
    tried = λ _. changes_nothing name (MayBecome file) k.now.image (inl refl);
    moves = λ _. weaker _ _ calm same same;
    lasting = λ _. tt;
  }
    where
      same : (d p : Picture) → May k.past k.now d → Same d p → FileStep name (MayBecome file) d p
      same d p left is = subst (λ q. FileStep name (MayBecome file) d q) (sym is) (file_nothing name (MayBecome file) d (inl refl))

module _ (k : Known) (script : List ℕ) (a b : Plan) (call : Called kinds.Write a b) where
  pub calm_writes : (name : List ℕ) (at : ℕ) (bytes : List ℕ) {T : Type 0} (fault : HostFault) → IsOfFiles fault → Counted fault (faults_of a.faults) (faults_of b.faults) → Reaches k.now.image name at → Writes name at bytes {T = T} (Err fault) (state k script a) (state k script b)
  calm_writes name at bytes fault of rose there = record {
    quiet = calm_quiet k script a b call;
    began = call.found;
    last = call.last;
    cause = record { caused = (of, faulted fault k k script script a b call rose) };
    done = λ _. tt;
    tried = λ _. changes_nothing name (OnBytes (Torn at (length bytes))) k.now.image (record { before = there.file; after = there.file; was = there.is; is = there.is; steps = torn-refl at (length bytes) there.file });
    moves = λ _. weaker _ _ (calm k script a b call) nothing nothing;
  }
    where
      nothing : (d p : Picture) → May k.past k.now d → Same d p → TearsFile name at (length bytes) d p
      nothing d p left same = tears_nothing k.past k.now name there.file at (length bytes) there.is d p left same

module _ (k : Known) (script : List ℕ) (a b : Plan) (call : Called kinds.Sync a b) where
  pub calm_syncs : (name : List ℕ) {T : Type 0} (fault : HostFault) → IsOfFiles fault → Counted fault (faults_of a.faults) (faults_of b.faults) → Syncs name {T = T} (Err fault) (state k script a) (state k script b)
  calm_syncs name fault of rose = record { quiet = calm_quiet k script a b call; began = call.found; last = call.last; cause = record { caused = (of, faulted fault k k script script a b call rose) }; same = λ _. refl; moves = λ _. calm k script a b call; settled = λ _. tt }

module _ (k : Known) (script : List ℕ) (a b : Plan) (call : Called kinds.Say a b) where
  pub calm_says : (bytes : List ℕ) {T : Type 0} (fault : HostFault) → IsOfSink fault → Counted fault (faults_of a.faults) (faults_of b.faults) → Says bytes {T = T} (Err fault) (state k script a) (state k script b)
  calm_says bytes fault of rose = record {
    keeps = record { faithful = refl; honest = refl; counts = call.falls };
    began = call.found;
    last = call.last;
    same = λ _. (refl, refl);
    done = λ _. tt;
    tried = λ _. record { image = refl; count = 0; said = sym (append-nil k.now.said) };
    moves = λ _. weaker _ _ (calm k script a b call) nothing nothing;
    counted = (of, faulted fault k k script script a b call rose);
  }
    where
      nothing : (d p : Picture) → May k.past k.now d → Same d p → SaysFront bytes d p
      nothing d p left is = record { image = ap (λ (q : Picture). q.image) is; count = 0; said = ap (λ (q : Picture). q.said) is ∙ sym (append-nil d.said) }

module _ (k : Known) (script : List ℕ) (a b : Plan) (call : Called kinds.Hear a b) where
  pub calm_hears : (into : List ℕ) (fault : HostFault) → IsOfSource fault → Counted fault (faults_of a.faults) (faults_of b.faults) → Hears into (Err fault) (state k script a) (state k script b)
  calm_hears into fault of rose = record {
    keeps = record { faithful = refl; honest = refl; counts = call.falls };
    began = call.found;
    last = call.last;
    room = tt;
    same = λ _. (refl, refl);
    done = λ _. tt;
    failed = λ _. refl;
    moves = λ _. calm k script a b call;
    counted = (of, faulted fault k k script script a b call rose);
  }

  pub heard_hears : (into rest : List ℕ) (count : ℕ) → HearsFront (length into) count into script rest → Hears into (Ok count) (state k script a) (state k rest b)
  heard_hears into rest count front = record {
    keeps = record { faithful = refl; honest = refl; counts = call.falls };
    began = call.found;
    last = call.last;
    room = front.within;
    same = λ _. (refl, refl);
    done = λ _. front;
    failed = λ _. tt;
    moves = λ _. moves_same k.past k.now script rest (faults_of a.faults) (faults_of b.faults) (faults_of a.found) (faults_of b.found) a.last b.last;
    counted = tt;
  }

-- a part of a file
pub part_of : (file into : List ℕ) (at size : ℕ) → into ≡ take (at + size - at) (drop at file) → length into ≡ size → IsPart file at into
part_of file into at size is long = ap (λ (n : ℕ). take n (drop at file)) (omega (arith, long)) ∙ sym is

abbrev pub half : ℕ → ℕ
half n = n / 2

pub half_fits : (n : ℕ) → half n ≤ n
half_fits n = omega arith

module _ (k : Known) (script : List ℕ) (a b : Plan) (call : Called kinds.Names a b) where
  pub calm_names : (result : Result (Vec (List ℕ) Global) Stop) → IfErr result (λ stop. NamesCause stop (state k script a) (state k script b)) → IfOk result (λ names. names.items ≡ file_names k.now.image) → Names result (state k script a) (state k script b)
  calm_names result cause names = record { quiet = calm_quiet k script a b call; began = call.found; last = call.last; cause = cause; same = λ _. refl; moves = λ _. calm k script a b call; names = λ _. names }

module _ (k : Known) (script : List ℕ) (a b : Plan) (call : Called kinds.Read a b) where
  pub calm_reads : (name : List ℕ) (at : ℕ) (file into : List ℕ) {T : Type 0} (u : T) → file_at k.now.image name ≡ Some file → IsPart file at into → Reads name at into {T = T} (Ok u) (state k script a) (state k script b)
  calm_reads name at file into u there part = record {
    asks = calm_asks k script a b call (Ok u) (record { caused = tt });
    bytes = λ _ seen is. subst (λ (l : List ℕ). IsPart l at into) (same_Some _ _ (sym there ∙ is)) part;
  }

-- what each method of the host ensures, of its parts
module _ (k new : Known) (script : List ℕ) (old mid last : Plan) where
  pub works_replaces : {kind : HostCall} (name : List ℕ) (file : Option (List ℕ)) (done : Result (Unit {0}) AllocError) (result : Result (Unit {0}) HostFault) → Plans kind Disk Works old mid → Checks done result mid last → OnOk done (AddsPut name file k new) → OnErr done (new ≡ k)
      → Replaces kind name file result (state k script old) (state new script last)
  works_replaces {kind} name file (Ok u) result plans checks put same =
      subst (λ r. Replaces kind name file r (state k script old) (state new script last)) (sym checks.0)
      (put_replaces k new script old last (subst (λ (p : Plan). Called kind old p) (sym checks.1) (called plans)) name file u put)
  works_replaces {kind} name file (Err e) result plans checks put same =
      subst (λ r. Replaces kind name file r (state k script old) (state new script last)) (sym checks.0)
      (subst (λ n. Replaces kind name file {T = Unit {0}} (Err Memory) (state k script old) (state n script last)) (sym same)
      (calm_replaces k script old last (memory_called old mid last (called plans) checks.1) name file Memory tt (memory_rose old mid last (called plans) checks.1)))

  pub works_writes : (name : List ℕ) (at : ℕ) (bytes : List ℕ) (done : Result (Unit {0}) AllocError) (result : Result (Unit {0}) HostFault) → Plans kinds.Write Disk Works old mid → Checks done result mid last
      → OnOk done (AddsWrite name at (length bytes) (take (length bytes) bytes) k new) → OnErr done (new ≡ k) → Reaches k.now.image name at
      → Writes name at bytes result (state k script old) (state new script last)
  works_writes name at bytes (Ok u) result plans checks add same there =
      let whole : take (length bytes) bytes ≡ bytes = take_all (length bytes) bytes (omega arith) in
      subst (λ r. Writes name at bytes r (state k script old) (state new script last)) (sym checks.0)
      (write_writes k new script old last (subst (λ (p : Plan). Called kinds.Write old p) (sym checks.1) (called plans)) name at bytes (take (length bytes) bytes) add (omega (arith, ap length whole)) u whole)
  works_writes name at bytes (Err e) result plans checks add same there =
      subst (λ r. Writes name at bytes r (state k script old) (state new script last)) (sym checks.0)
      (subst (λ n. Writes name at bytes {T = Unit {0}} (Err Memory) (state k script old) (state n script last)) (sym same)
      (calm_writes k script old last (memory_called old mid last (called plans) checks.1) name at bytes Memory tt (memory_rose old mid last (called plans) checks.1) there))

  pub works_syncs : (name : List ℕ) (done : Result (Unit {0}) AllocError) (result : Result (Unit {0}) HostFault) → NextFails kinds.Sync Disk false old mid → Checks done result mid last → OnOk done (AddsSync name k new) → OnErr done (new ≡ k)
      → Syncs name result (state k script old) (state new script last)
  works_syncs name (Ok u) result plans checks add same =
      subst (λ r. Syncs name r (state k script old) (state new script last)) (sym checks.0)
      (sync_syncs k new script old last (subst (λ (p : Plan). Called kinds.Sync old p) (sym checks.1) (called plans)) name u add)
  works_syncs name (Err e) result plans checks add same =
      subst (λ r. Syncs name r (state k script old) (state new script last)) (sym checks.0)
      (subst (λ n. Syncs name {T = Unit {0}} (Err Memory) (state k script old) (state n script last)) (sym same)
      (calm_syncs k script old last (memory_called old mid last (called plans) checks.1) name Memory tt (memory_rose old mid last (called plans) checks.1)))

  pub works_says : (bytes : List ℕ) (done : Result (Unit {0}) AllocError) (result : Result (Unit {0}) HostFault) → Plans kinds.Say Sink Works old mid → Checks done result mid last → OnOk done (AddsSay bytes k new) → OnErr done (new ≡ k)
      → Says bytes result (state k script old) (state new script last)
  works_says bytes (Ok u) result plans checks add same =
      let whole : take (length bytes) bytes ≡ bytes = take_all (length bytes) bytes (omega arith) in
      subst (λ r. Says bytes r (state k script old) (state new script last)) (sym checks.0)
      (say_says k new script old last (subst (λ (p : Plan). Called kinds.Say old p) (sym checks.1) (called plans)) bytes (length bytes) (subst (λ (l : List ℕ). AddsSay l k new) (sym whole) add) u whole)
  works_says bytes (Err e) result plans checks add same =
      subst (λ r. Says bytes r (state k script old) (state new script last)) (sym checks.0)
      (subst (λ n. Says bytes {T = Unit {0}} (Err Memory) (state k script old) (state n script last)) (sym same)
      (calm_says k script old last (memory_called old mid last (called plans) checks.1) bytes Memory tt (memory_rose old mid last (called plans) checks.1)))

-- a call that a fault cut, for which there may have been no memory
module _ (k new : Known) (script : List ℕ) (old last : Plan) where
  pub stopped_creates : {kind : HostCall} (name : List ℕ) {T : Type 0} (done : Result (Unit {0}) AllocError) → Plans kind Disk Stops old last → OnOk done (AddsCutCreate name k new) → OnErr done (new ≡ k) → Replaces kind name (Some []) {T = T} (Err Disk) (state k script old) (state new script last)
  stopped_creates name (Ok u) plans add same = cut_creates k new script old last (called plans) name add (rose_in_stops Disk old last plans)
  stopped_creates {kind} name {T = T} (Err e) plans add same =
      subst (λ n. Replaces kind name (Some []) {T = T} (Err Disk) (state k script old) (state n script last)) (sym same) (calm_replaces k script old last (called plans) name (Some []) Disk tt (rose_in_stops Disk old last plans))

  pub stopped_removes : {kind : HostCall} (name : List ℕ) {T : Type 0} (done : Result (Unit {0}) AllocError) → Plans kind Disk Stops old last → OnOk done (CutsRemove name k new) → OnErr done (new ≡ k) → Replaces kind name None {T = T} (Err Disk) (state k script old) (state new script last)
  stopped_removes name (Ok u) plans (inl add) same = cut_removes k new script old last (called plans) name add (rose_in_stops Disk old last plans)
  stopped_removes {kind} name {T = T} (Ok u) plans (inr is) same =
      subst (λ n. Replaces kind name None {T = T} (Err Disk) (state k script old) (state n script last)) (sym is.0) (calm_replaces k script old last (called plans) name None Disk tt (rose_in_stops Disk old last plans))
  stopped_removes {kind} name {T = T} (Err e) plans add same =
      subst (λ n. Replaces kind name None {T = T} (Err Disk) (state k script old) (state n script last)) (sym same) (calm_replaces k script old last (called plans) name None Disk tt (rose_in_stops Disk old last plans))

  pub torn_or_not : (name : List ℕ) (at n : ℕ) (bytes : List ℕ) {T : Type 0} (done : Result (Unit {0}) AllocError) → Called kinds.Write old last → Counted Disk (faults_of old.faults) (faults_of last.faults)
      → OnOk done (AddsWrite name at (length bytes) (take n bytes) k new) → OnErr done (new ≡ k) → n ≤ length bytes → Reaches k.now.image name at
      → Writes name at bytes {T = T} (Err Disk) (state k script old) (state new script last)
  torn_or_not name at n bytes (Ok u) call rose add same front there = torn_writes k new script old last call name at bytes (take n bytes) add (omega (arith, length-take n bytes, front)) rose
  torn_or_not name at n bytes {T = T} (Err e) call rose add same front there =
      subst (λ m. Writes name at bytes {T = T} (Err Disk) (state k script old) (state m script last)) (sym same) (calm_writes k script old last call name at bytes Disk tt rose there)

  pub part_or_not : (n : ℕ) (bytes : List ℕ) {T : Type 0} (done : Result (Unit {0}) AllocError) → Called kinds.Say old last → Counted Sink (faults_of old.faults) (faults_of last.faults)
      → OnOk done (AddsSay (take n bytes) k new) → OnErr done (new ≡ k) → Says bytes {T = T} (Err Sink) (state k script old) (state new script last)
  part_or_not n bytes (Ok u) call rose add same = part_says k new script old last call bytes n add rose
  part_or_not n bytes {T = T} (Err e) call rose add same =
      subst (λ m. Says bytes {T = T} (Err Sink) (state k script old) (state m script last)) (sym same) (calm_says k script old last call bytes Sink tt rose)
