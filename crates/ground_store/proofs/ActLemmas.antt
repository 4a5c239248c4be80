-- What a change of files makes of a ground.
use Rattle.std.proofs.Common.{◌≡◌, ◌≢◌, ℕ, List, Option, Some, None, Result, Ok, IsTrue, refl, sym, ◌∙◌, ap, subst}
use Rattle.host_model.specs.Picture.{Image, ChangesFile, file_at}
use Rattle.host_model.specs.State.{HostState}
use Rattle.host_model.specs.Calls.{IsSound, Looks, Says, Hears}
use Rattle.host_model.specs.Leaves.{Shows, AllSettled}
use Rattle.host_model.specs.Alters.{Alters}
use Rattle.host_model.specs.declared.fault.HostFault.{HostFault}
use Rattle.host_model.specs.declared.fault.Stop.{Stop}
use Rattle.host_model.specs.declared.fault.Stop.TheVariants.{Host, Damaged, Full, NoMemory}
use Rattle.host_model.proofs.CallsLemmas.{was_faithful, was_honest, quiet-refl}
use Rattle.host_model.proofs.Images.{others_stay}
use Rattle.host_model.proofs.LeavesLemmas.{leaves_start, alters_leave, same_leave, rests_after_same, rests_after_say}
use Rattle.journal_core.specs.Journal.{IsOpen, FileCause as JournalCause}
use Rattle.node_store.specs.Value.{StoreValue}
use Rattle.node_store.specs.Image.{IsStored}
use Rattle.node_store.proofs.ImageLemmas.{others_dont_count}
use Rattle.row_keys.specs.Forms.{IsLogName}
use Rattle.metadata_schema.specs.Paths.{IsFilePath}
use Rattle.store_layout.specs.Names.{nodes_name, file_of, IsFile}
use Rattle.ground_store.specs.Value.{Logs, GroundValue, IsAtRest}
use Rattle.ground_store.specs.Steps.{Stays}
use Rattle.ground_store.specs.Causes.{FileCause}
use Rattle.ground_store.specs.Acts.{Acts, Goes, IsAgain, IsCounted}
use Rattle.store_layout.proofs.NameLemmas.{file_is_no_nodes, file_is_no_log}

abbrev Change : Type 1
Change = Image → Image → Type 0

-- ---- the files of a ground at rest

-- a log whose file stays goes on where it did
pub open_stays : (log : List ℕ) (end : ℕ) (a b : Image) → file_at b log ≡ file_at a log → IsOpen log end a → IsOpen log end b
open_stays log end a b same was = record { records = was.records; holds = record { file = was.holds.file; is = same ∙ was.holds.is; ends = was.holds.ends } }

-- nodes whose file stays are stored as they were
pub stored_stays : (nodes : StoreValue) (a b : Image) → nodes.name ≡ nodes_name → file_at b nodes_name ≡ file_at a nodes_name → IsStored nodes a → IsStored nodes b
stored_stays nodes a b named same was =
    let others = others_dont_count nodes.name a b (record { each = λ file is. subst (λ n. file_at b n ≡ file_at a n) (sym (is ∙ named)) same }) in
    others.stored nodes refl was

-- what stays at rest: the nodes are stored, no log's file changes, and nothing is pending
pub rests_on : (later : StoreValue) {nodes : StoreValue} {logs : Logs} {a b : HostState} → IsAtRest nodes logs a → (IsTrue b.is_faithful → IsTrue a.is_faithful) → later.name ≡ nodes_name → (IsTrue b.is_faithful → IsStored later b.files)
    → (IsTrue b.is_faithful → (log : List ℕ) → IsLogName log → file_at b.files log ≡ file_at a.files log) → (IsTrue b.is_honest → AllSettled b) → IsAtRest later logs b
rests_on later {a = a} {b = b} rest faithful named stored same settled = record {
  named = named;
  stored = stored;
  open_logs = record {
    named = rest.open_logs.named;
    open_at = λ f name log is. let own = rest.open_logs.named name log is in open_stays log.name log.end a.files b.files (subst (λ n. file_at b.files n ≡ file_at a.files n) (sym own.1) (same f name own.0)) (rest.open_logs.open_at (faithful f) name log is);
  };
  settled = settled;
}

-- after a change of a file that is neither the nodes' nor a log's
pub rests_other : (name : List ℕ) {D A : Option (List ℕ) → Option (List ℕ) → Type 0} {T E : Type 0} {u : T} {nodes : StoreValue} {logs : Logs} {a b : HostState} → nodes_name ≢ name → ((log : List ℕ) → IsLogName log → log ≢ name) → IsSound a → IsAtRest nodes logs a
    → Alters (IsFile name) (ChangesFile name D) (ChangesFile name A) {T = T} {E = E} (Ok u) a b → IsAtRest nodes logs b
rests_other name {nodes = nodes} {a = a} {b = b} no_nodes no_log sound rest alters =
    rests_on nodes rest (was_faithful alters.quiet.keeps) rest.named
    (λ f. let first = was_faithful alters.quiet.keeps f in stored_stays nodes a.files b.files rest.named (others_stay nodes_name no_nodes (alters.done first)) (rest.stored first))
    (λ f log is. others_stay log (no_log log is) (alters.done (was_faithful alters.quiet.keeps f)))
    (λ h. let first = was_honest alters.quiet.keeps h in alters.rests first (rest.settled first))

-- after a change of a data file
pub rests_file : (path : List ℕ) {D A : Option (List ℕ) → Option (List ℕ) → Type 0} {T E : Type 0} {u : T} {nodes : StoreValue} {logs : Logs} {a b : HostState} → IsFilePath path → IsSound a → IsAtRest nodes logs a
    → Alters (IsFile (file_of path)) (ChangesFile (file_of path) D) (ChangesFile (file_of path) A) {T = T} {E = E} (Ok u) a b → IsAtRest nodes logs b
rests_file path form sound rest alters = rests_other (file_of path) (file_is_no_nodes path form) (λ log is. file_is_no_log path log form is) sound rest alters

-- after calls that only look
pub rests_looked : {nodes : StoreValue} {logs : Logs} {a b : HostState} → IsSound a → IsAtRest nodes logs a → Looks a b → IsAtRest nodes logs b
rests_looked {nodes = nodes} {a = a} {b = b} sound rest looks =
    rests_on nodes rest (was_faithful looks.quiet.keeps) rest.named
    (λ f. let first = was_faithful looks.quiet.keeps f in stored_stays nodes a.files b.files rest.named (ap (λ i. file_at i nodes_name) (looks.same first)) (rest.stored first))
    (λ f log is. ap (λ i. file_at i log) (looks.same (was_faithful looks.quiet.keeps f)))
    (λ h. let first = was_honest looks.quiet.keeps h in rests_after_same (looks.moves first) (looks.same (sound.faithful first)) (rest.settled first))

pub rests_said : {bytes : List ℕ} {T : Type 0} {result : Result T HostFault} {nodes : StoreValue} {logs : Logs} {a b : HostState} → IsSound a → IsAtRest nodes logs a → Says bytes result a b → IsAtRest nodes logs b
rests_said {nodes = nodes} {a = a} {b = b} sound rest says =
    rests_on nodes rest (was_faithful says.keeps) rest.named
    (λ f. let first = was_faithful says.keeps f in stored_stays nodes a.files b.files rest.named (ap (λ i. file_at i nodes_name) (says.same first).0) (rest.stored first))
    (λ f log is. ap (λ i. file_at i log) (says.same (was_faithful says.keeps f)).0)
    (λ h. let first = was_honest says.keeps h in rests_after_say first (sound.faithful first) says (rest.settled first))

pub rests_heard : {into : List ℕ} {result : Result ℕ HostFault} {nodes : StoreValue} {logs : Logs} {a b : HostState} → IsSound a → IsAtRest nodes logs a → Hears into result a b → IsAtRest nodes logs b
rests_heard {nodes = nodes} {a = a} {b = b} sound rest hears =
    rests_on nodes rest (was_faithful hears.keeps) rest.named
    (λ f. let first = was_faithful hears.keeps f in stored_stays nodes a.files b.files rest.named (ap (λ i. file_at i nodes_name) (hears.same first).0) (rest.stored first))
    (λ f log is. ap (λ i. file_at i log) (hears.same (was_faithful hears.keeps f)).0)
    (λ h. let first = was_honest hears.keeps h in rests_after_same (hears.moves first) (hears.same (sound.faithful first)).0 (rest.settled first))

-- ---- causes

pub file_counted : (stop : Stop) (a b : HostState) → FileCause stop a b → IsCounted stop a b
file_counted (Host fault) a b cause = cause.1
file_counted (Damaged name) a b cause = tt
file_counted Full a b cause = tt
file_counted NoMemory a b cause = tt

pub journal_counted : (stop : Stop) (a b : HostState) → JournalCause stop a b → IsCounted stop a b
journal_counted (Host fault) a b cause = cause.1
journal_counted (Damaged name) a b cause = tt
journal_counted Full a b cause = tt
journal_counted NoMemory a b cause = tt

-- ---- actions

module _ {H : Type 0} (state : H → HostState) {old : GroundValue H} {before : H} {nodes : StoreValue} {logs : Logs} {stopped : Option Stop} (is : record { host = before; nodes = nodes; logs = logs; stopped = stopped } ≡ old) (alive : stopped ≡ None) (sound : IsSound (state before))
    (rest : IsAtRest nodes logs (state before)) where
  pub acts_of : {D A : Change} {stop : Option Stop} {new : GroundValue H} → Goes state D A stop (record { host = before; nodes = nodes; logs = logs; stopped = stopped }) new → Acts state D A stop old new
  acts_of {D} {A} {stop} {new} goes = subst (λ (o : GroundValue H). Acts state D A stop o new) is (record { goes = λ live. goes; stays = λ own has. cc })

  -- a change of files that is done
  pub acts_done : {own : List ℕ → Type 0} {D A : Change} {T E : Type 0} {u : T} (new : GroundValue H) → new.stopped ≡ None → Alters own D A {T = T} {E = E} (Ok u) (state before) (state new.host) → ((i : Image) → D i i) → Acts state D A None old new
  acts_done {D = D} new runs alters stays = acts_of (record {
    quiet = alters.quiet;
    tried = alters.tried;
    done = alters.done;
    leaves = λ h. alters_leave (Shows (D (state before).files) (state before).said) sound h (rest.settled h) alters (record { image = stays (state before).files; said_is = refl }) (λ p change said. record { image = change; said_is = said });
    rests = λ h. alters.rests h (rest.settled h);
    goes_on = runs;
  })

  -- one behind which it stops
  pub acts_stopped : {own : List ℕ → Type 0} {D A : Change} (B : Change) {T E : Type 0} {result : Result T E} {kept stop : Stop} (new : GroundValue H) → new.stopped ≡ Some kept → IsAgain kept stop → IsCounted kept (state before) (state new.host)
      → Alters own D A result (state before) (state new.host) → ((i : Image) → D i i) → Acts state D B (Some stop) old new
  acts_stopped {D = D} B {kept = kept} new keeps again counted alters stays = acts_of (record {
    quiet = alters.quiet;
    tried = alters.tried;
    done = λ f. tt;
    leaves = λ h. alters_leave (Shows (D (state before).files) (state before).said) sound h (rest.settled h) alters (record { image = stays (state before).files; said_is = refl }) (λ p change said. record { image = change; said_is = said });
    rests = λ h. tt;
    goes_on = record { own = kept; is = keeps; again = again; counted = counted };
  })

  -- calls that only look
  pub acts_looked : (new : GroundValue H) → new.stopped ≡ None → Looks (state before) (state new.host) → Acts state Stays Stays None old new
  acts_looked new runs looks = acts_of (record {
    quiet = looks.quiet;
    tried = looks.same;
    done = looks.same;
    leaves = λ h. same_leave (Shows (Stays (state before).files) (state before).said) sound h (rest.settled h) (looks.moves h) (record { image = refl; said_is = refl });
    rests = λ h. rests_after_same (looks.moves h) (looks.same (sound.faithful h)) (rest.settled h);
    goes_on = runs;
  })

  pub look_stopped : {kept stop : Stop} (new : GroundValue H) → new.stopped ≡ Some kept → IsAgain kept stop → IsCounted kept (state before) (state new.host) → Looks (state before) (state new.host) → Acts state Stays Stays (Some stop) old new
  look_stopped {kept = kept} new keeps again counted looks = acts_of (record {
    quiet = looks.quiet;
    tried = looks.same;
    done = λ f. tt;
    leaves = λ h. same_leave (Shows (Stays (state before).files) (state before).said) sound h (rest.settled h) (looks.moves h) (record { image = refl; said_is = refl });
    rests = λ h. tt;
    goes_on = record { own = kept; is = keeps; again = again; counted = counted };
  })

  -- where the host isn't called
  pub acts_still : {D A : Change} (new : GroundValue H) → new.host ≡ before → new.stopped ≡ None → ((i : Image) → D i i) → ((i : Image) → A i i) → Acts state D A None old new
  acts_still {D} {A} new same runs during after = acts_of (subst (λ (h : H). Goes state D A None (record { host = before; nodes = nodes; logs = logs; stopped = stopped }) (record { host = h; nodes = new.nodes; logs = new.logs; stopped = new.stopped })) (sym same) (record {
    quiet = quiet-refl (state before);
    tried = λ f. during (state before).files;
    done = λ f. after (state before).files;
    leaves = λ h. leaves_start (Shows (D (state before).files) (state before).said) sound h (λ p now. record { image = subst (D (state before).files) (sym ((rest.settled h).each p now)) (during (state before).files); said_is = sound.said h p now });
    rests = λ h. rest.settled h;
    goes_on = runs;
  }))

  pub still_stopped : {D : Change} (A : Change) {kept stop : Stop} (new : GroundValue H) → new.host ≡ before → new.stopped ≡ Some kept → IsAgain kept stop → IsCounted kept (state before) (state before) → ((i : Image) → D i i) → Acts state D A (Some stop) old new
  still_stopped {D} A {kept} {stop} new same keeps again counted during = acts_of (subst (λ (h : H). Goes state D A (Some stop) (record { host = before; nodes = nodes; logs = logs; stopped = stopped }) (record { host = h; nodes = new.nodes; logs = new.logs; stopped = new.stopped })) (sym same) (record {
    quiet = quiet-refl (state before);
    tried = λ f. during (state before).files;
    done = λ f. tt;
    leaves = λ h. leaves_start (Shows (D (state before).files) (state before).said) sound h (λ p now. record { image = subst (D (state before).files) (sym ((rest.settled h).each p now)) (during (state before).files); said_is = sound.said h p now });
    rests = λ h. tt;
    goes_on = record { own = kept; is = keeps; again = again; counted = counted };
  }))
