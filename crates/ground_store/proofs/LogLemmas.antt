-- The logs of a ground.
use Rattle.std.proofs.Common.{◌≡◌, ◌≢◌, ◌⊎◌, ⊎_elim, inl, inr, ℕ, ◌+◌, length, List, Bool, true, false, cond, Option, Some, None, unwrap_or, IsSome, IsTrue, Result, Ok, Err, OnOk, refl, sym, ◌∙◌, ap, subst}
use Rattle.std.specs.FinMap as map
use Rattle.std.specs.FinMap.{get-insert}
use Rattle.std.specs.Ordering.{eq_by_cmp}
use Rattle.std.specs.Cmp.{eq_by_cmp_equiv}
use Rattle.std.specs.Cmp.Lexicographic.{nat_list_cmp_total}
use Rattle.std.proofs.lemmas.Option.{same_Some}
use Rattle.host_model.specs.Picture.{Image, ChangesFile, OnBytes, file_at}
use Rattle.host_model.specs.Stores.{Stores}
use Rattle.host_model.specs.declared.fault.Stop.{Stop}
use Rattle.host_model.specs.declared.fault.Stop.TheVariants.{Host, Damaged, Full, NoMemory}
use Rattle.host_model.specs.State.{HostState}
use Rattle.host_model.specs.Calls.{IsSound}
use Rattle.host_model.specs.Alters.{Alters}
use Rattle.host_model.proofs.CallsLemmas.{was_faithful, was_honest}
use Rattle.host_model.proofs.Images.{cases_name, others_stay, changes_nothing}
use Rattle.journal_core.specs.Changes.{MayGain, Gains}
use Rattle.journal_core.specs.Journal.{IsOpen, AppendCause}
use Rattle.log_files.specs.Value.{LogValue}
use Rattle.row_keys.specs.Forms.{IsLogName}
use Rattle.node_store.specs.Value.{StoreValue}
use Rattle.store_layout.specs.Names.{nodes_name, IsFile}
use Rattle.store_layout.proofs.NameLemmas.{log_is_no_nodes}
use Rattle.ground_store.specs.Value.{Logs, GroundValue, log_at, IsAtRest}
use Rattle.ground_store.specs.Steps.{MayHaveOne, MayAppend, Appends}
use Rattle.ground_store.specs.Acts.{Acts, IsAgain, IsCounted}
use Rattle.ground_store.proofs.StepLemmas.{alters_file, stores_renamed}
use Rattle.ground_store.proofs.ActLemmas.{open_stays, stored_stays, acts_done, acts_stopped}
use Rattle.std.proofs.lemmas.Map.Lookups.{exact_bytes}
use Rattle.std.proofs.lemmas.Map.Views.{tells_apart}
use Rattle.node_store.specs.PathsTo.{path_cmp, PathsTo}
use Rattle.node_store.proofs.PathMaps.{same_paths}

pub is_some : {V : Type 0} {o : Option V} {v : V} → Some v ≡ o → IsSome o
is_some {o = o} same = subst IsSome same refl

own_at : {V : Type 0} (b : Bool) (v : V) (o p : Option V) → o ≡ Some v → (b ≡ true → p ≡ o) → cond b (Some v) p ≡ p
own_at true v o p is there = sym (there refl ∙ is)
own_at false v o p is there = refl

-- to put what is there changes nothing
pub insert_own : {V : Type 0} (m : PathsTo V) (key : List ℕ) (value : V) → Some value ≡ map.get m key → map.insert m key value ≡ m
insert_own m key value is = same_paths _ _ (λ q. get-insert nat_list_cmp_total m key value q ∙ own_at (eq_by_cmp path_cmp q key) value (map.get m key) (map.get m q) (sym is) (λ same. ap (map.get m) (tells_apart exact_bytes q key same)))

pub on_ok_and : {T E : Type 0} (result : Result T E) {P Q R : Type 0} → (P → Q → R) → OnOk result P → OnOk result Q → OnOk result R
on_ok_and (Ok value) both p q = both p q
on_ok_and (Err stop) both p q = tt

false_true : false ≡ true → ⊥
false_true e = cc

pub none_is_none : {V : Type 0} {o : Option V} → None ≡ o → IsSome o → ⊥
none_is_none same some = false_true (subst IsSome (sym same) some)

-- ---- a log that is made or goes on

same_or_other : (name log : List ℕ) → (name ≡ log) ⊎ (name ≢ log)
same_or_other name log = cases_name name log

get_same : {V : Type 0} (m : PathsTo V) (key : List ℕ) (value : V) (q : List ℕ) → q ≡ key → map.get (map.insert m key value) q ≡ Some value
get_same m key value q same = get-insert nat_list_cmp_total m key value q ∙ ap (λ t. cond t (Some value) (map.get m q)) (ap (λ k. eq_by_cmp path_cmp k key) same ∙ (eq_by_cmp_equiv nat_list_cmp_total).refl key)

get_other : {V : Type 0} (m : PathsTo V) (key : List ℕ) (value : V) (q : List ℕ) → q ≢ key → map.get (map.insert m key value) q ≡ map.get m q
get_other m key value q other = get-insert nat_list_cmp_total m key value q ∙ skipped (eq_by_cmp path_cmp q key) (λ is. other (tells_apart exact_bytes q key is))
  where
    skipped : (t : Bool) → (t ≡ true → ⊥) → cond t (Some value) (map.get m q) ≡ map.get m q
    skipped true none = absurd (none refl)
    skipped false none = refl

the_same : {V : Type 0} {o : Option V} {one two : V} → o ≡ Some one → o ≡ Some two → two ≡ one
the_same one two = same_Some _ _ (sym two ∙ one)

-- after a change of this log, which goes on as told
pub rests_logged : (log : List ℕ) (later : LogValue) {D A : Option (List ℕ) → Option (List ℕ) → Type 0} {T E : Type 0} {u : T} {nodes : StoreValue} {logs : Logs} {a b : HostState} → IsLogName log → later.name ≡ log → IsSound a → IsAtRest nodes logs a
    → Alters (IsFile log) (ChangesFile log D) (ChangesFile log A) {T = T} {E = E} (Ok u) a b → (IsTrue b.is_faithful → IsOpen later.name later.end b.files) → IsAtRest nodes (map.insert logs log later) b
rests_logged log later {nodes = nodes} {logs = logs} {a = a} {b = b} form named sound rest alters goes_on = record {
  named = rest.named;
  stored = λ f. let first = was_faithful alters.quiet.keeps f in stored_stays nodes a.files b.files rest.named (others_stay nodes_name (log_is_no_nodes log form) (alters.done first)) (rest.stored first);
  open_logs = record {
    named = λ name one is. ⊎_elim
        (λ same. let e = the_same (get_same logs log later name same) is in (subst IsLogName (sym same) form, ap (λ (v : LogValue). v.name) e ∙ named ∙ sym same))
        (λ other. rest.open_logs.named name one (sym (get_other logs log later name other) ∙ is))
        (same_or_other name log);
    open_at = λ f name one is. ⊎_elim
        (λ same. let e = the_same (get_same logs log later name same) is in subst (λ (v : LogValue). IsOpen v.name v.end b.files) (sym e) (goes_on f))
        (λ other.
        let was = sym (get_other logs log later name other) ∙ is in
        let own = rest.open_logs.named name one was in
        let first = was_faithful alters.quiet.keeps f in
        open_stays one.name one.end a.files b.files (subst (λ n. file_at b.files n ≡ file_at a.files n) (sym own.1) (others_stay name other (alters.done first))) (rest.open_logs.open_at first name one was))
        (same_or_other name log);
  };
  settled = λ h. let first = was_honest alters.quiet.keeps h in alters.rests first (rest.settled first);
}

-- a log that is made
pub rests_made : (log name : List ℕ) (made : LogValue) (later : Logs) {D A : Option (List ℕ) → Option (List ℕ) → Type 0} {T E : Type 0} {u : T} {nodes : StoreValue} {logs : Logs} {a b : HostState} → IsLogName log → name ≡ log → made ≡ record { name = log; end = 0 } → later ≡ map.insert logs name made
    → IsSound a → IsAtRest nodes logs a → Alters (IsFile log) (ChangesFile log D) (ChangesFile log A) {T = T} {E = E} (Ok u) a b → (IsTrue b.is_faithful → IsOpen log 0 b.files) → IsAtRest nodes later b
rests_made log name made later {nodes = nodes} {logs = logs} {b = b} form same is taken sound rest alters goes_on =
    subst (λ (l : Logs). IsAtRest nodes l b) (sym (taken ∙ ap (λ (n : List ℕ). map.insert logs n made) same ∙ ap (map.insert logs log) is)) (rests_logged log (record { name = log; end = 0 }) form refl sound rest alters goes_on)

-- ---- an append

named_of : (o : Option LogValue) (d : LogValue) (P : LogValue → Type 0) → IsSome o → ((log : LogValue) → o ≡ Some log → P log) → P (unwrap_or o d)
named_of None d P some each = absurd (false_true some)
named_of (Some log) d P some each = each log refl

-- a log that is there has its name
pub at_named : {log : List ℕ} {nodes : StoreValue} {logs : Logs} {a : HostState} → IsAtRest nodes logs a → IsSome (map.get logs log) → IsLogName log × ((log_at logs log).name ≡ log)
at_named {log} {logs = logs} rest some = named_of (map.get logs log) (record { name = log; end = 0 }) (λ v. IsLogName log × (v.name ≡ log)) some (λ v is. rest.open_logs.named log v is)

pub appended : {log : List ℕ} (own : LogValue) {payload : List ℕ} {T E : Type 0} {result : Result T E} {a b : HostState} → own.name ≡ log → IsSound a → Stores own.name (OnBytes (MayGain own.end payload)) (OnBytes (Gains own.end payload)) result a b
    → Alters (IsFile log) (MayAppend log own.end payload) (Appends log own.end payload) result a b
appended own {payload = payload} named sound stores = alters_file (MayHaveOne own.end payload) (OnBytes (Gains own.end payload)) sound (stores_renamed named stores) (λ x y d. inr d) (λ x y a. a)

pub may_keep : (log : List ℕ) (end : ℕ) (payload : List ℕ) (image : Image) → MayAppend log end payload image image
may_keep log end payload image = changes_nothing log (MayHaveOne end payload) image (inl refl)

pub append_counted : (own : Stop) (end : ℕ) (payload : List ℕ) (a b : HostState) → AppendCause end payload own a b → IsCounted own a b
append_counted (Host fault) end payload a b cause = cause.1
append_counted (Damaged name) end payload a b cause = tt
append_counted Full end payload a b cause = tt
append_counted NoMemory end payload a b cause = tt

module _ {H : Type 0} (state : H → HostState) {old : GroundValue H} {before : H} {nodes : StoreValue} {logs : Logs} {stopped : Option Stop} (is : record { host = before; nodes = nodes; logs = logs; stopped = stopped } ≡ old) (alive : stopped ≡ None) (sound : IsSound (state before))
    (rest : IsAtRest nodes logs (state before)) (log payload : List ℕ) (some : IsSome (map.get old.logs log)) where
  there : IsSome (map.get logs log)
  there = subst (λ (v : GroundValue H). IsSome (map.get v.logs log)) (sym is) some

  pub append_acts : {T E : Type 0} {u : T} (new : GroundValue H) → new.stopped ≡ None → Stores (log_at logs log).name (OnBytes (MayGain (log_at logs log).end payload)) (OnBytes (Gains (log_at logs log).end payload)) {T = T} {E = E} (Ok u) (state before) (state new.host)
      → Acts state (MayAppend log (log_at old.logs log).end payload) (Appends log (log_at old.logs log).end payload) None old new
  append_acts new runs stores =
      subst (λ (v : GroundValue H). Acts state (MayAppend log (log_at v.logs log).end payload) (Appends log (log_at v.logs log).end payload) None old new) is
      (acts_done state is alive sound rest new runs (appended (log_at logs log) (at_named rest there).1 sound stores) (may_keep log (log_at logs log).end payload))

  pub append_stopped : {T E : Type 0} {e : E} {kept stop : Stop} (new : GroundValue H) → new.stopped ≡ Some kept → IsAgain kept stop → AppendCause (log_at logs log).end payload kept (state before) (state new.host)
      → Stores (log_at logs log).name (OnBytes (MayGain (log_at logs log).end payload)) (OnBytes (Gains (log_at logs log).end payload)) {T = T} (Err e) (state before) (state new.host)
      → Acts state (MayAppend log (log_at old.logs log).end payload) (Appends log (log_at old.logs log).end payload) (Some stop) old new
  append_stopped {kept = kept} {stop} new keeps again cause stores =
      subst (λ (v : GroundValue H). Acts state (MayAppend log (log_at v.logs log).end payload) (Appends log (log_at v.logs log).end payload) (Some stop) old new) is
      (acts_stopped state is alive sound rest (Appends log (log_at logs log).end payload) new keeps again (append_counted kept (log_at logs log).end payload _ _ cause) (appended (log_at logs log) (at_named rest there).1 sound stores) (may_keep log (log_at logs log).end payload))

  -- after an append
  pub rests_appended : {T E : Type 0} {u : T} {later : Logs} {b : HostState} → later ≡ map.insert logs log (record (log_at logs log) { end = (log_at logs log).end + 5 + length payload })
      → Stores (log_at logs log).name (OnBytes (MayGain (log_at logs log).end payload)) (OnBytes (Gains (log_at logs log).end payload)) {T = T} {E = E} (Ok u) (state before) b
      → (IsTrue b.is_faithful → IsOpen (log_at logs log).name ((log_at logs log).end + 5 + length payload) b.files) → IsAtRest nodes later b
  rests_appended {b = b} same stores goes_on =
      let own = at_named rest there in
      subst (λ (l : Logs). IsAtRest nodes l b) (sym same) (rests_logged log (record (log_at logs log) { end = (log_at logs log).end + 5 + length payload }) own.0 own.1 sound rest (appended (log_at logs log) own.1 sound stores) goes_on)
