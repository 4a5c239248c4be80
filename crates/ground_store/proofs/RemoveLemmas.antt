-- A file that is taken out by its name.
use Rattle.std.proofs.Common.{◌≡◌, ◌≢◌, ⊎_elim, ℕ, List, Bool, true, false, cond, Option, Some, None, MatchOption, Ok, refl, sym, ◌∙◌, ap, subst}
use Rattle.std.specs.FinMap as map
use Rattle.std.specs.FinMap.{get-remove}
use Rattle.std.specs.Ordering.{eq_by_cmp}
use Rattle.std.specs.Cmp.{eq_by_cmp_equiv}
use Rattle.std.specs.Cmp.Lexicographic.{nat_list_cmp_total}
use Rattle.std.proofs.lemmas.Map.Lookups.{exact_bytes}
use Rattle.std.proofs.lemmas.Map.Views.{tells_apart}
use Rattle.host_model.specs.Picture.{ChangesFile, file_at}
use Rattle.host_model.specs.State.{HostState}
use Rattle.host_model.specs.Calls.{IsSound}
use Rattle.host_model.specs.Alters.{Alters}
use Rattle.host_model.proofs.CallsLemmas.{was_faithful, was_honest}
use Rattle.host_model.proofs.Images.{cases_name, others_stay}
use Rattle.log_files.specs.Value.{LogValue}
use Rattle.row_keys.specs.Forms.{IsLogName}
use Rattle.node_store.specs.PathsTo.{path_cmp, PathsTo}
use Rattle.node_store.specs.Value.{StoreValue}
use Rattle.node_store.proofs.PathMaps.{same_paths}
use Rattle.store_layout.specs.Names.{nodes_name, IsFile, IsRemovableName}
use Rattle.store_layout.proofs.NameLemmas.{removable_is_no_nodes}
use Rattle.ground_store.specs.Value.{Logs, IsAtRest}
use Rattle.ground_store.proofs.ActLemmas.{open_stays, stored_stays}

get_gone : {V : Type 0} (m : PathsTo V) (key : List ℕ) → map.get (map.remove m key) key ≡ None
get_gone m key = get-remove nat_list_cmp_total m key key ∙ ap (λ t. cond t None (map.get m key)) ((eq_by_cmp_equiv nat_list_cmp_total).refl key)

get_left : {V : Type 0} (m : PathsTo V) (key q : List ℕ) → q ≢ key → map.get (map.remove m key) q ≡ map.get m q
get_left m key q other = get-remove nat_list_cmp_total m key q ∙ skipped (eq_by_cmp path_cmp q key) (λ is. other (tells_apart exact_bytes q key is))
  where
    skipped : (t : Bool) → (t ≡ true → ⊥) → cond t None (map.get m q) ≡ map.get m q
    skipped true none = absurd (none refl)
    skipped false none = refl

-- to take out what isn't there changes nothing
remove_none : {V : Type 0} (m : PathsTo V) (key : List ℕ) → map.get m key ≡ None → map.remove m key ≡ m
remove_none m key none = same_paths _ _ (λ q.
    ⊎_elim
    (λ same. ap (map.get (map.remove m key)) same ∙ get_gone m key ∙ sym none ∙ sym (ap (map.get m) same))
    (λ other. get_left m key q other)
    (cases_name q key))

none_of : {V : Type 0} (o : Option V) → ((v : V) → o ≡ Some v → ⊥) → o ≡ None
none_of None never = refl
none_of (Some v) never = absurd (never v refl)

-- the logs without one of this name, if it is a log's
pub removed_logs : (name : List ℕ) (found : Option (List ℕ)) (logs : Logs) {later : Logs} → ((key : List ℕ) (log : LogValue) → map.get logs key ≡ Some log → IsLogName key) → MatchOption found (IsLogName name → ⊥) (λ log. log ≡ name) → MatchOption found (later ≡ logs) (λ log. later ≡ map.remove logs log)
    → later ≡ map.remove logs name
removed_logs name None logs named never same = same ∙ sym (remove_none logs name (none_of (map.get logs name) (λ log is. never (named name log is))))
removed_logs name (Some log) logs named is gone = gone ∙ ap (map.remove logs) is

-- the same of the bytes that were looked at
pub found_named : {bytes name : List ℕ} → bytes ≡ name → (found : Option (List ℕ)) → MatchOption found (IsLogName bytes → ⊥) (λ log. log ≡ bytes) → MatchOption found (IsLogName name → ⊥) (λ log. log ≡ name)
found_named same found is = subst (λ n. MatchOption found (IsLogName n → ⊥) (λ log. log ≡ n)) same is

some_none : {V : Type 0} {v : V} → None ≡ Some v → ⊥
some_none e = cc

-- after such a file is taken out
pub rests_removed : (name : List ℕ) {D A : Option (List ℕ) → Option (List ℕ) → Type 0} {T E : Type 0} {u : T} {nodes : StoreValue} {logs later : Logs} {a b : HostState} → IsRemovableName name → later ≡ map.remove logs name → IsSound a → IsAtRest nodes logs a
    → Alters (IsFile name) (ChangesFile name D) (ChangesFile name A) {T = T} {E = E} (Ok u) a b → IsAtRest nodes later b
rests_removed name {nodes = nodes} {logs = logs} {a = a} {b = b} form same sound rest alters = subst (λ (l : Logs). IsAtRest nodes l b) (sym same) (record {
  named = rest.named;
  stored = λ f. let first = was_faithful alters.quiet.keeps f in stored_stays nodes a.files b.files rest.named (others_stay nodes_name (removable_is_no_nodes name form) (alters.done first)) (rest.stored first);
  open_logs = record {
    named = λ key one is. rest.open_logs.named key one (sym (get_left logs name key (apart key one is)) ∙ is);
    open_at = λ f key one is.
        let other = apart key one is in
        let was = sym (get_left logs name key other) ∙ is in
        let own = rest.open_logs.named key one was in
        let first = was_faithful alters.quiet.keeps f in
        open_stays one.name one.end a.files b.files (subst (λ n. file_at b.files n ≡ file_at a.files n) (sym own.1) (others_stay key other (alters.done first))) (rest.open_logs.open_at first key one was);
  };
  settled = λ h. let first = was_honest alters.quiet.keeps h in alters.rests first (rest.settled first);
})
  where
    apart : (key : List ℕ) (one : LogValue) → map.get (map.remove logs name) key ≡ Some one → key ≢ name
    apart key one is same = some_none (sym (ap (map.get (map.remove logs name)) same ∙ get_gone logs name) ∙ is)
