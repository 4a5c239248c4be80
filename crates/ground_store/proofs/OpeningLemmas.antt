-- How a ground begins.
use Rattle.std.proofs.Common.{◌≡◌, ℕ, List, Some, None, IsTrue, sym, ◌∙◌, subst}
use Rattle.std.specs.FinMap as map
use Rattle.std.specs.FinMap.{get-empty}
use Rattle.host_model.specs.Picture.{Image, Same}
use Rattle.host_model.specs.State.{HostState}
use Rattle.host_model.specs.Calls.{Looks}
use Rattle.host_model.specs.Leaves.{AllSettled}
use Rattle.host_model.proofs.CallsLemmas.{quiet-then, still_faithful, still_honest}
use Rattle.host_model.proofs.MovesLemmas.{goes_on}
use Rattle.node_store.specs.PathsTo.{path_cmp}
use Rattle.node_store.specs.Value.{StoreValue}
use Rattle.node_store.specs.Image.{HasNodes, HasNoNodes, IsStored}
use Rattle.node_store.proofs.ImageLemmas.{stored_has}
use Rattle.log_files.specs.Value.{LogValue}
use Rattle.store_layout.specs.Names.{nodes_name}
use Rattle.ground_store.specs.Value.{Logs, IsAtRest}

pub looks_then : {a b c : HostState} → Looks a b → Looks b c → Looks a c
looks_then one two = record {
  quiet = quiet-then one.quiet two.quiet;
  same = λ f. two.same (still_faithful one.quiet.keeps f) ∙ one.same f;
  moves = λ h. goes_on Same Same (one.moves h) (two.moves (still_honest one.quiet.keeps h)) (λ d p left s. s) (λ d e p left s t. t ∙ s) (λ d e p left s t. t ∙ s);
}

-- ---- a ground that has done nothing

abbrev no_logs : Logs
no_logs = map.empty

no_log : (name : List ℕ) (log : LogValue) → map.get no_logs name ≡ Some log → ⊥
no_log name log is = let none : map.get no_logs name ≡ None = get-empty path_cmp name in cc

pub rests_fresh : (nodes : StoreValue) {logs : Logs} (state : HostState) → logs ≡ map.empty → nodes.name ≡ nodes_name → (IsTrue state.is_faithful → IsStored nodes state.files) → (IsTrue state.is_honest → AllSettled state) → IsAtRest nodes logs state
rests_fresh nodes state none named stored settled = subst (λ (l : Logs). IsAtRest nodes l state) (sym none) (record {
  named = named;
  stored = stored;
  open_logs = record { named = λ name log is. absurd (no_log name log is); open_at = λ f name log is. absurd (no_log name log is) };
  settled = settled;
})

-- stored nodes are nodes
pub damaged_not_stored : (nodes : StoreValue) (image : Image) → nodes.name ≡ nodes_name → IsStored nodes image → HasNoNodes nodes_name image → ⊥
damaged_not_stored nodes image named stored none = none.none nodes.nodes (subst (λ n. HasNodes n image nodes.nodes) named (stored_has nodes image stored))
