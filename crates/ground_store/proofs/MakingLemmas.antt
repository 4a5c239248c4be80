-- How a new store is made.
use Rattle.std.proofs.Common.{◌≡◌, ◌≢◌, inl, inr, ⊎_elim, ℕ, List, Option, Result, Ok, Err, IsTrue, refl, sym, ◌∙◌, ap, subst, arith}
use Rattle.std.specs.FinMap as map
use Rattle.host_model.specs.Picture.{Image, ChangesFile}
use Rattle.host_model.specs.State.{HostState}
use Rattle.host_model.specs.Calls.{IsSound, Looks, Keeps}
use Rattle.host_model.specs.Leaves.{LeavesOnly, AllSettled, Shows}
use Rattle.host_model.specs.Stores.{Stores}
use Rattle.host_model.specs.Alters.{Alters}
use Rattle.host_model.specs.declared.fault.Stop as stop
use Rattle.host_model.specs.declared.fault.Stop.TheVariants.{Host, Damaged, Full, NoMemory}
use Rattle.host_model.proofs.CallsLemmas.{quiet-refl, quiet-then, still_faithful, still_honest, faulted-then}
use Rattle.host_model.proofs.Images.{others_stay}
use Rattle.host_model.proofs.LeavesLemmas.{leaves_start, leaves_then, alters_leave, same_leave, rests_after_same}
use Rattle.cell_merge.specs.declared.cell.Cell.{Cell}
use Rattle.data_files.specs.Files.{HoldsCells, WritesCells}
use Rattle.node_store.specs.Nodes.{Nodes, multi_applied}
use Rattle.node_store.specs.Value.{StoreValue}
use Rattle.node_store.specs.declared.changes.NodeOp.{NodeOp}
use Rattle.node_store.specs.declared.changes.NodeStop.TheVariants.{Stop}
use Rattle.node_store.specs.Image.{HasNodes, IsUnborn, IsStored}
use Rattle.node_store.specs.Answers.{IsFull, MultiCause}
use Rattle.node_store.specs.Steps.{MayGive, Gives, MayStart, Starts, HasApplied, OthersStay}
use Rattle.node_store.proofs.ImageLemmas.{unborn_start}
use Rattle.store_layout.specs.Names.{nodes_name, IsFile}
use Rattle.store_layout.specs.NewStore.{first_ops, first_cells, root_file, root_file_path, IsUnbornDisk, IsNewStore}
use Rattle.store_layout.proofs.NameLemmas.{file_is_no_nodes}
use Rattle.store_layout.proofs.FirstLemmas.{root_path_form, first_nodes, first_applied}
use Rattle.store_layout.proofs.RoomLemmas.{first_short}
use Rattle.ground_store.proofs.StepLemmas.{alters_file, stores_renamed}
use Rattle.ground_store.specs.Opening.{BeginsFrom, IsBegunOrNot, IsReady, MakeStops}

abbrev Start : Type 1
Start = Image → Type 0

-- ---- steps of a making

-- the disk isn't changed by what did nothing
pub begins_nothing : (start : Start) {a : HostState} → ((i : Image) → start i → IsBegunOrNot i) → IsSound a → BeginsFrom start a a
begins_nothing start {a} weak sound = record {
  quiet = quiet-refl a;
  tried = λ f begun. weak a.files begun;
  leaves = λ h rests begun. leaves_start (Shows IsBegunOrNot a.said) sound h (λ p now. record { image = subst IsBegunOrNot (sym (rests.each p now)) (weak a.files begun); said_is = sound.said h p now });
}

pub begins_looked : (start : Start) {a b : HostState} → ((i : Image) → start i → IsBegunOrNot i) → IsSound a → Looks a b → BeginsFrom start a b
begins_looked start {a} weak sound looks = record {
  quiet = looks.quiet;
  tried = λ f begun. subst IsBegunOrNot (sym (looks.same f)) (weak a.files begun);
  leaves = λ h rests begun. same_leave (Shows IsBegunOrNot a.said) sound h rests (looks.moves h) (record { image = weak a.files begun; said_is = refl });
}

pub begins_by : (start : Start) {own : List ℕ → Type 0} {D A : Image → Image → Type 0} {T E : Type 0} {result : Result T E} {a b : HostState} → ((i : Image) → start i → IsBegunOrNot i) → IsSound a → Alters own D A result a b
    → ((d p : Image) → start d → D d p → IsBegunOrNot p) → BeginsFrom start a b
begins_by start {a = a} {b = b} weak sound alters step = record {
  quiet = alters.quiet;
  tried = λ f begun. step a.files b.files begun (alters.tried f);
  leaves = λ h rests begun.
      alters_leave (Shows IsBegunOrNot a.said) sound h rests alters (record { image = weak a.files begun; said_is = refl })
      (λ p change said. record { image = step a.files p.image begun change; said_is = said });
}

pub begins_then : (start mid : Start) {a b c : HostState} → IsSound a → BeginsFrom start a b → (IsTrue a.is_faithful → start a.files → mid b.files) → (IsTrue a.is_honest → AllSettled a → AllSettled b) → BeginsFrom mid b c → BeginsFrom start a c
begins_then start mid {a} {b} {c} sound one reach settle two = record {
  quiet = quiet-then one.quiet two.quiet;
  tried = λ f begun. two.tried (still_faithful one.quiet.keeps f) (reach f begun);
  leaves = λ h rests begun.
      let f = sound.faithful h in
      leaves_then (one.leaves h rests begun)
      (subst (λ s. LeavesOnly (Shows IsBegunOrNot s) b c) (one.quiet.said f) (two.leaves (still_honest one.quiet.keeps h) (settle h rests) (reach f begun)));
}

pub begins_behind_look : {a b c : HostState} → IsSound a → Looks a b → BeginsFrom IsUnbornDisk b c → BeginsFrom IsUnbornDisk a c
begins_behind_look sound looks made =
    begins_then IsUnbornDisk IsUnbornDisk sound (begins_looked IsUnbornDisk (λ i disk. inl disk) sound looks) (λ f disk. subst IsUnbornDisk (sym (looks.same f)) disk) (λ h rests. rests_after_same (looks.moves h) (looks.same (sound.faithful h)) rests) made

-- ---- images

nodes_apart : nodes_name ≢ root_file
nodes_apart = file_is_no_nodes root_file_path root_path_form

-- the file of the root tablet doesn't count
pub written_unborn : {step : Option (List ℕ) → Option (List ℕ) → Type 0} (d p : Image) → IsUnbornDisk d → ChangesFile root_file step d p → IsUnbornDisk p
written_unborn d p disk change = record {
  nodes = record { none = λ born. disk.nodes.none (record { second = born.second; rest = born.rest; is = sym (others_stay nodes_name nodes_apart change) ∙ born.is }) };
  others = λ q apart root. others_stay q root change ∙ disk.others q apart root;
}

root_stays : (d p : Image) → OthersStay nodes_name d p → HoldsCells root_file first_cells d → HoldsCells root_file first_cells p
root_stays d p others root = record { bytes = root.bytes; there = others.each root_file (λ is. nodes_apart (sym is)) ∙ root.there; file = root.file }

started_ready : (d p : Image) → IsReady d → MayStart nodes_name d p → IsReady p
started_ready d p ready start = record {
  unborn = record { nodes = unborn_start nodes_name d p start ready.unborn.nodes; others = λ q apart root. start.others.each q apart ∙ ready.unborn.others q apart root };
  root = root_stays d p start.others ready.root;
}

pub ready_started : (d p : Image) → IsReady d → Starts nodes_name d p → IsReady p
ready_started d p ready start = record {
  unborn = record { nodes = start.unborn; others = λ q apart root. start.others.each q apart ∙ ready.unborn.others q apart root };
  root = root_stays d p start.others ready.root;
}

abbrev first_value : List ℕ → StoreValue
first_value name = record { name = name; nodes = map.empty; end = 0 }

-- where the nodes of a store stand, and none are in it yet
pub record IsFirst (store : StoreValue) (ops : List NodeOp) : Type 0 where
  pub name : store.name ≡ nodes_name
  pub none : store.nodes ≡ map.empty
  pub ops_are : ops ≡ first_ops

applied_first : (store : StoreValue) (ops : List NodeOp) (after : Nodes) → IsFirst store ops → multi_applied ops store.nodes ≡ Ok after → multi_applied first_ops map.empty ≡ Ok after
applied_first store ops after is applies = ap (λ n. multi_applied first_ops n) (sym is.none) ∙ ap (λ l. multi_applied l store.nodes) (sym is.ops_are) ∙ applies

apart_of : (store : StoreValue) (ops : List NodeOp) → IsFirst store ops → (q : List ℕ) → q ≢ nodes_name → q ≡ store.name → ⊥
apart_of store ops is q apart owns = apart (owns ∙ is.name)

-- the multi is there
given_new : (store : StoreValue) (ops : List NodeOp) (d p : Image) → IsFirst store ops → IsReady d → OthersStay store.name d p → HasApplied ops store p → IsNewStore p
given_new store ops d p is ready others given = record {
  nodes = given.after;
  made = applied_first store ops given.after is given.applies;
  has = subst (λ n. HasNodes n p given.after) is.name given.has;
  root = root_stays d p (subst (λ n. OthersStay n d p) is.name others) ready.root;
  others = λ q apart root. others.each q (apart_of store ops is q apart) ∙ ready.unborn.others q apart root;
}

given_first : (store : StoreValue) (ops : List NodeOp) (d p : Image) → IsFirst store ops → IsReady d × IsStored store d → MayGive ops store d p → IsBegunOrNot p
given_first store ops d p is ready give = ⊎_elim
    (λ keeps. inl (record {
      nodes = subst (λ n. IsUnborn n p) is.name (keeps.unborn (subst (λ n. IsUnborn n d) (sym is.name) ready.0.unborn.nodes));
      others = λ q apart root. give.others.each q (apart_of store ops is q apart) ∙ ready.0.unborn.others q apart root;
    }))
    (λ given. inr (given_new store ops d p is ready.0 give.others given))
    (give.nodes ready.1)

-- ---- the nodes are made

pub ready_weak : (i : Image) → IsReady i → IsBegunOrNot i
ready_weak i ready = inl ready.unborn

pub nodes_started : {own : List ℕ → Type 0} {T E : Type 0} {result : Result T E} {a b : HostState} (name : List ℕ) → name ≡ nodes_name → IsSound a → Alters own (MayStart name) (Starts name) result a b → BeginsFrom IsReady a b
nodes_started name named sound alters = begins_by IsReady ready_weak sound alters (λ d p ready start. inl (started_ready d p ready (subst (λ n. MayStart n d p) named start)).unborn)

-- after both calls of the nodes
module _ {own : List ℕ → Type 0} {T E : Type 0} {u : T} {a b : HostState} (name : List ℕ) (named : name ≡ nodes_name) (store : StoreValue) (ops : List NodeOp) (is : IsFirst store ops) (sound_a : IsSound a) (sound_b : IsSound b) (create : Alters own (MayStart name) (Starts name) {T = T} {E = E} (Ok u) a b)
    (stored : IsTrue b.is_faithful → IsStored store b.files) where
  reached : IsTrue a.is_faithful → IsReady a.files → IsReady b.files × IsStored store b.files
  reached f ready = (ready_started a.files b.files ready (subst (λ n. Starts n a.files b.files) named (create.done f)), stored (still_faithful create.quiet.keeps f))

  pub nodes_given : {other : List ℕ → Type 0} {U F : Type 0} {result : Result U F} {c : HostState} → Alters other (MayGive ops store) (Gives ops store) result b c → BeginsFrom IsReady a c
  nodes_given give =
      begins_then IsReady (λ i. IsReady i × IsStored store i) sound_a (nodes_started name named sound_a create) reached create.rests
      (begins_by (λ i. IsReady i × IsStored store i) (λ i both. ready_weak i both.0) sound_b give (λ d p both change. given_first store ops d p is both change))

  pub nodes_new : {other : List ℕ → Type 0} {U F : Type 0} {v : U} {c : HostState} → Alters other (MayGive ops store) (Gives ops store) {T = U} {E = F} (Ok v) b c → IsTrue a.is_faithful → IsReady a.files → IsNewStore c.files
  nodes_new {c = c} give f ready =
      let both = reached f ready in
      let gives = give.done (still_faithful create.quiet.keeps f) in
      given_new store ops b.files c.files is both.0 gives.others (gives.nodes both.1)

-- a store that was just made is first
pub first_of : (store : StoreValue) (ops : List NodeOp) (name : List ℕ) → store ≡ first_value name → name ≡ nodes_name → ops ≡ first_ops → IsFirst store ops
first_of store ops name made named ops_are = record { name = ap (λ (s : StoreValue). s.name) made ∙ named; none = ap (λ (s : StoreValue). s.nodes) made; ops_are = ops_are }

-- ---- causes

no_room : IsFull first_ops (first_value nodes_name) → ⊥
no_room (inl refused) = let applies : multi_applied first_ops map.empty ≡ Ok first_nodes = first_applied in let full : multi_applied first_ops map.empty ≡ Err (Stop Full) = refused in cc
no_room (inr (ok, inl long)) = omega (arith, first_short, long)
no_room (inr (ok, inr far)) = omega (arith, first_short, far)

pub multi_stops : (own : stop.Stop) (store : StoreValue) (ops : List NodeOp) (name : List ℕ) (a b c : HostState) → store ≡ first_value name → name ≡ nodes_name → ops ≡ first_ops → Keeps a b → MultiCause ops store (Stop own) b c → MakeStops own a c
multi_stops (Host fault) store ops name a b c made named ops_are keeps cause = (cause.0, faulted-then keeps cause.1)
multi_stops (Damaged file) store ops name a b c made named ops_are keeps cause = cause
multi_stops Full store ops name a b c made named ops_are keeps cause = no_room (subst (λ l. IsFull l (first_value nodes_name)) ops_are (subst (IsFull ops) (made ∙ ap first_value named) cause))
multi_stops NoMemory store ops name a b c made named ops_are keeps cause = tt

-- ---- the file of the root tablet is made

module _ {D A : Option (List ℕ) → Option (List ℕ) → Type 0} {T E : Type 0} {a b : HostState} (name : List ℕ) (named : name ≡ root_file) (sound : IsSound a) where
  pub file_written : {result : Result T E} → Stores name D A result a b → Alters (IsFile root_file) (ChangesFile root_file D) (ChangesFile root_file A) result a b
  file_written stores = alters_file D A sound (stores_renamed named stores) (λ x y d. d) (λ x y a. a)

  pub file_begun : {result : Result T E} → Stores name D A result a b → BeginsFrom IsUnbornDisk a b
  file_begun stores = begins_by IsUnbornDisk (λ i disk. inl disk) sound (file_written stores) (λ d p disk change. inl (written_unborn d p disk change))

  pub file_ready : {u : T} (cells : List Cell) → cells ≡ first_cells → Stores name D A {T = T} {E = E} (Ok u) a b → WritesCells name cells {T = T} {E = E} (Ok u) a b → IsTrue a.is_faithful → IsUnbornDisk a.files → IsReady b.files
  file_ready cells are stores writes f disk = record {
    unborn = written_unborn a.files b.files disk ((file_written stores).tried f);
    root = subst (λ n. HoldsCells n first_cells b.files) named (subst (λ l. HoldsCells name l b.files) are (writes.done f));
  }

  pub all_begun : {u : T} {c : HostState} (cells : List Cell) → cells ≡ first_cells → Stores name D A {T = T} {E = E} (Ok u) a b → WritesCells name cells {T = T} {E = E} (Ok u) a b → BeginsFrom IsReady b c → BeginsFrom IsUnbornDisk a c
  all_begun cells are stores writes made = begins_then IsUnbornDisk IsReady sound (file_begun stores) (file_ready cells are stores writes) (file_written stores).rests made
