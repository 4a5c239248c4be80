-- What changes that make a table do to an image.
use Rattle.std.proofs.Common.{◌≡◌, ◌⊎◌, inl, inr, ⊎_elim, ℕ, ◌+◌, ◌<◌, ◌≤◌, ◌^◌, false, List, [], ◌∷◌, ◌++◌, length, take, drop, Option, Some, Result, Ok, Err, IsErr, IsTrue, refl, sym, ◌∙◌, ap, subst, arith, length-append}
use Rattle.std.proofs.lemmas.List.{drop_at, drop_all, take-append-le}
use Rattle.std.specs.Prelude.{IfSome}
use Rattle.host_model.specs.Picture.{Image, file_at}
use Rattle.host_model.specs.State.{HostState}
use Rattle.host_model.specs.Calls.{IsSound}
use Rattle.host_model.specs.Alters.{Alters}
use Rattle.host_model.specs.declared.fault.Stop.{Stop}
use Rattle.host_model.specs.declared.fault.Stop.TheVariants.{Host, Damaged, Full, NoMemory}
use Rattle.row_keys.specs.Forms.{IsWordName}
use Rattle.node_store.specs.declared.changes.NodeOp.{NodeOp}
use Rattle.node_store.specs.Nodes.{Nodes, multi_applied}
use Rattle.node_store.specs.Value.{StoreValue as NodeStoreValue}
use Rattle.node_store.specs.Answers.{IsFull}
use Rattle.node_store.specs.Image.{IsNodeFile, HasNodes, IsStored}
use Rattle.node_store.specs.Steps.{MayGive, Gives, HasApplied, OthersStay}
use Rattle.node_store.proofs.ImageLemmas.{one_nodes, stored_has, others_dont_count}
use Rattle.store_layout.specs.Names.{nodes_name}
use Rattle.store_meaning.specs.NodesAside.{AgreeAside}
use Rattle.store_meaning.specs.Readable.{IsReadable}
use Rattle.store_meaning.proofs.AsideLemmas.{readable_aside}
use Rattle.table_store.specs.Numbers.{base36}
use Rattle.table_store.specs.Tables.{Tables, is_taken, created}
use Rattle.table_store.specs.Layout.{create_ops}
use Rattle.table_store.specs.Reading.{IsReading}
use Rattle.table_store.specs.Kept.{SaysTables}
use Rattle.table_store.specs.StoreValue.{StoreValue, MayCreate, Creates, CreateStops, entry_of}
use Rattle.table_store.specs.Creating.{CommitStops, IsUnnamed}
use Rattle.plain_model.specs.declared.operation.Entry.{Entry}
use Rattle.table_store.proofs.TablesLemmas.{reading_created}
use Rattle.table_store.proofs.AsideLemmas.{aside_same, aside_created}
use Rattle.table_store.proofs.AltersMore.{alters_nothing, alters_weaker, alters_failed}

-- the image of a store whose nodes say these tables says them
pub says_stored : (store : NodeStoreValue) (tables : Tables) (image : Image) → store.name ≡ nodes_name → IsReading store.nodes tables → IsStored store image → SaysTables image tables
says_stored store tables image named reading stored = record {
  nodes = store.nodes;
  has = subst (λ n. HasNodes n image store.nodes) named (stored_has store image stored);
  reading = reading;
}

-- an image that didn't change says what it said
pub may_create_nothing : (name : List ℕ) (tables : Tables) (image : Image) → MayCreate name tables image image
may_create_nothing name tables image = record { each = λ says. inl says; readable = λ is. is }

-- where the host isn't called
pub alters_unasked : (own : List ℕ → Type 0) (during after : Image → Image → Type 0) {T E : Type 0} (result : Result T E) (state : HostState) → IsErr result → ((i : Image) → during i i) → Alters own during after result state state
alters_unasked own during after (Ok x) state failed stays = cc failed
alters_unasked own during after {T} (Err stop) state failed stays = alters_nothing own during after {T = T} stop state stays

-- a failed change, at other types of answers
pub alters_stopped : {own : List ℕ → Type 0} {D A : Image → Image → Type 0} {T E U F : Type 0} {e : E} (result : Result U F) {a b : HostState} → IsErr result → Alters own D A {T = T} (Err e) a b → Alters own D A result a b
alters_stopped (Ok x) failed one = cc failed
alters_stopped (Err stop) failed one = alters_failed stop one

module _ (store : NodeStoreValue) (tables : Tables) (name : List ℕ) (named : store.name ≡ nodes_name) (reading : IsReading store.nodes tables) (free : is_taken name tables ≡ false) (form : IsWordName name) (below : tables.next + 1 < 2 ^ 63) where
  pub says_created : (after : NodeStoreValue) (image : Image) → after.name ≡ nodes_name → multi_applied (create_ops (base36 tables.next) name (tables.next + 1)) store.nodes ≡ Ok after.nodes → IsStored after image → SaysTables image (created name tables)
  says_created after image is applied stored = says_stored after (created name tables) image is (reading_created store.nodes tables name reading free after.nodes form below applied) stored

  says_applied : (image : Image) → HasApplied (create_ops (base36 tables.next) name (tables.next + 1)) store image → SaysTables image (created name tables)
  says_applied image applied = record {
    nodes = applied.after;
    has = subst (λ n. HasNodes n image applied.after) named applied.has;
    reading = reading_created store.nodes tables name reading free applied.after form below applied.applies;
  }

  module _ (image : Image) (stored : IsStored store image) where
    stored_there : (d : Image) → ((q : List ℕ) → IsNodeFile store.name q → file_at d q ≡ file_at image q) → IsStored store d
    stored_there d same = let others = others_dont_count store.name image d (record { each = same }) in others.stored store refl stored

    -- where the nodes that count stay, the image can still be read
    still_readable : (d p : Image) → ((q : List ℕ) → IsNodeFile store.name q → file_at d q ≡ file_at image q) → OthersStay store.name d p → (after : Nodes) → HasNodes store.name p after → AgreeAside store.nodes after → IsReadable d → IsReadable p
    still_readable d p same others after has agree is =
        readable_aside one_nodes d p store.nodes after (subst (λ n. HasNodes n d store.nodes) named (stored_has store d (stored_there d same))) (subst (λ n. HasNodes n p after) named has) (subst (λ n. OthersStay n d p) named others) agree is

    pub may_create : (d p : Image) → ((q : List ℕ) → IsNodeFile store.name q → file_at d q ≡ file_at image q) → MayGive (create_ops (base36 tables.next) name (tables.next + 1)) store d p → MayCreate name tables d p
    may_create d p same give = record {
      each = λ says. ⊎_elim
          (λ keeps. inl (record { nodes = store.nodes; has = subst (λ n. HasNodes n p store.nodes) named keeps.has; reading = reading }))
          (λ applied. inr (says_applied p applied))
          (give.nodes (stored_there d same));
      readable = λ is. ⊎_elim
          (λ keeps. still_readable d p same give.others store.nodes keeps.has (aside_same store.nodes) is)
          (λ applied. still_readable d p same give.others applied.after applied.has (aside_created store.nodes tables name reading free applied.after applied.applies) is)
          (give.nodes (stored_there d same));
    }

    pub creates : (d p : Image) → ((q : List ℕ) → IsNodeFile store.name q → file_at d q ≡ file_at image q) → Gives (create_ops (base36 tables.next) name (tables.next + 1)) store d p → Creates name tables d p
    creates d p same gives = record { each = λ says. says_applied p (gives.nodes (stored_there d same)) }

  pub alters_created : (ops : List NodeOp) → ops ≡ create_ops (base36 tables.next) name (tables.next + 1) → {T E : Type 0} {result : Result T E} {a b : HostState} → IsSound a → (IsTrue a.is_faithful → IsStored store a.files)
      → Alters (IsNodeFile store.name) (MayGive ops store) (Gives ops store) result a b → Alters (IsNodeFile nodes_name) (MayCreate name tables) (Creates name tables) result a b
  alters_created ops is {result = result} {a = a} {b = b} sound stored one =
      let given = subst (λ o. Alters (IsNodeFile store.name) (MayGive o store) (Gives o store) result a b) is one in
      subst (λ n. Alters (IsNodeFile n) (MayCreate name tables) (Creates name tables) result a b) named
      (alters_weaker (MayCreate name tables) (Creates name tables) sound given (λ f d p same give. may_create a.files (stored f) d p same give) (λ f d p same gives. creates a.files (stored f) d p same gives))

-- ---- what a commit that stops leaves

-- the entries stay, or have the one that was offered behind them
pub entries_after : (stop : Stop) (ops : List NodeOp) (store : NodeStoreValue) (entry : Entry) (before after : List Entry) (a b : HostState) → CommitStops stop ops store entry before after a b → (after ≡ before) ⊎ (after ≡ before ++ entry ∷ [])
entries_after (Host fault) ops store entry before after a b stops = inr stops.2
entries_after (Damaged named) ops store entry before after a b stops = absurd stops
entries_after Full ops store entry before after a b stops = inl stops.0
entries_after NoMemory ops store entry before after a b stops = inl stops

pub few_after : (committed : ℕ) (entry : Entry) (before after : List Entry) → length before ≤ committed → (after ≡ before) ⊎ (after ≡ before ++ entry ∷ []) → length after ≤ committed + 1
few_after committed entry before after few either = ⊎_elim
    (λ same. omega (arith, few, ap length same))
    (λ more. omega (arith, few, ap length more, length-append before (entry ∷ [])))
    either

pub within_after : (committed : ℕ) (entry : Entry) (before after : List Entry) → committed ≤ length before → (after ≡ before) ⊎ (after ≡ before ++ entry ∷ []) → committed ≤ length after
within_after committed entry before after within either = ⊎_elim
    (λ same. omega (arith, within, ap length same))
    (λ more. omega (arith, within, ap length more, length-append before (entry ∷ [])))
    either

-- a commit that stops leaves the committed entries
pub committed_after : (committed : ℕ) (entry : Entry) (before after : List Entry) → committed ≤ length before → (after ≡ before) ⊎ (after ≡ before ++ entry ∷ []) → take committed after ≡ take committed before
committed_after committed entry before after within either = ⊎_elim
    (λ same. ap (take committed) same)
    (λ more. ap (take committed) more ∙ take-append-le committed before (entry ∷ []) within)
    either

-- it names no file, and is kept
pub unnamed_after : (stop : Stop) (kept : Option Stop) (ops : List NodeOp) (store : NodeStoreValue) (entry : Entry) (before after : List Entry) (a b : HostState) → kept ≡ Some stop → CommitStops stop ops store entry before after a b → IfSome kept IsUnnamed
unnamed_after stop kept ops store entry before after a b is stops = subst (λ (k : Option Stop). IfSome k IsUnnamed) (sym is) (unnamed stop stops)
  where
    unnamed : (s : Stop) → CommitStops s ops store entry before after a b → IsUnnamed s
    unnamed (Host fault) why = tt
    unnamed (Damaged named) why = why
    unnamed Full why = tt
    unnamed NoMemory why = tt

pub create_stops : (stop : Stop) (ops : List NodeOp) (store : NodeStoreValue) (entry : Entry) (before after : List Entry) (a b : HostState) (line : ℕ) (name : List ℕ) (old new : StoreValue) (committed : ℕ) → store ≡ old.nodes → entry ≡ entry_of line name old.tables
    → ops ≡ create_ops (base36 old.tables.next) name (old.tables.next + 1) → length before ≡ committed → new.doubt ≡ drop committed after → CommitStops stop ops store entry before after a b → CreateStops stop line name old new a b
create_stops (Host fault) ops store entry before after a b line name old new committed nodes is made many doubt stops =
    (stops.0, stops.1, doubt ∙ ap (drop committed) stops.2 ∙ drop_at before (entry ∷ []) committed many ∙ ap (λ e. e ∷ []) is)
create_stops (Damaged named) ops store entry before after a b line name old new committed nodes is made many doubt stops = stops
create_stops Full ops store entry before after a b line name old new committed nodes is made many doubt stops =
    (doubt ∙ ap (drop committed) stops.0 ∙ drop_all committed before (omega (arith, many)), inr (subst (λ o. IsFull o old.nodes) made (subst (λ s. IsFull ops s) nodes stops.1)))
create_stops NoMemory ops store entry before after a b line name old new committed nodes is made many doubt stops = doubt ∙ ap (drop committed) stops ∙ drop_all committed before (omega (arith, many))
