-- The change that sets the root record.
use Rattle.std.proofs.Common.{◌≡◌, ◌≢◌, ◌⊎◌, inl, inr, ⊎_elim, ℕ, ◌+◌, ◌≤◌, ◌^◌, Bool, true, false, cond, List, [], ◌∷◌, length, length-append, Option, Some, None, Result, Ok, Err, IsSome, IsOk, refl, sym, ◌∙◌, ap, subst, arith}
use Rattle.std.specs.Prelude.{nat_lt}
use Rattle.std.specs.FinMap as map
use Rattle.std.specs.FinMap.{get-insert, slice_cmp-IsAntisymmetric, nat_cmp-IsAntisymmetric}
use Rattle.std.specs.Int.{w32}
use Rattle.std.specs.List.{flat_map}
use Rattle.std.specs.Ordering.{eq_by_cmp, is_eq}
use Rattle.std.specs.declared.cmp.Ordering.{Ordering}
use Rattle.std.specs.declared.cmp.Ordering.TheVariants.{Less, Equal, Greater}
use Rattle.std.specs.Cmp.Lexicographic.{nat_list_cmp_total}
use Rattle.std.proofs.lemmas.Bool.{false≢true}
use Rattle.std.proofs.lemmas.Cmp.{eq_by_cmp_equiv}
use Rattle.host_model.specs.State.{HostState}
use Rattle.host_model.specs.declared.fault.Stop.{Stop as HostStop}
use Rattle.host_model.specs.declared.fault.Stop.TheVariants.{Host, Damaged, Full, NoMemory}
use Rattle.bytes_form.specs.Fields.{number_field, long_field, sized_field}
use Rattle.bytes_form.proofs.FieldsLemmas.{length-number_field, length-counted_field}
use Rattle.metadata_schema.specs.declared.mutation.Update.{Update}
use Rattle.metadata_schema.specs.declared.tablet.TabletRecord.{TabletRecord}
use Rattle.metadata_schema.specs.Columns.{columns_of}
use Rattle.log_files.specs.Mutations.{spelled_update, spelled_updates}
use Rattle.node_store.specs.declared.changes.Node.{Node}
use Rattle.node_store.specs.declared.changes.NodeOp.TheVariants.{Set}
use Rattle.node_store.specs.declared.changes.NodeStop.{NodeStop}
use Rattle.node_store.specs.declared.changes.NodeStop.TheVariants.{Missing, Stop}
use Rattle.node_store.specs.Answers.{IsFull, AnswersOrNoMemory}
use Rattle.node_store.specs.Multi.{spelled_change, spelled_multi}
use Rattle.node_store.specs.Nodes.{Nodes, turned, and_then, multi_applied}
use Rattle.node_store.specs.PathsTo.{path_cmp, with_entry}
use Rattle.node_store.specs.Value.{StoreValue}
use Rattle.store_layout.specs.Nodes.{root_path, root_value}
use Rattle.store_layout.proofs.RoomLemmas.{length-update}
use Rattle.store_meaning.specs.Levels.{IsRecordAt, IsRootRecord, root_id}
use Rattle.ground_store.specs.Acts.{IsAgain}
use Rattle.log_writes.specs.Answers.{IsFullOrShort}
use Rattle.log_writes.specs.Setting.{root_ops, SetsRoot, ValueCause, SetCause}

-- ---- the change is made, or the version is at its end

abbrev with_root : Nodes → TabletRecord → Node → Nodes
with_root nodes root node = map.insert nodes root_path (record { value = root_value root; version = node.version + 1 })

applied_as : (nodes : Nodes) (root : TabletRecord) (node : Node) → map.get nodes root_path ≡ Some node → (b : Bool) → nat_lt (node.version + 1) (2 ^ 63) ≡ b
    → multi_applied (root_ops root) nodes ≡ cond b (Ok (with_root nodes root node)) (Err (Stop Full))
applied_as nodes root node there b test =
    ap (λ o. and_then (and_then (turned (Set root_path (root_value root) None) o) (λ after. Ok (with_entry nodes root_path after))) (λ after. Ok after)) there
    ∙ ap (λ t. and_then (and_then (cond t (Ok (Some (record { value = root_value root; version = node.version + 1 }))) (Err (Stop Full))) (λ after. Ok (with_entry nodes root_path after))) (λ after. Ok after)) test
    ∙ by b
  where
    by : (b : Bool) → and_then (and_then (cond b (Ok (Some (record { value = root_value root; version = node.version + 1 }))) (Err (Stop Full))) (λ after. Ok (with_entry nodes root_path after))) (λ after. Ok after)
        ≡ cond b (Ok (with_root nodes root node)) (Err (Stop Full))
    by true = refl
    by false = refl

not_there : (nodes : Nodes) (root : TabletRecord) → map.get nodes root_path ≡ None → multi_applied (root_ops root) nodes ≡ Err Missing
not_there nodes root none = ap (λ o. and_then (and_then (turned (Set root_path (root_value root) None) o) (λ after. Ok (with_entry nodes root_path after))) (λ after. Ok after)) none

-- what it made
pub sets_root : (nodes : Nodes) (root : TabletRecord) (after : Nodes) → multi_applied (root_ops root) nodes ≡ Ok after → SetsRoot root nodes after
sets_root nodes root after done = by (map.get nodes root_path) refl
  where
    made : (node : Node) → map.get nodes root_path ≡ Some node → (b : Bool) → nat_lt (node.version + 1) (2 ^ 63) ≡ b → SetsRoot root nodes after
    made node there true test = record { was = node; there = there; is = (let ok = sym done ∙ applied_as nodes root node there true test in cc) }
    made node there false test = absurd (let wrong = sym done ∙ applied_as nodes root node there false test in cc)

    by : (o : Option Node) → map.get nodes root_path ≡ o → SetsRoot root nodes after
    by None none = absurd (let wrong = sym done ∙ not_there nodes root none in cc)
    by (Some node) there = made node there (nat_lt (node.version + 1) (2 ^ 63)) refl

-- it is made, or there is no room
pub made_or_full : (nodes : Nodes) (root : TabletRecord) → IsSome (map.get nodes root_path) → IsOk (multi_applied (root_ops root) nodes) ⊎ (multi_applied (root_ops root) nodes ≡ Err (Stop Full))
made_or_full nodes root there = by (map.get nodes root_path) refl there
  where
    at : (node : Node) → map.get nodes root_path ≡ Some node → (b : Bool) → nat_lt (node.version + 1) (2 ^ 63) ≡ b → IsOk (multi_applied (root_ops root) nodes) ⊎ (multi_applied (root_ops root) nodes ≡ Err (Stop Full))
    at node is true test = inl (subst (λ (r : Result Nodes NodeStop). IsOk r) (sym (applied_as nodes root node is true test)) refl)
    at node is false test = inr (applied_as nodes root node is false test)

    by : (o : Option Node) → map.get nodes root_path ≡ o → IsSome o → IsOk (multi_applied (root_ops root) nodes) ⊎ (multi_applied (root_ops root) nodes ≡ Err (Stop Full))
    by None none is = absurd (false≢true is)
    by (Some node) e is = at node e (nat_lt (node.version + 1) (2 ^ 63)) refl

-- ---- there is no room for too many columns

fewer_each : (us : List Update) → length us ≤ length (flat_map spelled_update us)
fewer_each [] = omega arith
fewer_each (u ∷ us) = omega (arith, length-append (spelled_update u) (flat_map spelled_update us), length-update u, fewer_each us)

fewer : (us : List Update) → length us ≤ length (spelled_updates us)
unfolding spelled_updates
fewer us = omega (arith, length-append (number_field w32 (length us)) (flat_map spelled_update us), length-number_field w32 (length us), fewer_each us)

longer : (root : TabletRecord) → length (root_value root) ≤ length (spelled_multi (root_ops root))
longer root =
    let value = root_value root in
    omega (
      arith,
      length-append (number_field w32 1) (flat_map spelled_change (root_ops root)),
      length-append (spelled_change (Set root_path value None)) [],
      length-append (2 ∷ long_field root_path) (sized_field value),
      length-counted_field w32 value,
    )

pub many_columns : (root : TabletRecord) (store : StoreValue) → IsSome (map.get store.nodes root_path) → 2 ^ 32 ≤ length (columns_of root) → IsFull (root_ops root) store
many_columns root store there many = ⊎_elim (λ ok. inr (ok, inl (omega (arith, many, fewer (columns_of root), longer root)))) (λ full. inl full) (made_or_full store.nodes root there)

-- ---- what is answered

-- a stop before the change is answered again
pub stop_cause : (root : TabletRecord) (store : StoreValue) (stop answer : HostStop) (old new : HostState) → IsSome (map.get store.nodes root_path) → ValueCause root stop → IsAgain stop answer → SetCause root store answer old new
stop_cause root store (Host fault) answer old new there cause again = absurd cause
stop_cause root store (Damaged name) answer old new there cause again = absurd cause
stop_cause root store Full answer old new there cause again = subst (λ s. SetCause root store s old new) (sym again) (many_columns root store there cause)
stop_cause root store NoMemory answer old new there cause again = subst (λ s. SetCause root store s old new) (sym again) tt

pub not_full : {T : Type 0} (done : T) → AnswersOrNoMemory {T = T} (Err (Stop Full)) (Ok done) → ⊥
not_full done answers = ⊎_elim (λ same. cc) (λ same. cc) answers.either

pub full_or_short : {T : Type 0} (stop : NodeStop) (own : HostStop) → stop ≡ Stop own → AnswersOrNoMemory {T = T} (Err (Stop Full)) (Err stop) → IsFullOrShort {T = T} (Err own)
full_or_short stop own is answers = ⊎_elim (λ full. inl (let same : Stop own ≡ Stop Full = (let e = sym is in cc) in let own_is : own ≡ Full = cc in ap Err own_is)) (λ short. inr (let same : Stop own ≡ Stop NoMemory = (let e = sym is in cc) in let own_is : own ≡ NoMemory = cc in ap Err own_is)) answers.either

-- ---- the nodes behind it

is_equal : (o : Ordering) → is_eq o ≡ true → o ≡ Equal
is_equal Less is = cc
is_equal Equal is = refl
is_equal Greater is = cc

not_same : (path other : List ℕ) → other ≢ path → eq_by_cmp path_cmp other path ≡ false
not_same path other apart = by (eq_by_cmp path_cmp other path) refl
  where
    by : (b : Bool) → eq_by_cmp path_cmp other path ≡ b → eq_by_cmp path_cmp other path ≡ false
    by true is = absurd (apart (slice_cmp-IsAntisymmetric nat_cmp-IsAntisymmetric other path (is_equal (path_cmp other path) is)))
    by false is = is

pub set_others : (old new : Nodes) (root : TabletRecord) → SetsRoot root old new → (path : List ℕ) → path ≢ root_path → map.get new path ≡ map.get old path
set_others old new root sets path apart =
    let node : Node = record { value = root_value root; version = sets.was.version + 1 } in
    ap (λ (n : Nodes). map.get n path) sets.is ∙ get-insert nat_list_cmp_total old root_path node path ∙ ap (λ b. cond b (Some node) (map.get old path)) (not_same root_path path apart)

pub set_record : (old new : Nodes) (root : TabletRecord) → IsRecordAt root_id None root → SetsRoot root old new → IsRootRecord new root
set_record old new root at sets =
    let node : Node = record { value = root_value root; version = sets.was.version + 1 } in
    record {
      node = node;
      there = ap (λ (n : Nodes). map.get n root_path) sets.is ∙ get-insert nat_list_cmp_total old root_path node root_path ∙ ap (λ b. cond b (Some node) (map.get old root_path)) ((eq_by_cmp_equiv nat_list_cmp_total).refl root_path);
      value = refl;
      at = at;
    }
