-- Grounds as one file of the image changes.
use Rattle.std.proofs.Common.{◌≡◌, ◌≢◌, ◌⊎◌, inl, inr, ℕ, Bool, true, false, cond, List, [], ◌∷◌, ◌++◌, Option, Some, refl, sym, ◌∙◌, ap, subst}
use Rattle.std.proofs.lemmas.Option.{same_Some}
use Rattle.host_model.specs.Picture.{Image, file_at, ChangesFile}
use Rattle.host_model.proofs.Images.{others_stay}
use Rattle.row_keys.specs.Forms.{IsLogName}
use Rattle.metadata_schema.specs.declared.mutation.Mutation.{Mutation}
use Rattle.metadata_schema.specs.Bytes.{same}
use Rattle.metadata_schema.specs.Paths.{IsFilePath}
use Rattle.cell_merge.specs.declared.cell.Cell.{Cell}
use Rattle.level_rows.proofs.EndLemmas.{same-true, same-refl}
use Rattle.node_store.specs.Nodes.{Nodes}
use Rattle.node_store.specs.Image.{HasNodes}
use Rattle.node_store.specs.Steps.{OthersStay}
use Rattle.data_files.specs.Files.{HoldsCells}
use Rattle.log_files.specs.Logs.{HasLog, HasLogEither}
use Rattle.log_files.specs.Sorted.{HasSorted, sorted_name}
use Rattle.store_layout.specs.Names.{nodes_name, file_of}
use Rattle.store_layout.proofs.NameLemmas.{file_is_no_nodes, file_is_no_log, log_is_no_nodes, sorted_is_no_nodes, sorted_is_no_log}
use Rattle.store_meaning.specs.Ground.{Ground, IsGroundOf, IsPartOf, ChangesOnly, with_told, with_nodes, with_cells, with_mutations, with_sorted}
use Rattle.store_meaning.proofs.NameLemmas.{same_path, same_log, file_is_no_sorted}

-- what a file says goes with its bytes
pub keep_nodes : {name : List ℕ} {nodes : Nodes} (old new : Image) → file_at new name ≡ file_at old name → HasNodes name old nodes → HasNodes name new nodes
keep_nodes old new same has = record { records = has.records; there = record { file = has.there.file; is = same ∙ has.there.is; has = has.there.has }; folds = has.folds }

keep_cells : {name : List ℕ} {cells : List Cell} (old new : Image) → file_at new name ≡ file_at old name → HoldsCells name cells old → HoldsCells name cells new
keep_cells old new same has = record { bytes = has.bytes; there = same ∙ has.there; file = has.file }

keep_log : {name : List ℕ} {mutations : List Mutation} (old new : Image) → file_at new name ≡ file_at old name → HasLog name mutations old → HasLog name mutations new
keep_log old new same has = record { bytes = has.bytes; there = same ∙ has.there; is_log = has.is_log }

keep_sorted : {name : List ℕ} {mutations : List Mutation} (old new : Image) → file_at new name ≡ file_at old name → HasSorted name mutations old → HasSorted name mutations new
keep_sorted old new same has = record { bytes = has.bytes; there = same ∙ has.there; is_sorted = has.is_sorted }

-- told at this name, or elsewhere
pub told_cases : {V : Type 0} (tells : List ℕ → Option V) (name : List ℕ) (told : Option V) (other : List ℕ) (v : V) → with_told tells name told other ≡ Some v
    → ((other ≡ name) × (told ≡ Some v)) ⊎ ((other ≢ name) × (tells other ≡ Some v))
told_cases tells name told other v = by (same other name) refl
  where
    by : (b : Bool) → same other name ≡ b → cond b told (tells other) ≡ Some v → ((other ≡ name) × (told ≡ Some v)) ⊎ ((other ≢ name) × (tells other ≡ Some v))
    by true e is = inl (same-true other name e, is)
    by false e is = inr (λ at. (let wrong : true ≡ false = sym (same-refl name) ∙ ap (λ o. same o name) (sym at) ∙ e in cc), is)

-- the nodes alone
pub nodes_changed : (old new : Image) (known : Ground) (nodes : Nodes) → IsGroundOf old known → OthersStay nodes_name old new → HasNodes nodes_name new nodes → IsGroundOf new (with_nodes known nodes)
nodes_changed old new known nodes is stay has = record {
  nodes = has;
  cells = λ path cells at. (let h = is.cells path cells at in record { form = h.form; holds = keep_cells old new (stay.each (file_of path) (λ e. file_is_no_nodes path h.form (sym e))) h.holds });
  mutations = λ log mutations at. (let h = is.mutations log mutations at in record { form = h.form; holds = keep_log old new (stay.each log (λ e. log_is_no_nodes log h.form (sym e))) h.holds });
  sorted = λ log mutations at. (let h = is.sorted log mutations at in record { form = h.form; holds = keep_sorted old new (stay.each (sorted_name log) (λ e. sorted_is_no_nodes log (sym e))) h.holds });
}

module _ (old new : Image) (known : Ground) (is : IsGroundOf old known) {step : Option (List ℕ) → Option (List ℕ) → Type 0} where
  -- one data file
  pub file_changed : (path : List ℕ) (told : Option (List Cell)) → IsFilePath path → ChangesFile (file_of path) step old new → ((cells : List Cell) → told ≡ Some cells → HoldsCells (file_of path) cells new)
      → IsGroundOf new (with_cells known path told)
  file_changed path told form changes so = record {
    nodes = keep_nodes old new (others_stay nodes_name (file_is_no_nodes path form) changes) is.nodes;
    cells = λ other cells at. elim (told_cases known.cells_of path told other cells at) [
      | inl here ↦ record { form = subst IsFilePath (sym here.0) form; holds = subst (λ p. HoldsCells (file_of p) cells new) (sym here.0) (so cells here.1) }
      | inr there ↦
          let h = is.cells other cells there.1 in
          record { form = h.form; holds = keep_cells old new (others_stay (file_of other) (λ e. there.0 (same_path other path h.form form e)) changes) h.holds }
    ];
    mutations = λ log mutations at. (let h = is.mutations log mutations at in record { form = h.form; holds = keep_log old new (others_stay log (file_is_no_log path log form h.form) changes) h.holds });
    sorted = λ log mutations at. (let h = is.sorted log mutations at in record { form = h.form; holds = keep_sorted old new (others_stay (sorted_name log) (file_is_no_sorted path log form h.form) changes) h.holds });
  }

  -- one log
  pub log_changed : (log : List ℕ) (told : Option (List Mutation)) → IsLogName log → ChangesFile log step old new → ((mutations : List Mutation) → told ≡ Some mutations → HasLog log mutations new)
      → IsGroundOf new (with_mutations known log told)
  log_changed log told form changes so = record {
    nodes = keep_nodes old new (others_stay nodes_name (log_is_no_nodes log form) changes) is.nodes;
    cells = λ path cells at. (let h = is.cells path cells at in record { form = h.form; holds = keep_cells old new (others_stay (file_of path) (λ e. file_is_no_log path log h.form form (sym e)) changes) h.holds });
    mutations = λ other mutations at. elim (told_cases known.mutations_of log told other mutations at) [
      | inl here ↦ record { form = subst IsLogName (sym here.0) form; holds = subst (λ l. HasLog l mutations new) (sym here.0) (so mutations here.1) }
      | inr there ↦ (let h = is.mutations other mutations there.1 in record { form = h.form; holds = keep_log old new (others_stay other there.0 changes) h.holds })
    ];
    sorted = λ other mutations at. (let h = is.sorted other mutations at in record { form = h.form; holds = keep_sorted old new (others_stay (sorted_name other) (λ e. sorted_is_no_log other log form (sym e)) changes) h.holds });
  }

  -- one sorted log
  pub sorted_changed : (log : List ℕ) (told : Option (List Mutation)) → IsLogName log → ChangesFile (sorted_name log) step old new → ((mutations : List Mutation) → told ≡ Some mutations → HasSorted (sorted_name log) mutations new)
      → IsGroundOf new (with_sorted known log told)
  sorted_changed log told form changes so = record {
    nodes = keep_nodes old new (others_stay nodes_name (sorted_is_no_nodes log) changes) is.nodes;
    cells = λ path cells at. (let h = is.cells path cells at in record { form = h.form; holds = keep_cells old new (others_stay (file_of path) (λ e. file_is_no_sorted path log h.form form (sym e)) changes) h.holds });
    mutations = λ other mutations at. (let h = is.mutations other mutations at in record { form = h.form; holds = keep_log old new (others_stay other (sorted_is_no_log log other h.form) changes) h.holds });
    sorted = λ other mutations at. elim (told_cases known.sorted_of log told other mutations at) [
      | inl here ↦ record { form = subst IsLogName (sym here.0) form; holds = subst (λ l. HasSorted (sorted_name l) mutations new) (sym here.0) (so mutations here.1) }
      | inr there ↦
          let h = is.sorted other mutations there.1 in
          record { form = h.form; holds = keep_sorted old new (others_stay (sorted_name other) (λ e. there.0 (same_log other log h.form form e)) changes) h.holds }
    ];
  }

-- a ground that tells less
pub told_less : (image : Image) (less more : Ground) → IsPartOf less more → IsGroundOf image more → IsGroundOf image less
told_less image less more part is = record {
  nodes = subst (HasNodes nodes_name image) (sym part.nodes) is.nodes;
  cells = λ path cells at. is.cells path cells (part.cells path cells at);
  mutations = λ log mutations at. is.mutations log mutations (part.mutations log mutations at);
  sorted = λ log mutations at. is.sorted log mutations (part.sorted log mutations at);
}

-- what is told of a name, told again
told_again : {V : Type 0} (tells : List ℕ → Option V) (name : List ℕ) (told : V) → tells name ≡ Some told → (other : List ℕ) (v : V) → tells other ≡ Some v → with_told tells name (Some told) other ≡ Some v
told_again tells name told is other v at = by (same other name) refl
  where
    by : (b : Bool) → same other name ≡ b → cond b (Some told) (tells other) ≡ Some v
    by true e = sym is ∙ ap tells (sym (same-true other name e)) ∙ at
    by false e = at

-- an append to a log is whole or absent
pub log_appended : (old new : Image) (known : Ground) (log : List ℕ) (mutations : List Mutation) (mutation : Mutation) → IsGroundOf old known → IsLogName log → known.mutations_of log ≡ Some mutations
    → ChangesOnly log old new → HasLogEither log mutations mutation new → IsGroundOf new known ⊎ IsGroundOf new (with_mutations known log (Some (mutations ++ mutation ∷ [])))
log_appended old new known log mutations mutation is form told changes (inl same_ones) =
    let again = log_changed old new known is log (Some mutations) form changes (λ other e. subst (λ l. HasLog log l new) (same_Some mutations other e) same_ones) in
    inl (told_less new known (with_mutations known log (Some mutations)) (record {
      nodes = refl;
      cells = λ path cells at. at;
      mutations = told_again known.mutations_of log mutations told;
      sorted = λ other ms at. at;
    }) again)
log_appended old new known log mutations mutation is form told changes (inr more) =
    inr (log_changed old new known is log (Some (mutations ++ mutation ∷ [])) form changes (λ other e. subst (λ l. HasLog log l new) (same_Some (mutations ++ mutation ∷ []) other e) more))
