-- How changes of the node file change the nodes of an image.
use Rattle.std.proofs.Common.{◌≡◌, inl, inr, ⊎_elim, ℕ, ◌+◌, ◌<◌, List, [], ◌∷◌, ◌++◌, length, Option, Some, Result, Ok, Err, IsErr, refl, sym, ◌∙◌, ap, subst, arith, length-append, ◌^◌}
use Rattle.std.specs.FinMap as map
use Rattle.std.proofs.lemmas.Option.{same_Some}
use Rattle.std.proofs.lemmas.List.Elements.{All-nil}
use Rattle.host_model.specs.Picture.{Image, file_at, ChangesFile, OnBytes, Becomes}
use Rattle.host_model.specs.State.{HostState}
use Rattle.host_model.specs.Calls.{IsSound}
use Rattle.host_model.specs.Stores.{Stores}
use Rattle.host_model.specs.Alters.{Alters}
use Rattle.host_model.proofs.Images.{step_of, others_stay, set_file-own, bytes_at}
use Rattle.host_model.proofs.StoresLemmas.{stores_nothing, stores_failed}
use Rattle.host_model.proofs.AltersLemmas.{alters_of}
use Rattle.journal_core.specs.Records.{body, spelled, HasRecords}
use Rattle.journal_core.specs.Changes.{MayGain, Gains, MayMake}
use Rattle.journal_core.proofs.RecordsLemmas.{length-body}
use Rattle.journal_core.proofs.ReadingLemmas.{one_list}
use Rattle.node_store.specs.declared.changes.NodeOp.{NodeOp}
use Rattle.node_store.specs.Nodes.{Nodes, multi_applied}
use Rattle.node_store.specs.Value.{StoreValue}
use Rattle.node_store.specs.Image.{Turns, FoldTo, IsNodeFile, HasNodes, IsUnborn, IsStored}
use Rattle.node_store.specs.Steps.{OthersStay, MayGive, Gives, MayStart, Starts}
use Rattle.node_store.specs.Laws.{SameNodeFiles, OthersDontCount}
use Rattle.node_store.proofs.FoldLemmas.{fold_one, fold_push}

-- ---- what an image has

pub one_nodes : (name : List ℕ) (image : Image) (a b : Nodes) → HasNodes name image a → HasNodes name image b → a ≡ b
one_nodes name image a b one two =
    let file = same_Some _ _ (sym one.there.is ∙ two.there.is) in
    let same = one_list two.there.file one.records two.records (subst (λ f. HasRecords f one.records) file one.there.has) two.there.has in
    fold_one two.records map.empty a b (subst (λ r. FoldTo r map.empty a) same one.folds) two.folds

pub stored_has : (store : StoreValue) (image : Image) → IsStored store image → HasNodes store.name image store.nodes
stored_has store image stored = record {
  records = stored.records;
  there = record { file = stored.holds.file; is = stored.holds.is; has = stored.holds.ends.has };
  folds = stored.folds;
}

-- images with the same node files
pub others_dont_count : (name : List ℕ) (a b : Image) → SameNodeFiles name a b → OthersDontCount name a b
others_dont_count name a b same = record {
  has = λ nodes has. record { records = has.records; there = record { file = has.there.file; is = same.each name refl ∙ has.there.is; has = has.there.has }; folds = has.folds };
  unborn = λ unborn. record { none = λ born. unborn.none (record { second = born.second; rest = born.rest; is = sym (same.each name refl) ∙ born.is }) };
  stored = λ store is stored. record {
    records = stored.records;
    holds = record { file = stored.holds.file; is = same.each store.name is ∙ stored.holds.is; ends = stored.holds.ends };
    folds = stored.folds;
  };
}

-- ---- a journal is unborn where it has no record

split_first : (xs : List ℕ) → 0 < length xs → (x : ℕ) × (rest : List ℕ) × (xs ≡ x ∷ rest)
split_first [] some = absurd (omega (arith, some))
split_first (x ∷ xs) some = (x, xs, refl)

no_record : (records : List (List ℕ)) (file : List ℕ) → HasRecords file records → ((second : ℕ) (rest : List ℕ) → file ≡ 1 ∷ second ∷ rest → ⊥) → records ≡ []
no_record [] file has unborn = refl
no_record (payload ∷ more) file has unborn =
    let behind = body payload ++ spelled more ++ has.gate ∷ has.rest in
    let some : 0 < length behind = omega (arith, length-body payload, length-append (body payload ++ spelled more) (has.gate ∷ has.rest), length-append (body payload) (spelled more)) in
    let split = split_first behind some in
    absurd (unborn split.0 split.1 (has.is ∙ ap (λ l. 1 ∷ l) split.2))

pub unborn_empty : (name : List ℕ) (image : Image) (nodes : Nodes) → HasNodes name image nodes → IsUnborn name image → nodes ≡ map.empty
unborn_empty name image nodes has unborn =
    let none = no_record has.records has.there.file has.there.has (λ second rest is. unborn.none (record { second = second; rest = rest; is = has.there.is ∙ ap (λ l. Some l) is })) in
    subst (λ r. FoldTo r map.empty nodes) none has.folds

stays_shut : (file : List ℕ) → HasRecords file [] → (second : ℕ) (rest : List ℕ) → file ≡ 1 ∷ second ∷ rest → ⊥
stays_shut file has second rest is =
    let e : has.gate ∷ has.rest ≡ 1 ∷ second ∷ rest = sym has.is ∙ is in
    has.shut (cc e)

-- a file that keeps its records stays unborn
stays_unborn : (name : List ℕ) (a b : Image) (records : List (List ℕ)) (x y : List ℕ) → file_at a name ≡ Some x → HasRecords x records → file_at b name ≡ Some y → HasRecords y records → IsUnborn name a → IsUnborn name b
stays_unborn name a b records x y at_a has_a at_b has_b unborn =
    let none = no_record records x has_a (λ second rest is. unborn.none (record { second = second; rest = rest; is = at_a ∙ ap (λ l. Some l) is })) in
    record { none = λ born. stays_shut y (subst (λ r. HasRecords y r) none has_b) born.second born.rest (same_Some _ _ (sym at_b ∙ born.is)) }

-- ---- a multi

-- an image that is changed in nothing
change_same : {name : List ℕ} {a b : Image} → ChangesFile name (λ x y. y ≡ x) a b → b ≡ a
change_same {name} {a} change = change.is ∙ set_file-own a name change.after (sym change.steps)

other_files : {name : List ℕ} {step : Option (List ℕ) → Option (List ℕ) → Type 0} {a b : Image} → ChangesFile name step a b → OthersStay name a b
other_files change = record { each = λ q other. others_stay q other change }

module _ (ops : List NodeOp) (store : StoreValue) where
  nothing_given : (a : Image) → MayGive ops store a a
  nothing_given a = record { others = record { each = λ q other. refl }; nodes = λ stored. inl (record { has = stored_has store a stored; unborn = λ unborn. unborn }) }

  -- where the host isn't called
  pub alters_nothing : {T F : Type 0} (result : Result T F) (state : HostState) → IsErr result → IsSound state → Alters (IsNodeFile store.name) (MayGive ops store) (Gives ops store) result state state
  alters_nothing (Ok x) state failed sound = cc failed
  alters_nothing {T} (Err fault) state failed sound =
      alters_of (IsNodeFile store.name) (MayGive ops store) (Gives ops store) sound (stores_nothing store.name (λ x y. y ≡ x) (λ x y. ⊥) {T = T} fault state sound (λ f. refl)) refl (λ q is. is)
      (λ d p at change. subst (MayGive ops store d) (sym (change_same change)) (nothing_given d))
      (λ d p at change. absurd change.steps)

  module _ (payload : List ℕ) (after : Nodes) (applies : multi_applied ops store.nodes ≡ Ok after) (turns : Turns payload store.nodes after) where
    may_give : (a b : Image) → ChangesFile store.name (OnBytes (MayGain store.end payload)) a b → MayGive ops store a b
    may_give a b change = record {
      others = other_files change;
      nodes = λ stored.
          let step = step_of change in
          let gain = bytes_at stored.holds.file step stored.holds.is in
          ⊎_elim
          (λ kept. inl (record {
            has = record { records = stored.records; there = record { file = step.after; is = step.is; has = kept }; folds = stored.folds };
            unborn = stays_unborn store.name a b stored.records stored.holds.file step.after stored.holds.is stored.holds.ends.has step.is kept;
          }))
          (λ gained. inr (record {
            after = after;
            applies = applies;
            has = record { records = stored.records ++ payload ∷ []; there = record { file = step.after; is = step.is; has = gained }; folds = fold_push stored.records payload map.empty store.nodes after stored.folds turns };
          }))
          (gain.each stored.records stored.holds.ends);
    }

    -- what the value finds after a multi
    pub stored_after : (a b : Image) → IsStored store a → ChangesFile store.name (OnBytes (Gains store.end payload)) a b → IsStored (record { name = store.name; nodes = after; end = store.end + 5 + length payload }) b
    stored_after a b stored change =
        let step = step_of change in
        let gain = bytes_at stored.holds.file step stored.holds.is in
        record {
          records = stored.records ++ payload ∷ [];
          holds = record { file = step.after; is = step.is; ends = gain.each stored.records stored.holds.ends };
          folds = fold_push stored.records payload map.empty store.nodes after stored.folds turns;
        }

    gives : (a b : Image) → ChangesFile store.name (OnBytes (Gains store.end payload)) a b → Gives ops store a b
    gives a b change = record {
      others = other_files change;
      nodes = λ stored. record { after = after; applies = applies; has = stored_has (record { name = store.name; nodes = after; end = store.end + 5 + length payload }) b (stored_after a b stored change) };
    }

    -- an append of its payload
    pub alters_multi : {T E : Type 0} {result : Result T E} {a b : HostState} → IsSound a → Stores store.name (OnBytes (MayGain store.end payload)) (OnBytes (Gains store.end payload)) result a b
        → Alters (IsNodeFile store.name) (MayGive ops store) (Gives ops store) result a b
    alters_multi sound stores = alters_of (IsNodeFile store.name) (MayGive ops store) (Gives ops store) sound stores refl (λ q is. is) (λ d p at change. may_give d p change) (λ d p at change. gives d p change)

    -- one that failed, at another type of answers
    pub alters_failed : {T U E F : Type 0} {e : E} (result : Result U F) {a b : HostState} → IsErr result → IsSound a → Stores store.name (OnBytes (MayGain store.end payload)) (OnBytes (Gains store.end payload)) {T = T} (Err e) a b
        → Alters (IsNodeFile store.name) (MayGive ops store) (Gives ops store) result a b
    alters_failed (Ok x) failed sound stores = cc failed
    alters_failed (Err fault) failed sound stores = alters_multi sound (stores_failed _ _ fault stores (λ x y step. step))

-- ---- a new store

may_start : (name : List ℕ) (a b : Image) → ChangesFile name (MayMake 1) a b → MayStart name a b
may_start name a b change = record {
  others = other_files change;
  made = λ q is. subst (λ n. MayMake 1 (file_at a n) (file_at b n)) (sym is) (step_of change);
}

new_records : HasRecords (0 ∷ []) []
new_records = record { gate = 0; rest = []; shut = λ e. omega (arith, e); is = refl; short = All-nil (λ payload. length payload < 2 ^ 32) }

starts : (name : List ℕ) (a b : Image) → ChangesFile name (Becomes (Some (0 ∷ []))) a b → Starts name a b
starts name a b change =
    let is : file_at b name ≡ Some (0 ∷ []) = step_of change in
    record {
      others = other_files change;
      has = record { records = []; there = record { file = 0 ∷ []; is = is; has = new_records }; folds = refl };
      unborn = record { none = λ born. stays_shut (0 ∷ []) new_records born.second born.rest (same_Some _ _ (sym is ∙ born.is)) };
    }

pub alters_create : {name : List ℕ} {T E : Type 0} {result : Result T E} {a b : HostState} → IsSound a → Stores name (MayMake 1) (Becomes (Some (0 ∷ []))) result a b → Alters (IsNodeFile name) (MayStart name) (Starts name) result a b
alters_create {name} sound stores = alters_of (IsNodeFile name) (MayStart name) (Starts name) sound stores refl (λ q is. is) (λ d p at change. may_start name d p change) (λ d p at change. starts name d p change)

pub alters_uncreated : {name : List ℕ} {T U E F : Type 0} {e : E} (result : Result U F) {a b : HostState} → IsErr result → IsSound a → Stores name (MayMake 1) (Becomes (Some (0 ∷ []))) {T = T} (Err e) a b → Alters (IsNodeFile name) (MayStart name) (Starts name) result a b
alters_uncreated (Ok x) failed sound stores = cc failed
alters_uncreated (Err fault) failed sound stores = alters_create sound (stores_failed _ _ fault stores (λ x y step. step))

-- a crash in a creation leaves an unborn file unborn
pub unborn_start : (name : List ℕ) (a b : Image) → MayStart name a b → IsUnborn name a → IsUnborn name b
unborn_start name a b start unborn =
    ⊎_elim
    (λ same. record { none = λ born. unborn.none (record { second = born.second; rest = born.rest; is = sym same ∙ born.is }) })
    (λ short. record { none = λ born. omega (arith, short.short, ap length (same_Some _ _ (sym short.is ∙ born.is))) })
    (start.made name refl)
