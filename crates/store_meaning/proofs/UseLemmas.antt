-- Grounds that agree on what is in use.
use Rattle.std.proofs.Common.{◌≡◌, inl, inr, ℕ, List, [], ◌∷◌, Option, None, Contains, map, filter, refl, sym, ◌∙◌, ap, subst}
use Rattle.std.specs.List.{flat_map}
use Rattle.std.specs.Option.{option_map}
use Rattle.metadata_schema.specs.declared.tablet.TabletRecord.{TabletRecord}
use Rattle.cell_merge.specs.Newest.{clipped}
use Rattle.level_rows.specs.Chain.{Rows, effective_prev}
use Rattle.level_rows.proofs.WayLemmas.{row_of}
use Rattle.level_rows.proofs.Membership.{Contains-nil, Contains-here, Contains-there, Contains-cons_cases}
use Rattle.store_meaning.specs.Ground.{Ground}
use Rattle.store_meaning.specs.Content.{both_told, all_told, timed, cells_of_mutation, counts_for, file_cells, log_cells, logs_of, content_of, tablet_content, contents_of}
use Rattle.store_meaning.specs.Levels.{Reading, IsReadingOf, IsRootRecord, root_rows, metadata_rows, metadata_id}
use Rattle.store_meaning.specs.InUse.{IsRecord, IsLogInUse, IsListedLog, IsListedSorted, AgreeInUse}
use Rattle.store_meaning.specs.Readable.{IsTold, HasAllInUse, ListsLogs, HaveConsistentTablets, IsReadAs}

pub all_told_same : {X Y : Type 0} (f g : X → Option (List Y)) (xs : List X) → ((x : X) → Contains xs x → g x ≡ f x) → all_told g xs ≡ all_told f xs
all_told_same f g [] same = refl
all_told_same f g (x ∷ xs) same =
    let here = same x (Contains-here x xs) in
    let rest = all_told_same f g xs (λ y there. same y (Contains-there x y xs there)) in
    ap (λ o. both_told o (all_told g xs)) here ∙ ap (both_told (f x)) rest

-- what a record of these levels names is told alike
module _ (reading : Reading) (old new : Ground) (agree : AgreeInUse reading old new) where
  content_same : (low : Option (List ℕ)) (tablet : TabletRecord) → IsRecord reading tablet → content_of new low tablet ≡ content_of old low tablet
  content_same low tablet is =
      let files : all_told (file_cells new) tablet.files ≡ all_told (file_cells old) tablet.files =
      all_told_same (file_cells old) (file_cells new) tablet.files (λ file there. ap (option_map (map (timed file.time))) (agree.cells file.path (inl (record { tablet = tablet; of = is; file = file; there = there; is = refl })))) in
      let logs : all_told (log_cells new tablet) (logs_of tablet) ≡ all_told (log_cells old tablet) (logs_of tablet) =
      all_told_same (log_cells old tablet) (log_cells new tablet) (logs_of tablet) (λ log there. ap (option_map (λ mutations. flat_map cells_of_mutation (filter (counts_for tablet) mutations))) (agree.mutations log (inl (record { tablet = tablet; of = is; there = there })))) in
      ap (λ f. option_map (clipped low tablet.end) (both_told f (all_told (log_cells new tablet) (logs_of tablet)))) files ∙ ap (λ l. option_map (clipped low tablet.end) (both_told (all_told (file_cells old) tablet.files) l)) logs

  pub contents_same : (rows : Rows) (chain : List TabletRecord) → ((tablet : TabletRecord) → Contains chain tablet → IsRecord reading tablet) → contents_of new rows chain ≡ contents_of old rows chain
  contents_same rows chain are = all_told_same (tablet_content old rows) (tablet_content new rows) chain (λ tablet there. content_same (effective_prev rows tablet) tablet (are tablet there))

  root_records : (tablet : TabletRecord) → Contains (reading.root ∷ []) tablet → IsRecord reading tablet
  root_records tablet there = elim (Contains-cons_cases reading.root tablet [] there) [
    | inl is ↦ inl is
    | inr none ↦ absurd (Contains-nil tablet none)
  ]

  chain_records : IsReadingOf old reading → (tablet : TabletRecord) → Contains reading.chain tablet → IsRecord reading tablet
  chain_records is tablet there = inr (inl (record { table = metadata_id; end = tablet.end; there = row_of (metadata_rows reading) None reading.chain tablet is.chain there }))

  levels_same : IsReadingOf old reading → IsReadingOf new reading
  levels_same is = record {
    root = subst (λ nodes. IsRootRecord nodes reading.root) (sym agree.nodes) is.root;
    root_chain = is.root_chain;
    root_content = contents_same (root_rows reading) (reading.root ∷ []) root_records ∙ is.root_content;
    metadata = is.metadata;
    chain = is.chain;
    content = contents_same (metadata_rows reading) reading.chain (chain_records is) ∙ is.content;
    users = is.users;
  }

  in_use_same : HasAllInUse old reading → HasAllInUse new reading
  in_use_same has = record {
    files = λ path used. subst IsTold (sym (agree.cells path used)) (has.files path used);
    logs = λ log used. (let was = subst (λ nodes. IsLogInUse nodes reading log) agree.nodes used in subst IsTold (sym (agree.mutations log was)) (has.logs log was));
    sorted = λ log used.
        let was = subst (λ nodes. IsListedSorted nodes log) agree.nodes used in
        let there = has.sorted log was in
        record { mutations = there.mutations; sorted = there.sorted; log_is = agree.mutations log (inr (inr was)) ∙ there.log_is; sorted_is = agree.sorted log was ∙ there.sorted_is; sorts = there.sorts };
  }

  lists_same : ListsLogs old reading → ListsLogs new reading
  lists_same lists = record {
    named = λ log named. subst (λ nodes. IsListedLog nodes log) (sym agree.nodes) (lists.named log named);
    sorted = λ log used. subst (λ nodes. IsListedLog nodes log) (sym agree.nodes) (lists.sorted log (subst (λ nodes. IsListedSorted nodes log) agree.nodes used));
  }

  pub tablets_same : (rows : Rows) (chain : List TabletRecord) → ((tablet : TabletRecord) → Contains chain tablet → IsRecord reading tablet) → HaveConsistentTablets old rows chain → HaveConsistentTablets new rows chain
  tablets_same rows chain are were tablet cells there is = were tablet cells there (sym (content_same (effective_prev rows tablet) tablet (are tablet there)) ∙ is)

  pub read_same : IsReadAs reading old → IsReadAs reading new
  read_same is = record {
    levels = levels_same is.levels;
    in_use = in_use_same is.in_use;
    logs = lists_same is.logs;
    root = tablets_same (root_rows reading) (reading.root ∷ []) root_records is.root;
    metadata = tablets_same (metadata_rows reading) reading.chain (chain_records is.levels) is.metadata;
  }

-- they agree the other way round, too
pub agree_back : (reading : Reading) (old new : Ground) → AgreeInUse reading old new → AgreeInUse reading new old
agree_back reading old new agree = record {
  nodes = sym agree.nodes;
  cells = λ path used. sym (agree.cells path used);
  mutations = λ log used. sym (agree.mutations log (subst (λ nodes. IsLogInUse nodes reading log) agree.nodes used));
  sorted = λ log used. sym (agree.sorted log (subst (λ nodes. IsListedSorted nodes log) agree.nodes used));
}
