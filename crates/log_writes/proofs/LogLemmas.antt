-- Logs that gain a mutation.
use Rattle.std.proofs.Common.{◌≡◌, ◌⊎◌, inl, inr, ℕ, List, [], ◌∷◌, ◌++◌, map as mapped, All, Option, Some, None, IsTrue, IsSome, unwrap_or, refl, sym, ◌∙◌, ap, subst}
use Rattle.std.specs.FinMap as map
use Rattle.std.specs.Option.{option_map}
use Rattle.std.proofs.lemmas.Bool.{false≢true}
use Rattle.std.proofs.lemmas.List.{map-append}
use Rattle.std.proofs.lemmas.List.Elements.{All-push}
use Rattle.std.proofs.lemmas.Option.{same_Some}
use Rattle.host_model.specs.Picture.{Image, file_at, ChangesFile, OnBytes}
use Rattle.host_model.specs.State.{HostState}
use Rattle.host_model.proofs.Images.{after_change, set_file-own}
use Rattle.row_keys.specs.Forms.{IsLogName}
use Rattle.plain_model.specs.State.{PlainState}
use Rattle.journal_core.specs.Records.{HasRecords}
use Rattle.journal_core.specs.Changes.{MayGain}
use Rattle.journal_core.specs.Journal.{Holds, IsOpen, HasThere, HasEither}
use Rattle.journal_core.proofs.JournalLemmas.{either_after, holds_after}
use Rattle.journal_core.proofs.ReadingLemmas.{one_list}
use Rattle.metadata_schema.specs.declared.mutation.Mutation.{Mutation}
use Rattle.log_files.specs.Mutations.{spelled_mutation, IsSpelled, IsMutation}
use Rattle.log_files.specs.Logs.{HasLog, HasLogEither}
use Rattle.log_files.specs.Value.{LogValue}
use Rattle.store_layout.specs.Tables.{Catalog}
use Rattle.store_meaning.specs.Ground.{Ground, IsGroundOf, with_mutations}
use Rattle.store_meaning.specs.Kept.{IsKept, IsKeptAs}
use Rattle.store_meaning.specs.Levels.{Reading}
use Rattle.store_meaning.specs.Writes.{appended}
use Rattle.store_meaning.proofs.ChangeLemmas.{log_changed, log_appended}
use Rattle.kept_meaning.proofs.ImageLemmas.{either_ground, either_kept}
use Rattle.ground_store.specs.Value.{Logs, log_at, AreOpen}
use Rattle.ground_store.specs.Steps.{MayAppend, Appends}
use Rattle.log_writes.specs.Logging.{MayLogMutation, LogsMutation}

abbrev records_of : List Mutation → List (List ℕ)
records_of mutations = mapped spelled_mutation mutations

-- ---- a log that is open

-- its records are its mutations
holds_of : {log : List ℕ} {end : ℕ} {image : Image} → IsOpen log end image → (mutations : List Mutation) → HasLog log mutations image → Holds log end (records_of mutations) image
holds_of {log} {end} {image} is mutations has =
    let same : is.records ≡ records_of mutations = one_list has.bytes is.records (records_of mutations) (subst (λ (file : List ℕ). HasRecords file is.records) (same_Some _ _ (sym is.holds.is ∙ has.there)) is.holds.ends.has) has.is_log.records in
    subst (λ records. Holds log end records image) same is.holds

has_these : {log : List ℕ} {image : Image} (mutations : List Mutation) → All IsSpelled mutations → HasThere log (records_of mutations) image → HasLog log mutations image
has_these mutations each has = record { bytes = has.file; there = has.is; is_log = record { records = has.has; each = each } }

has_one_more : {log payload : List ℕ} {image : Image} (mutations : List Mutation) (mutation : Mutation) → All IsSpelled mutations → IsMutation payload mutation → HasThere log (records_of mutations ++ payload ∷ []) image
    → HasLog log (mutations ++ mutation ∷ []) image
has_one_more {log} {payload} {image} mutations mutation each is has =
    let same : records_of mutations ++ payload ∷ [] ≡ records_of (mutations ++ mutation ∷ []) = ap (λ bytes. records_of mutations ++ bytes ∷ []) is.is ∙ sym (map-append spelled_mutation mutations (mutation ∷ [])) in
    has_these (mutations ++ mutation ∷ []) (All-push IsSpelled mutations mutation each is.spelled) (subst (λ records. HasThere log records image) same has)

-- an append of its bytes
pub may_log : {log payload : List ℕ} {end : ℕ} (mutation : Mutation) {old new : Image} → IsMutation payload mutation → IsOpen log end old → MayAppend log end payload old new → MayLogMutation log mutation old new
may_log {log} {payload} {end} mutation {old} {new} is open_at change = record {
  only = record { after = change.after; steps = tt; is = change.is };
  either = λ mutations has. by mutations has change.steps;
}
  where
    turned : (mutations : List Mutation) → HasLog log mutations old → HasEither log (records_of mutations) payload new → HasLogEither log mutations mutation new
    turned mutations has (inl same) = inl (has_these mutations has.is_log.each same)
    turned mutations has (inr more) = inr (has_one_more mutations mutation has.is_log.each is more)

    by : (mutations : List Mutation) → HasLog log mutations old → (change.after ≡ file_at old log) ⊎ OnBytes (MayGain end payload) (file_at old log) change.after → HasLogEither log mutations mutation new
    by mutations has (inl same) = inl (record { bytes = has.bytes; there = after_change change ∙ same ∙ has.there; is_log = has.is_log })
    by mutations has (inr gains) =
        let own : ChangesFile log (OnBytes (MayGain end payload)) old new = record { after = change.after; steps = gains; is = change.is } in
        turned mutations has (either_after own (holds_of open_at mutations has))

pub logs : {log payload : List ℕ} {end : ℕ} (mutation : Mutation) {old new : Image} → IsMutation payload mutation → IsOpen log end old → Appends log end payload old new → LogsMutation log mutation old new
logs {log} {payload} {end} mutation {old} {new} is open_at change = record {
  only = record { after = change.after; steps = tt; is = change.is };
  gains = λ mutations has. (let holds = holds_after change (holds_of open_at mutations has) in has_one_more mutations mutation has.is_log.each is (record { file = holds.file; is = holds.is; has = holds.ends.has }));
}

-- where nothing changes
pub may_stay : (log : List ℕ) (mutation : Mutation) (image : Image) → MayLogMutation log mutation image image
may_stay log mutation image = record {
  only = record { after = file_at image log; steps = tt; is = sym (set_file-own image log (file_at image log) refl) };
  either = λ mutations has. inl has;
}

-- ---- the logs of a ground

pub opened : (logs_of : Logs) (state : HostState) → AreOpen logs_of state → (log : List ℕ) → IsSome (map.get logs_of log) → IsTrue state.is_faithful → IsOpen log (log_at logs_of log).end state.files
opened logs_of state are log there f = by (map.get logs_of log) refl there
  where
    by : (o : Option LogValue) → map.get logs_of log ≡ o → IsSome o → IsOpen log (unwrap_or o (record { name = log; end = 0 })).end state.files
    by None e is = absurd (false≢true is)
    by (Some value) e is = subst (λ name. IsOpen name value.end state.files) (are.named log value e).1 (are.open_at f log value e)

-- ---- what is told

module _ (old new : Image) (known : Ground) (log : List ℕ) (mutations : List Mutation) (mutation : Mutation) (of : IsGroundOf old known) (told : known.mutations_of log ≡ Some mutations) where
  form : IsLogName log
  form = (of.mutations log mutations told).form

  had : HasLog log mutations old
  had = (of.mutations log mutations told).holds

  pub ground_logged : LogsMutation log mutation old new → IsGroundOf new (appended known log mutation)
  ground_logged logged =
      let gained : IsGroundOf new (with_mutations known log (Some (mutations ++ mutation ∷ []))) =
      log_changed old new known of log (Some (mutations ++ mutation ∷ [])) form logged.only (λ other e. subst (λ l. HasLog log l new) (same_Some (mutations ++ mutation ∷ []) other e) (logged.gains mutations had)) in
      subst (λ o. IsGroundOf new (with_mutations known log o)) (sym (ap (option_map (λ ms. ms ++ mutation ∷ [])) told)) gained

  pub ground_either : MayLogMutation log mutation old new → IsGroundOf new known ⊎ IsGroundOf new (appended known log mutation)
  ground_either may = either_ground new known log mutation mutations told (log_appended old new known log mutations mutation of form told may.only (may.either mutations had))

module _ (old new : Image) (before after : PlainState) (is : IsKept old before) (log : List ℕ) (mutations : List Mutation) (mutation : Mutation) (told : is.known.mutations_of log ≡ Some mutations) (reading : Reading) (catalog : Catalog) (kept : IsKeptAs reading catalog (appended is.known log mutation) after) where
  pub kept_logged : LogsMutation log mutation old new → IsKept new after
  kept_logged logged = record { known = appended is.known log mutation; of = ground_logged old new is.known log mutations mutation is.of told logged; reading = reading; catalog = catalog; kept = kept }

  pub kept_either : MayLogMutation log mutation old new → IsKept new before ⊎ IsKept new after
  kept_either may = either_kept old new before after is log mutation reading catalog kept (ground_either old new is.known log mutations mutation is.of told may)
