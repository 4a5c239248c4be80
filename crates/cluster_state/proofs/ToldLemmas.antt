-- What tablets have in files and logs, on grounds that agree on what is in use.
use Rattle.std.proofs.Common.{◌≡◌, inl, inr, ℕ, List, Option, map, filter, refl, ap, ◌∙◌, sym}
use Rattle.std.specs.List.{flat_map}
use Rattle.std.specs.Option.{option_map}
use Rattle.metadata_schema.specs.declared.tablet.TabletRecord.{TabletRecord}
use Rattle.cell_merge.specs.Newest.{clipped}
use Rattle.level_rows.specs.Chain.{Rows, effective_prev}
use Rattle.store_meaning.specs.Ground.{Ground}
use Rattle.store_meaning.specs.Content.{both_told, all_told, timed, cells_of_mutation, counts_for, file_cells, log_cells, logs_of, content_of}
use Rattle.store_meaning.specs.Flushes.{memory_of}
use Rattle.store_meaning.specs.Levels.{Reading}
use Rattle.store_meaning.specs.InUse.{IsRecord, IsFileInUse, IsNamedLog}
use Rattle.store_meaning.proofs.UseLemmas.{all_told_same}
use Rattle.hosted_memories.specs.declared.hosting.Hosting.{Hosting}
use Rattle.cluster_state.specs.Station.{HasMemory, IsTabletOf, Root, OfMetadata, OfUsers}

pub is_record : (reading : Reading) (rows : Rows) (tablet : TabletRecord) → IsTabletOf reading rows tablet → IsRecord reading tablet
is_record reading rows tablet Root = inl refl
is_record reading rows tablet (OfMetadata other is) = inr (inl is)
is_record reading rows tablet (OfUsers other is) = inr (inr is)

module _ (reading : Reading) (old new : Ground) (cells : (path : List ℕ) → IsFileInUse reading path → new.cells_of path ≡ old.cells_of path) (mutations : (log : List ℕ) → IsNamedLog reading log → new.mutations_of log ≡ old.mutations_of log) where
  logs_same : (tablet : TabletRecord) → IsRecord reading tablet → all_told (log_cells new tablet) (logs_of tablet) ≡ all_told (log_cells old tablet) (logs_of tablet)
  logs_same tablet is =
      all_told_same (log_cells old tablet) (log_cells new tablet) (logs_of tablet)
      (λ log there. ap (option_map (λ ms. flat_map cells_of_mutation (filter (counts_for tablet) ms))) (mutations log (record { tablet = tablet; of = is; there = there })))

  files_same : (tablet : TabletRecord) → IsRecord reading tablet → all_told (file_cells new) tablet.files ≡ all_told (file_cells old) tablet.files
  files_same tablet is =
      all_told_same (file_cells old) (file_cells new) tablet.files
      (λ file there. ap (option_map (map (timed file.time))) (cells file.path (inl (record { tablet = tablet; of = is; file = file; there = there; is = refl }))))

  memory_same : (low : Option (List ℕ)) (tablet : TabletRecord) → IsRecord reading tablet → memory_of new low tablet ≡ memory_of old low tablet
  memory_same low tablet is = ap (option_map (clipped low tablet.end)) (logs_same tablet is)

  content_same : (low : Option (List ℕ)) (tablet : TabletRecord) → IsRecord reading tablet → content_of new low tablet ≡ content_of old low tablet
  content_same low tablet is =
      ap (λ f. option_map (clipped low tablet.end) (both_told f (all_told (log_cells new tablet) (logs_of tablet)))) (files_same tablet is)
      ∙ ap (λ l. option_map (clipped low tablet.end) (both_told (all_told (file_cells old) tablet.files) l)) (logs_same tablet is)

  -- what a tablet has in memory stays right
  pub has_same : (rows : Rows) (tablet : TabletRecord) (there : Option Hosting) → IsTabletOf reading rows tablet → HasMemory old rows tablet there → HasMemory new rows tablet there
  has_same rows tablet there of has = record {
    hosting = has.hosting;
    is = has.is;
    session = has.session;
    of = record { logged = has.of.logged; told = memory_same (effective_prev rows tablet) tablet (is_record reading rows tablet of) ∙ has.of.told; latest_at = has.of.latest_at };
    past = record { bar = has.past.bar; cells = λ all e. has.past.cells all (sym (content_same (effective_prev rows tablet) tablet (is_record reading rows tablet of)) ∙ e) };
  }
