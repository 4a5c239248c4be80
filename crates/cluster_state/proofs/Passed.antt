-- Stations in which files that nothing names are put or taken out.
use Rattle.std.proofs.Common.{◌≡◌, inl, inr, ℕ, ◌^◌, ◌<◌, List, length, Option, Some, None, IsTrue, refl, subst}
use Rattle.std.proofs.lemmas.Option.{same_Some, none-some}
use Rattle.host_model.specs.Picture.{Image, ChangesFile, file_at}
use Rattle.host_model.specs.State.{HostState}
use Rattle.host_model.specs.declared.fault.Stop.{Stop}
use Rattle.host_model.proofs.Images.{step_of}
use Rattle.row_keys.specs.Forms.{IsLogName}
use Rattle.plain_model.specs.State.{PlainState}
use Rattle.metadata_schema.specs.declared.mutation.Mutation.{Mutation}
use Rattle.metadata_schema.specs.Paths.{IsFilePath}
use Rattle.cell_merge.specs.declared.cell.Cell.{Cell}
use Rattle.data_files.specs.Cells.{AreFileCells}
use Rattle.data_files.specs.Files.{HoldsCells, spelled_file}
use Rattle.log_files.specs.Sorted.{sorted_name, HasSorted, IsSortOf}
use Rattle.store_layout.specs.Names.{file_of, IsRemovableName}
use Rattle.store_layout.specs.Tables.{Catalog}
use Rattle.store_meaning.specs.Ground.{Ground, with_cells, with_mutations, with_sorted}
use Rattle.store_meaning.specs.Levels.{Reading}
use Rattle.store_meaning.proofs.ChangeLemmas.{file_changed, log_changed, sorted_changed}
use Rattle.kept_meaning.proofs.ImageLemmas.{file_kept}
use Rattle.server_nodes.proofs.KeptStart.{log_kept}
use Rattle.ground_store.specs.Acts.{Acts, GoesOn}
use Rattle.ground_store.specs.Steps.{Takes, Writes, WritesSort}
use Rattle.cluster_state.specs.Value.{ClusterValue}
use Rattle.cluster_state.specs.Station.{IsStationOf}
use Rattle.cluster_state.specs.Passing.{Aside, GainsFile, GainsSort, IsFileAside, IsNameAside, IsSortAside, LosesFile, LosesName, OfFile, OfLog, OfSort, TellsAside}
use Rattle.cluster_state.proofs.Results.{holds_unless}
use Rattle.cluster_state.proofs.Stations.{unless}
use Rattle.cluster_state.proofs.Moved.{moved_station}
use Rattle.cluster_state.proofs.Aside.{log_name, told_file, told_log, sort_kept}

module _ {H : Type 0} (state : H → HostState) (reading : Reading) (catalog : Catalog) (known : Ground) (plain : PlainState) (old new : ClusterValue H) (beside : new ≡ record old { base = new.base })
    (is : IsStationOf state old reading catalog known plain) (runs : new.base.stopped ≡ None) where
  -- the cells are told
  pub put_station : (path : List ℕ) (cells : List Cell) → IsFilePath path → AreFileCells cells → length (spelled_file cells) < 2 ^ 64 → IsFileAside path reading catalog known
      → Writes (file_of path) (spelled_file cells) (state old.base.host).files (state new.base.host).files → (now : Ground) × GainsFile path cells known now × IsStationOf state new reading catalog now plain
  put_station path cells form are short apart writes =
      let holds : HoldsCells (file_of path) cells (state new.base.host).files = record { bytes = spelled_file cells; there = step_of writes; file = record { is = refl; cells_are = are; short = short } } in (
        with_cells known path (Some cells),
        refl,
        moved_station state reading catalog known plain old new beside is runs (with_cells known path (Some cells)) catalog plain
            (told_file reading catalog known plain is.kept path (Some cells) apart)
            is.logs
            (file_changed (state old.base.host).files (state new.base.host).files known is.of path (Some cells) form writes (λ other at. subst (λ cs. HoldsCells (file_of path) cs (state new.base.host).files) (same_Some _ _ at) holds))
            (file_kept reading catalog known plain path (Some cells) apart is.kept),
      )

  -- they are told no longer
  without_file : {step : Option (List ℕ) → Option (List ℕ) → Type 0} (path : List ℕ) → IsFilePath path → IsFileAside path reading catalog known → ChangesFile (file_of path) step (state old.base.host).files (state new.base.host).files
      → IsStationOf state new reading catalog (with_cells known path None) plain
  without_file path form apart changes = moved_station state reading catalog known plain old new beside is runs (with_cells known path None) catalog plain
      (told_file reading catalog known plain is.kept path None apart)
      is.logs
      (file_changed (state old.base.host).files (state new.base.host).files known is.of path None form changes (λ cells at. absurd (none-some cells at)))
      (file_kept reading catalog known plain path None apart is.kept)

  without_log : {step : Option (List ℕ) → Option (List ℕ) → Type 0} (name : List ℕ) → IsLogName name → IsNameAside name reading catalog known → ChangesFile name step (state old.base.host).files (state new.base.host).files
      → IsStationOf state new reading catalog (with_mutations known name None) plain
  without_log name form aside changes = moved_station state reading catalog known plain old new beside is runs (with_mutations known name None) catalog plain
      (told_log reading catalog known plain is.kept name None (aside.log form))
      is.logs
      (log_changed (state old.base.host).files (state new.base.host).files known is.of name None form changes (λ mutations at. absurd (none-some mutations at)))
      (log_kept reading catalog known plain is.kept name None (aside.log form))

  -- so it is with a sorted log, whatever is told of it
  with_sort : {step : Option (List ℕ) → Option (List ℕ) → Type 0} (log : List ℕ) (told : Option (List Mutation)) → IsLogName log → IsSortAside log reading catalog known → ChangesFile (sorted_name log) step (state old.base.host).files (state new.base.host).files
      → ((mutations : List Mutation) → told ≡ Some mutations → HasSorted (sorted_name log) mutations (state new.base.host).files) → IsStationOf state new reading catalog (with_sorted known log told) plain
  with_sort log told form apart changes so = moved_station state reading catalog known plain old new beside is runs (with_sorted known log told) catalog plain
      (record { files = λ path used. refl; logs = λ other named. refl })
      is.logs
      (sorted_changed (state old.base.host).files (state new.base.host).files known is.of log told form changes so)
      (sort_kept reading catalog known plain is.kept log told apart)

  pub take_station : (path : List ℕ) → IsFilePath path → IsFileAside path reading catalog known → Takes (file_of path) (state old.base.host).files (state new.base.host).files
      → (now : Ground) × LosesFile path known now × IsStationOf state new reading catalog now plain
  take_station path form apart takes = (with_cells known path None, refl, without_file path form apart takes)

  pub sort_station : (log : List ℕ) (mutations : List Mutation) → IsLogName log → IsSortAside log reading catalog known → WritesSort (sorted_name log) mutations (state old.base.host).files (state new.base.host).files
      → (now : Ground) × GainsSort log mutations known now × IsStationOf state new reading catalog now plain
  sort_station log mutations form apart writes =
      let becomes : IsSortOf mutations (file_at (state new.base.host).files (sorted_name log)) = step_of writes in
      let holds : HasSorted (sorted_name log) becomes.sorted (state new.base.host).files = record { bytes = becomes.bytes; there = becomes.there; is_sorted = becomes.is_sorted } in (
        with_sorted known log (Some becomes.sorted),
        record { sorted = becomes.sorted; sorts = becomes.sorts; is = refl },
        with_sort log (Some becomes.sorted) form apart writes (λ other at. subst (λ ms. HasSorted (sorted_name log) ms (state new.base.host).files) (same_Some _ _ at) holds),
      )

  pub name_station : (name : List ℕ) → IsRemovableName name → IsNameAside name reading catalog known → Takes name (state old.base.host).files (state new.base.host).files
      → (now : Ground) × LosesName name known now × IsStationOf state new reading catalog now plain
  name_station name (inl file) aside takes =
      (with_cells known file.path None, OfFile file.path file.form file.is, without_file file.path file.form (aside.file file.path file.form file.is) (subst (λ n. Takes n (state old.base.host).files (state new.base.host).files) file.is takes))
  name_station name (inr (inl log)) aside takes = (with_mutations known name None, OfLog log, without_log name log aside takes)
  name_station name (inr (inr sort)) aside takes =
      let form : IsLogName (log_name sort.session) = record { session = sort.session; is = refl; form = sort.form } in (
        with_sorted known (log_name sort.session) None,
        OfSort (log_name sort.session) form sort.is,
        with_sort (log_name sort.session) None form (aside.sorted (log_name sort.session) form sort.is) (subst (λ n. Takes n (state old.base.host).files (state new.base.host).files) sort.is takes) (λ mutations at. absurd (none-some mutations at)),
      )

-- where nothing stops, the station is what the files tell
pub tells_aside : {H : Type 0} (state : H → HostState) {D A : Image → Image → Type 0} (aside : Aside) (tells : Ground → Ground → Type 0) (stop : Option Stop) (old new : ClusterValue H) → Acts state D A stop old.base new.base → IsTrue (state old.base.host).is_faithful
    → ((reading : Reading) (catalog : Catalog) (known : Ground) (plain : PlainState) → IsStationOf state old reading catalog known plain → new.base.stopped ≡ None → aside reading catalog known → A (state old.base.host).files (state new.base.host).files
    → (now : Ground) × tells known now × IsStationOf state new reading catalog now plain)
    → TellsAside state aside tells stop old new
tells_aside state {D} {A} aside tells stop old new acts faithful made reading catalog known plain is apart = unless stop ((now : Ground) × tells known now × IsStationOf state new reading catalog now plain) (λ none.
    let goes = acts.goes is.runs in
    made reading catalog known plain is
    (subst (λ s. GoesOn s new.base.stopped (state old.base.host) (state new.base.host)) none goes.goes_on)
    apart
    (holds_unless stop (A (state old.base.host).files (state new.base.host).files) (goes.done faithful) none))
