-- The content of a tablet, by membership.
use Rattle.std.proofs.Common.{◌≡◌, ◌⊎◌, inl, inr, ℕ, true, List, [], ◌∷◌, ◌++◌, map, filter, Contains, Option, Some, None, refl, sym, ◌∙◌, ap, subst}
use Rattle.std.specs.List.{flat_map}
use Rattle.std.specs.Option.{option_map}
use Rattle.std.proofs.lemmas.Option.{same_Some, none-some}
use Rattle.std.proofs.lemmas.List.Elements.{filter-append, Contains-append_left, Contains-append_right, Contains-append_cases}
use Rattle.row_keys.specs.RowOrder.{is_within}
use Rattle.metadata_schema.specs.declared.mutation.Mutation.{Mutation}
use Rattle.metadata_schema.specs.declared.tablet.FileEntry.{FileEntry}
use Rattle.metadata_schema.specs.declared.tablet.TabletRecord.{TabletRecord}
use Rattle.cell_merge.specs.declared.cell.Cell.{Cell}
use Rattle.cell_merge.specs.Newest.{clipped}
use Rattle.level_rows.proofs.Membership.{Contains-filter, Contains-in_filter}
use Rattle.store_layout.specs.NewStore.{cell_of}
use Rattle.store_meaning.specs.Ground.{Ground}
use Rattle.store_meaning.specs.Content.{both_told, all_told, timed, cells_of_mutation, counts_for, file_cells, log_cells, logs_of, content_of}
use Rattle.store_meaning.proofs.MemberLemmas.{Contains-map, Contains-in_map, Contains-flat_map, Contains-in_flat_map, both_parts, both_are, all_each, all_in, all_has, all_some}

-- a cell of a file that the record names, with its time
pub record IsInFiles (known : Ground) (tablet : TabletRecord) (cell : Cell) : Type 0 where
  pub file : FileEntry
  pub of : Contains tablet.files file
  pub cells : List Cell
  pub told : known.cells_of file.path ≡ Some cells
  pub stored : Cell
  pub there : Contains cells stored
  pub is : timed file.time stored ≡ cell

-- a cell of a mutation that counts, of a log that the record names
pub record IsInLogs (known : Ground) (tablet : TabletRecord) (cell : Cell) : Type 0 where
  pub log : List ℕ
  pub of : Contains (logs_of tablet) log
  pub mutations : List Mutation
  pub told : known.mutations_of log ≡ Some mutations
  pub mutation : Mutation
  pub there : Contains mutations mutation
  pub counts : counts_for tablet mutation ≡ true
  pub writes : Contains (cells_of_mutation mutation) cell

pub mapped : {X Y : Type 0} (f : X → Y) (o : Option X) (y : Y) → option_map f o ≡ Some y → (x : X) × (o ≡ Some x) × (f x ≡ y)
mapped f None y e = absurd (none-some y e)
mapped f (Some x) y e = (x, refl, same_Some _ _ e)

-- a mutation's cells stand at its row and time
pub of_mutation : (mutation : Mutation) (cell : Cell) → Contains (cells_of_mutation mutation) cell → (cell.key.row ≡ mutation.row) × (cell.time ≡ mutation.time)
of_mutation mutation cell there =
    let r = Contains-map (cell_of mutation.row mutation.time) mutation.updates cell there in
    (ap (λ (c : Cell). c.key.row) (sym r.2), ap (λ (c : Cell). c.time) (sym r.2))

-- clipping goes through joins
pub clip_both : (low high : Option (List ℕ)) (o p : Option (List Cell)) → option_map (clipped low high) (both_told o p) ≡ both_told (option_map (clipped low high) o) (option_map (clipped low high) p)
clip_both low high None p = refl
clip_both low high (Some front) None = refl
clip_both low high (Some front) (Some back) = ap Some (filter-append (λ (c : Cell). is_within low high c.key.row) front back)

pub clip_all : {X : Type 0} (low high : Option (List ℕ)) (f : X → Option (List Cell)) (xs : List X) → option_map (clipped low high) (all_told f xs) ≡ all_told (λ x. option_map (clipped low high) (f x)) xs
clip_all low high f [] = refl
clip_all low high f (x ∷ xs) = clip_both low high (f x) (all_told f xs) ∙ ap (both_told (option_map (clipped low high) (f x))) (clip_all low high f xs)

-- the cells that a tablet's files and logs give before they are clipped
record IsParted (known : Ground) (low : Option (List ℕ)) (tablet : TabletRecord) (cells : List Cell) : Type 0 where
  files : List Cell
  logs : List Cell
  files_are : all_told (file_cells known) tablet.files ≡ Some files
  logs_are : all_told (log_cells known tablet) (logs_of tablet) ≡ Some logs
  is : clipped low tablet.end (files ++ logs) ≡ cells

module _ (known : Ground) (tablet : TabletRecord) where
  files_have : (files : List Cell) → all_told (file_cells known) tablet.files ≡ Some files → (cell : Cell) → Contains files cell → IsInFiles known tablet cell
  files_have files e cell there =
      let one = all_has (file_cells known) tablet.files files e cell there in
      let cells = mapped (map (timed one.0.time)) (known.cells_of one.0.path) one.1 one.3 in
      let stored = Contains-map (timed one.0.time) cells.0 cell (subst (λ l. Contains l cell) (sym cells.2) one.4) in
      record { file = one.0; of = one.2; cells = cells.0; told = cells.1; stored = stored.0; there = stored.1; is = stored.2 }

  in_files : (files : List Cell) → all_told (file_cells known) tablet.files ≡ Some files → (cell : Cell) → IsInFiles known tablet cell → Contains files cell
  in_files files e cell in_it =
      all_in (file_cells known) tablet.files files e in_it.file (map (timed in_it.file.time) in_it.cells) cell in_it.of (ap (option_map (map (timed in_it.file.time))) in_it.told)
      (subst (Contains (map (timed in_it.file.time) in_it.cells)) in_it.is (Contains-in_map (timed in_it.file.time) in_it.cells in_it.stored in_it.there))

  pub logs_have : (logs : List Cell) → all_told (log_cells known tablet) (logs_of tablet) ≡ Some logs → (cell : Cell) → Contains logs cell → IsInLogs known tablet cell
  logs_have logs e cell there =
      let one = all_has (log_cells known tablet) (logs_of tablet) logs e cell there in
      let ms = mapped (λ mutations. flat_map cells_of_mutation (filter (counts_for tablet) mutations)) (known.mutations_of one.0) one.1 one.3 in
      let m = Contains-flat_map cells_of_mutation (filter (counts_for tablet) ms.0) cell (subst (λ l. Contains l cell) (sym ms.2) one.4) in
      let f = Contains-filter (counts_for tablet) ms.0 m.0 m.1 in
      record { log = one.0; of = one.2; mutations = ms.0; told = ms.1; mutation = m.0; there = f.0; counts = f.1; writes = m.2 }

  pub in_logs : (logs : List Cell) → all_told (log_cells known tablet) (logs_of tablet) ≡ Some logs → (cell : Cell) → IsInLogs known tablet cell → Contains logs cell
  in_logs logs e cell in_it =
      all_in (log_cells known tablet) (logs_of tablet) logs e in_it.log (flat_map cells_of_mutation (filter (counts_for tablet) in_it.mutations)) cell in_it.of
      (ap (option_map (λ mutations. flat_map cells_of_mutation (filter (counts_for tablet) mutations))) in_it.told)
      (Contains-in_flat_map cells_of_mutation (filter (counts_for tablet) in_it.mutations) in_it.mutation cell (Contains-in_filter (counts_for tablet) in_it.mutations in_it.mutation in_it.there in_it.counts) in_it.writes)

module _ (known : Ground) (low : Option (List ℕ)) (tablet : TabletRecord) where
  parted : (cells : List Cell) → content_of known low tablet ≡ Some cells → IsParted known low tablet cells
  parted cells e =
      let m = mapped (clipped low tablet.end) (both_told (all_told (file_cells known) tablet.files) (all_told (log_cells known tablet) (logs_of tablet))) cells e in
      let b = both_parts (all_told (file_cells known) tablet.files) (all_told (log_cells known tablet) (logs_of tablet)) m.0 m.1 in
      record { files = b.0; logs = b.1; files_are = b.2; logs_are = b.3; is = ap (clipped low tablet.end) (sym b.4) ∙ m.2 }

  -- what is in the content lies in the extent, and in a file or a log
  pub content_has : (cells : List Cell) → content_of known low tablet ≡ Some cells → (cell : Cell) → Contains cells cell → (is_within low tablet.end cell.key.row ≡ true) × (IsInFiles known tablet cell ⊎ IsInLogs known tablet cell)
  content_has cells e cell there =
      let p = parted cells e in
      let f = Contains-filter (λ (c : Cell). is_within low tablet.end c.key.row) (p.files ++ p.logs) cell (subst (λ l. Contains l cell) (sym p.is) there) in (
        f.1,
        elim (Contains-append_cases p.files p.logs cell f.0) [
          | inl file ↦ inl (files_have known tablet p.files p.files_are cell file)
          | inr log ↦ inr (logs_have known tablet p.logs p.logs_are cell log)
        ],
      )

  pub content_in : (cells : List Cell) → content_of known low tablet ≡ Some cells → (cell : Cell) → is_within low tablet.end cell.key.row ≡ true → IsInFiles known tablet cell ⊎ IsInLogs known tablet cell → Contains cells cell
  content_in cells e cell within in_it =
      let p = parted cells e in
      subst (λ l. Contains l cell) p.is (Contains-in_filter (λ (c : Cell). is_within low tablet.end c.key.row) (p.files ++ p.logs) cell (elim in_it [
        | inl file ↦ Contains-append_left p.files p.logs cell (in_files known tablet p.files p.files_are cell file)
        | inr log ↦ Contains-append_right p.files p.logs cell (in_logs known tablet p.logs p.logs_are cell log)
      ]) within)

  -- each file and log that the record names is told where its content is
  pub file_told : (cells : List Cell) → content_of known low tablet ≡ Some cells → (file : FileEntry) → Contains tablet.files file → (stored : List Cell) × (known.cells_of file.path ≡ Some stored)
  file_told cells e file there =
      let p = parted cells e in
      let one = all_each (file_cells known) tablet.files p.files p.files_are file there in
      let m = mapped (map (timed file.time)) (known.cells_of file.path) one.0 one.1 in
      (m.0, m.1)

  pub log_told : (cells : List Cell) → content_of known low tablet ≡ Some cells → (log : List ℕ) → Contains (logs_of tablet) log → (mutations : List Mutation) × (known.mutations_of log ≡ Some mutations)
  log_told cells e log there =
      let p = parted cells e in
      let one = all_each (log_cells known tablet) (logs_of tablet) p.logs p.logs_are log there in
      let m = mapped (λ mutations. flat_map cells_of_mutation (filter (counts_for tablet) mutations)) (known.mutations_of log) one.0 one.1 in
      (m.0, m.1)

  pub content_told : ((file : FileEntry) → Contains tablet.files file → (stored : List Cell) × (known.cells_of file.path ≡ Some stored))
      → ((log : List ℕ) → Contains (logs_of tablet) log → (mutations : List Mutation) × (known.mutations_of log ≡ Some mutations)) → (cells : List Cell) × (content_of known low tablet ≡ Some cells)
  content_told files logs =
      let f = all_some (file_cells known) tablet.files (λ file there. (let t = files file there in (map (timed file.time) t.0, ap (option_map (map (timed file.time))) t.1))) in
      let l = all_some (log_cells known tablet) (logs_of tablet) (λ log there.
      (let t = logs log there in (flat_map cells_of_mutation (filter (counts_for tablet) t.0), ap (option_map (λ mutations. flat_map cells_of_mutation (filter (counts_for tablet) mutations))) t.1))) in
      (clipped low tablet.end (f.0 ++ l.0), ap (option_map (clipped low tablet.end)) (both_are (all_told (file_cells known) tablet.files) (all_told (log_cells known tablet) (logs_of tablet)) f.0 l.0 f.1 l.1))
