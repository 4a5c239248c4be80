-- The content of a tablet that is flushed.
use Rattle.std.proofs.Common.{◌≡◌, inl, inr, ℕ, ◌<◌, ◌≤◌, true, List, [], ◌∷◌, Contains, Option, Some, None, refl, sym, ◌∙◌, ap, subst, arith, ltb}
use Rattle.std.specs.Option.{option_map}
use Rattle.std.proofs.lemmas.Bool.{and_parts, and_from, ltb-true, lt-ltb}
use Rattle.std.proofs.lemmas.Option.{same_Some}
use Rattle.row_keys.specs.declared.key.Key.{Key}
use Rattle.row_keys.specs.RowOrder.{is_within}
use Rattle.metadata_schema.specs.declared.mutation.Mutation.{Mutation}
use Rattle.metadata_schema.specs.declared.tablet.FileEntry.{FileEntry}
use Rattle.metadata_schema.specs.declared.tablet.TabletRecord.{TabletRecord}
use Rattle.metadata_schema.specs.Bytes.{same}
use Rattle.cell_merge.specs.declared.cell.Cell.{Cell}
use Rattle.cell_merge.specs.Newest.{clipped, latest}
use Rattle.cell_merge.specs.Changes.{IsAsLate}
use Rattle.cell_merge.proofs.LatestLemmas.{IsAnswer, latest_is, latest-some}
use Rattle.level_rows.proofs.Membership.{Contains-nil, Contains-here, Contains-filter, Contains-in_filter}
use Rattle.store_meaning.specs.Ground.{Ground}
use Rattle.store_meaning.specs.Content.{all_told, timed, counts_for, log_cells, logs_of, content_of}
use Rattle.store_meaning.specs.ChainWrites.{HasCovered}
use Rattle.store_meaning.specs.Flushes.{memory_of, IsSameTablet, Flushes, FlushesNothing}
use Rattle.store_meaning.proofs.MemberLemmas.{all_some}
use Rattle.store_meaning.proofs.ContentLemmas.{IsInFiles, IsInLogs, mapped, of_mutation, logs_have, in_logs, content_has, content_in, file_told, log_told, content_told}

module _ (known : Ground) (low : Option (List ℕ)) (tablet : TabletRecord) where
  -- what is in memory is a cell of a log within the extent
  memory_has : (memory : List Cell) → memory_of known low tablet ≡ Some memory → (cell : Cell) → Contains memory cell → (is_within low tablet.end cell.key.row ≡ true) × IsInLogs known tablet cell
  memory_has memory e cell there =
      let m = mapped (clipped low tablet.end) (all_told (log_cells known tablet) (logs_of tablet)) memory e in
      let f = Contains-filter (λ (c : Cell). is_within low tablet.end c.key.row) m.0 cell (subst (λ l. Contains l cell) (sym m.2) there) in
      (f.1, logs_have known tablet m.0 m.1 cell f.0)

  memory_in : (memory : List Cell) → memory_of known low tablet ≡ Some memory → (cell : Cell) → is_within low tablet.end cell.key.row ≡ true → IsInLogs known tablet cell → Contains memory cell
  memory_in memory e cell within in_it =
      let m = mapped (clipped low tablet.end) (all_told (log_cells known tablet) (logs_of tablet)) memory e in
      subst (λ l. Contains l cell) m.2 (Contains-in_filter (λ (c : Cell). is_within low tablet.end c.key.row) m.0 cell (in_logs known tablet m.0 m.1 cell in_it) within)

-- what counts past the later bar counted before
counted_before : (old new : TabletRecord) → new.table ≡ old.table → old.time ≤ new.time → (mutation : Mutation) → counts_for new mutation ≡ true → (counts_for old mutation ≡ true) × (new.time < mutation.time)
counted_before old new table bar mutation counts =
    let parts = and_parts (same mutation.table new.table) (ltb new.time mutation.time) counts in
    let past = ltb-true new.time mutation.time parts.1 in
    (and_from (same mutation.table old.table) (ltb old.time mutation.time) (ap (same mutation.table) (sym table) ∙ parts.0) (lt-ltb old.time mutation.time (omega (arith, bar, past))), past)

module _ (known : Ground) (low : Option (List ℕ)) (old new : TabletRecord) (same_one : IsSameTablet old new) (bar : old.time ≤ new.time) where
  within_old : (cell : Cell) → is_within low new.end cell.key.row ≡ true → is_within low old.end cell.key.row ≡ true
  within_old cell e = ap (λ end. is_within low end cell.key.row) (sym same_one.end) ∙ e

  within_new : (cell : Cell) → is_within low old.end cell.key.row ≡ true → is_within low new.end cell.key.row ≡ true
  within_new cell e = ap (λ end. is_within low end cell.key.row) same_one.end ∙ e

  -- a cell of the later record's logs was in memory, past the later bar
  log_before : (memory : List Cell) → memory_of known low old ≡ Some memory → (cell : Cell) → is_within low new.end cell.key.row ≡ true → IsInLogs known new cell → Contains memory cell × (new.time < cell.time)
  log_before memory e cell within l =
      let before = counted_before old new same_one.table bar l.mutation l.counts in
      let time = (of_mutation l.mutation cell l.writes).1 in
      let past = before.1 in (
        memory_in known low old memory e cell (within_old cell within)
            (record { log = l.log; of = same_one.logs l.log l.of; mutations = l.mutations; told = l.told; mutation = l.mutation; there = l.there; counts = before.0; writes = l.writes }),
        omega (arith, past, time),
      )

  logs_told : (was : List Cell) → content_of known low old ≡ Some was → (log : List ℕ) → Contains (logs_of new) log → (mutations : List Mutation) × (known.mutations_of log ≡ Some mutations)
  logs_told was is log there = log_told known low old was is log (same_one.logs log there)

  -- where none of memory is past the later bar, nothing is in memory then
  pub memory_after : (memory : List Cell) → memory_of known low old ≡ Some memory → ((cell : Cell) → Contains memory cell → cell.time ≤ new.time) → (was : List Cell) → content_of known low old ≡ Some was → memory_of known low new ≡ Some []
  memory_after memory e past was is =
      let told = all_some (log_cells known new) (logs_of new) (λ log there. (let t = logs_told was is log there in (_, ap (option_map _) t.1))) in
      let now : memory_of known low new ≡ Some (clipped low new.end told.0) = ap (option_map (clipped low new.end)) told.1 in
      now ∙ ap Some (nothing (clipped low new.end told.0) (λ cell there.
      let h = memory_has known low new (clipped low new.end told.0) now cell there in
      let b = log_before memory e cell h.0 h.1 in
      let late = past cell b.0 in
      let early = b.1 in
      omega (arith, late, early)))
    where
      nothing : (cells : List Cell) → ((cell : Cell) → Contains cells cell → ⊥) → cells ≡ []
      nothing [] none = refl
      nothing (c ∷ cs) none = absurd (none c (Contains-here c cs))

-- ---- a flush

module _ (known : Ground) (low : Option (List ℕ)) (old new : TabletRecord) (flushes : Flushes known low old new) (was : List Cell) (is : content_of known low old ≡ Some was) where
  files_told : (file : FileEntry) → Contains new.files file → (stored : List Cell) × (known.cells_of file.path ≡ Some stored)
  files_told file there = elim ((flushes.files file).0 there) [
    | inl before ↦ file_told known low old was is file before
    | inr one ↦ (flushes.cells, ap (λ (f : FileEntry). known.cells_of f.path) (sym one) ∙ flushes.told)
  ]

  flushed : (cells : List Cell) × (content_of known low new ≡ Some cells)
  flushed = content_told known low new files_told (logs_told known low old new flushes.same flushes.bar was is)

  memory_in_old : (cell : Cell) → Contains flushes.memory cell → Contains was cell
  memory_in_old cell there = let h = memory_has known low old flushes.memory flushes.in_memory cell there in content_in known low old was is cell h.0 (inr h.1)

  -- a cell of the file was in memory
  of_memory : (cell : Cell) → Contains flushes.cells cell → Contains flushes.memory cell
  of_memory cell there = (latest-some flushes.memory cell.key cell ((flushes.newest.each cell).0 there).0).there

  from_file : (cell : Cell) → is_within low new.end cell.key.row ≡ true → IsInFiles known new cell → Contains was cell
  from_file cell within f = elim ((flushes.files f.file).0 f.of) [
    | inl before ↦ content_in known low old was is cell (within_old known low old new flushes.same flushes.bar cell within)
        (inl (record { file = f.file; of = before; cells = f.cells; told = f.told; stored = f.stored; there = f.there; is = f.is }))
    | inr one ↦
        let stored : f.stored ≡ cell = ap (λ o. timed o f.stored) (sym (ap (λ (e : FileEntry). e.time) (sym one) ∙ flushes.own_times)) ∙ f.is in
        let lists : f.cells ≡ flushes.cells = same_Some _ _ (sym f.told ∙ ap (λ (e : FileEntry). known.cells_of e.path) (sym one) ∙ flushes.told) in
        memory_in_old cell (of_memory cell (subst (Contains flushes.cells) stored (subst (λ l. Contains l f.stored) lists f.there)))
  ]

  within_flushed : (cell : Cell) → Contains flushed.0 cell → Contains was cell
  within_flushed cell there =
      let h = content_has known low new flushed.0 flushed.1 cell there in
      elim h.1 [
        | inl f ↦ from_file cell h.0 f
        | inr l ↦ memory_in_old cell (log_before known low old new flushes.same flushes.bar flushes.memory flushes.in_memory cell h.0 l).0
      ]

  -- the latest cell of a key in memory is in the file
  latest_in_file : (cell : Cell) → is_within low old.end cell.key.row ≡ true → Contains flushes.memory cell → (o : Option Cell) → latest flushes.memory cell.key ≡ o → IsAnswer flushes.memory cell.key o → (other : Cell) × IsAsLate flushed.0 cell other
  latest_in_file cell within there None e none = absurd (none cell there refl)
  latest_in_file cell within there (Some other) e found =
      let in_file = (flushes.newest.each other).1 (ap (latest flushes.memory) found.at ∙ e, tt_is) in (
        other,
        record {
          there = content_in known low new flushed.0 flushed.1 other (ap (λ (k : Key). is_within low new.end k.row) found.at ∙ within_new known low old new flushes.same flushes.bar cell within)
              (inl (record { file = flushes.file; of = (flushes.files flushes.file).1 (inr refl); cells = flushes.cells; told = flushes.told; stored = other; there = in_file; is = ap (λ o. timed o other) flushes.own_times }));
          key = found.at;
          time = found.last cell there refl;
        },
      )
    where
      tt_is : Rattle.std.specs.Prelude.IsTrue true
      tt_is = refl

  pub flush_covered : HasCovered was (content_of known low new)
  flush_covered = record {
    cells = flushed.0;
    is = flushed.1;
    covers = record {
      within = within_flushed;
      covered = λ cell there. (let h = content_has known low old was is cell there in inl (elim h.1 [
        | inl f ↦ (
          cell,
          record {
            there = content_in known low new flushed.0 flushed.1 cell (within_new known low old new flushes.same flushes.bar cell h.0)
                (inl (record { file = f.file; of = (flushes.files f.file).1 (inl f.of); cells = f.cells; told = f.told; stored = f.stored; there = f.there; is = f.is }));
            key = refl;
            time = omega arith;
          },
        )
        | inr l ↦ latest_in_file cell h.0 (memory_in known low old flushes.memory flushes.in_memory cell h.0 l) (latest flushes.memory cell.key) refl (latest_is flushes.memory cell.key)
      ]));
    };
  }

  pub flush_empties : memory_of known low new ≡ Some []
  flush_empties = memory_after known low old new flushes.same flushes.bar flushes.memory flushes.in_memory flushes.past was is

-- ---- with nothing in memory

module _ (known : Ground) (low : Option (List ℕ)) (old new : TabletRecord) (flushes : FlushesNothing known low old new) (was : List Cell) (is : content_of known low old ≡ Some was) where
  nothing_flushed : (cells : List Cell) × (content_of known low new ≡ Some cells)
  nothing_flushed = content_told known low new (λ file there. file_told known low old was is file (subst (λ l. Contains l file) flushes.files there)) (logs_told known low old new flushes.same flushes.bar was is)

  pub nothing_covered : HasCovered was (content_of known low new)
  nothing_covered = record {
    cells = nothing_flushed.0;
    is = nothing_flushed.1;
    covers = record {
      within = λ cell there. (let h = content_has known low new nothing_flushed.0 nothing_flushed.1 cell there in elim h.1 [
        | inl f ↦ content_in known low old was is cell (within_old known low old new flushes.same flushes.bar cell h.0)
            (inl (record { file = f.file; of = subst (λ l. Contains l f.file) flushes.files f.of; cells = f.cells; told = f.told; stored = f.stored; there = f.there; is = f.is }))
        | inr l ↦ absurd (Contains-nil cell (log_before known low old new flushes.same flushes.bar [] flushes.empty cell h.0 l).0)
      ]);
      covered = λ cell there. (let h = content_has known low old was is cell there in inl (
        cell,
        record {
          there = content_in known low new nothing_flushed.0 nothing_flushed.1 cell (within_new known low old new flushes.same flushes.bar cell h.0) (elim h.1 [
            | inl f ↦ inl (record { file = f.file; of = subst (λ l. Contains l f.file) (sym flushes.files) f.of; cells = f.cells; told = f.told; stored = f.stored; there = f.there; is = f.is })
            | inr l ↦ absurd (Contains-nil cell (memory_in known low old [] flushes.empty cell h.0 l))
          ]);
          key = refl;
          time = omega arith;
        },
      ));
    };
  }

  pub nothing_empties : memory_of known low new ≡ Some []
  nothing_empties = memory_after known low old new flushes.same flushes.bar [] flushes.empty (λ cell there. absurd (Contains-nil cell there)) was is
