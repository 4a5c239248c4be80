-- Holders that change, and a flush: their records leave the cells, and are kept.
use Rattle.std.proofs.Common.{◌≡◌, inl, inr, ℕ, ◌≤◌, ◌<◌, true, false, List, Some, None, Contains, refl, sym, ◌∙◌, ap, subst, arith, map, ltb}
use Rattle.std.specs.Option.{option_map}
use Rattle.std.proofs.lemmas.Bool.{and_from, lt-ltb}
use Rattle.std.proofs.lemmas.Option.{same_Some}
use Rattle.row_keys.specs.RowOrder.{is_within}
use Rattle.plain_model.specs.State.{PlainState}
use Rattle.metadata_schema.specs.declared.mutation.Mutation.{Mutation}
use Rattle.metadata_schema.specs.declared.tablet.FileEntry.{FileEntry}
use Rattle.metadata_schema.specs.declared.tablet.TabletRecord.{TabletRecord}
use Rattle.metadata_schema.specs.Bytes.{same}
use Rattle.cell_merge.specs.declared.cell.Cell.{Cell}
use Rattle.cell_merge.proofs.MergedLemmas.{within-merged}
use Rattle.level_rows.specs.Chain.{Rows, effective_prev}
use Rattle.level_rows.proofs.EndLemmas.{same-itself}
use Rattle.store_layout.specs.Tables.{Catalog}
use Rattle.store_meaning.specs.Ground.{Ground}
use Rattle.store_meaning.specs.Content.{timed, counts_for, file_cells, logs_of, content_of}
use Rattle.store_meaning.specs.Levels.{Reading}
use Rattle.store_meaning.specs.Writes.{counts_in}
use Rattle.store_meaning.specs.RowWrites.{RowWrite}
use Rattle.store_meaning.specs.FileChanges.{ReplacesFiles}
use Rattle.store_meaning.specs.Holders.{ChangesHolders}
use Rattle.store_meaning.specs.ChainWrites.{RecordChange, user_rows_with}
use Rattle.store_meaning.specs.Stands.{StandsAs}
use Rattle.store_meaning.specs.Kept.{IsInSomeLog, IsPastBar}
use Rattle.store_meaning.proofs.FileLemmas.{files_covered}
use Rattle.store_meaning.proofs.FlushLemmas.{flush_covered}
use Rattle.store_meaning.proofs.HolderLemmas.{holders_same, same_covered}
use Rattle.store_meaning.proofs.MemberLemmas.{Contains-map}
use Rattle.kept_meaning.specs.Rows.{AreRemovalsWithin, IsTabletKept, low_of, RewritesKept, ChangesHolderOf, FlushesAll, FlushesTablet, ReplacesFilesOf}
use Rattle.kept_meaning.proofs.PlaceLemmas.{same_prev}

-- what is past a record's bar was past the lower bar of the one in whose place it stands, and counted there
pub record WasPast (table : List ℕ) (rows : Rows) (old : TabletRecord) (mutation : Mutation) : Type 0 where
  pub past : IsPastBar table rows old mutation
  pub counts : counts_in (effective_prev rows old) old mutation ≡ true

-- a record and another one of the same extent in its place
module _ (known : Ground) (table : List ℕ) (rows new_rows : Rows) (old new : TabletRecord) (prev : effective_prev new_rows new ≡ effective_prev rows old) (end : new.end ≡ old.end) (of : new.table ≡ table) where
  was_past : new.table ≡ old.table → old.time ≤ new.time → (mutation : Mutation) → IsPastBar table new_rows new mutation → WasPast table rows old mutation
  was_past same_table bar mutation past =
      let within : is_within (effective_prev rows old) old.end mutation.row ≡ true =
      ap (λ low. is_within low old.end mutation.row) (sym prev) ∙ ap (λ high. is_within (effective_prev new_rows new) high mutation.row) (sym end) ∙ past.within in
      let later = past.past in
      let time : old.time < mutation.time = omega (arith, bar, later) in
      record {
        past = record { of = past.of; within = within; past = time };
        counts = and_from (counts_for old mutation) (is_within (effective_prev rows old) old.end mutation.row)
            (and_from (same mutation.table old.table) (ltb old.time mutation.time) (same-itself mutation.table old.table (past.of ∙ sym of ∙ same_table)) (lt-ltb old.time mutation.time time)) within;
      }

  -- ---- holders

  module _ (changes : ChangesHolders known (effective_prev rows old) old new) where
    holder_logged : IsTabletKept known table rows old → (log : List ℕ) (mutation : Mutation) → IsInSomeLog known log mutation → IsPastBar table new_rows new mutation → Contains (logs_of new) log
    holder_logged was log mutation there past =
        let bar = changes.bar in
        let before = was_past changes.table (omega (arith, bar)) mutation past in
        elim (changes.goes log (was.logged log mutation there before.past)) [
          | inl still ↦ still
          | inr nothing ↦ absurd (
              let same_list : there.mutations ≡ nothing.mutations = same_Some _ _ (sym there.told ∙ nothing.told) in
              let none = nothing.none mutation (subst (λ l. Contains l mutation) same_list there.there) in
              let wrong : true ≡ false = sym before.counts ∙ none in
              cc)
        ]

    pub holders_kept : IsTabletKept known table rows old → IsTabletKept known table new_rows new
    holders_kept was = record {
      logged = holder_logged was;
      removals = λ file cells cell named told there removed.
          let before = was.removals file cells cell (subst (λ files. Contains files file) changes.files named) told there removed in
          let bar = changes.bar in
          omega (arith, before, bar);
    }

  -- ---- a flush

  module _ (all : FlushesAll known (effective_prev rows old) old new) where
    flush_logged : IsTabletKept known table rows old → (log : List ℕ) (mutation : Mutation) → IsInSomeLog known log mutation → IsPastBar table new_rows new mutation → Contains (logs_of new) log
    flush_logged was log mutation there past =
        let before = was_past all.flushes.same.table all.flushes.bar mutation past in
        let named = was.logged log mutation there before.past in
        let least = all.past log mutation named there before.counts in
        let most = past.past in
        absurd (omega (arith, least, most))

    -- the new file has only what was in memory
    own_file : (cells : List Cell) (cell : Cell) → file_cells known all.flushes.file ≡ Some cells → Contains cells cell → cell.time ≤ new.time
    own_file cells cell told there =
        let f = all.flushes in
        let both : map (timed f.file.time) f.cells ≡ cells = same_Some _ _ (sym (ap (option_map (map (timed f.file.time))) f.told) ∙ told) in
        let stored = Contains-map (timed f.file.time) f.cells cell (subst (λ l. Contains l cell) (sym both) there) in
        let itself : stored.0 ≡ cell = ap (λ t. timed t stored.0) (sym f.own_times) ∙ stored.2 in
        let time = f.past stored.0 (within-merged f.memory true f.cells f.newest stored.0 stored.1) in
        subst (λ (c : Cell). c.time ≤ new.time) itself time

    flush_removals : IsTabletKept known table rows old → (file : FileEntry) (cells : List Cell) (cell : Cell) → Contains new.files file → file_cells known file ≡ Some cells → Contains cells cell → cell.value ≡ None → cell.time ≤ new.time
    flush_removals was file cells cell named told there removed = elim ((all.flushes.files file).0 named) [
      | inl before ↦ (let least = was.removals file cells cell before told there removed in let bar = all.flushes.bar in omega (arith, least, bar))
      | inr one ↦ own_file cells cell (ap (file_cells known) one ∙ told) there
    ]

    pub flush_kept : IsTabletKept known table rows old → IsTabletKept known table new_rows new
    flush_kept was = record { logged = flush_logged was; removals = flush_removals was }

  -- ---- other files

  pub files_kept : ReplacesFiles known (effective_prev rows old) old new → AreRemovalsWithin known new → IsTabletKept known table rows old → IsTabletKept known table new_rows new
  files_kept replaces removals was = record {
    logged = λ log mutation there past.
        let bar = replaces.bar in
        let before = was_past replaces.table (omega (arith, bar)) mutation past in
        subst (λ logs. Contains logs log) (sym replaces.logs) (was.logged log mutation there before.past);
    removals = removals;
  }

-- ---- of a user table

module _ (reading : Reading) (catalog : Catalog) (known : Ground) (state : PlainState) (is : StandsAs reading catalog known state) (write : RowWrite) (change : RecordChange) where
  pub holders_rewrite : ChangesHolderOf known reading write change → RewritesKept known reading write change
  holders_rewrite changes = record {
    rewrites = changes.rewrites;
    fits = changes.fits;
    loaded = changes.loaded;
    covered = λ was told. same_covered was (content_of known (low_of reading change) change.new) (holders_same known (low_of reading change) change.old change.new changes.holders was told);
    kept = holders_kept known change.new.table (reading.users.records change.new.table) (user_rows_with reading write change.new.table) change.old change.new
        (same_prev reading catalog known state is write change changes.rewrites) changes.rewrites.keeps.end refl changes.holders;
  }

  pub flush_rewrites : FlushesTablet known reading write change → RewritesKept known reading write change
  flush_rewrites flushes = record {
    rewrites = flushes.rewrites;
    fits = flushes.fits;
    loaded = flushes.loaded;
    covered = λ was told. flush_covered known (low_of reading change) change.old change.new flushes.flushes.flushes was told;
    kept = flush_kept known change.new.table (reading.users.records change.new.table) (user_rows_with reading write change.new.table) change.old change.new
        (same_prev reading catalog known state is write change flushes.rewrites) flushes.rewrites.keeps.end refl flushes.flushes;
  }

  pub files_rewrite : ReplacesFilesOf known reading write change → RewritesKept known reading write change
  files_rewrite c = record {
    rewrites = c.rewrites;
    fits = c.fits;
    loaded = c.loaded;
    covered = λ was told. files_covered known (low_of reading change) change.old change.new c.replaces was told;
    kept = files_kept known change.new.table (reading.users.records change.new.table) (user_rows_with reading write change.new.table) change.old change.new
        (same_prev reading catalog known state is write change c.rewrites) c.rewrites.keeps.end refl c.replaces c.removals;
  }
