-- Tablets and their memories as a write comes into one of them.
use Rattle.std.proofs.Common.{◌≡◌, ◌≢◌, ◌⊎◌, inl, inr, ℕ, ◌<◌, Bool, true, false, ltb, List, [], ◌++◌, All, Contains, Option, Some, None, refl, sym, ◌∙◌, ap, subst, arith}
use Rattle.std.specs.Option.{option_map}
use Rattle.std.proofs.lemmas.Bool.{cases_Bool, and_parts, and_from, lt-ltb}
use Rattle.std.proofs.lemmas.List.Elements.{All-contains, All-weaker, All-contains_itself}
use Rattle.std.proofs.lemmas.Option.{same_Some}
use Rattle.row_keys.specs.RowOrder.{is_within}
use Rattle.metadata_schema.specs.declared.mutation.Mutation.{Mutation}
use Rattle.metadata_schema.specs.declared.tablet.TabletRecord.{TabletRecord}
use Rattle.metadata_schema.specs.Bytes.{same}
use Rattle.cell_merge.specs.declared.cell.Cell.{Cell}
use Rattle.cell_merge.specs.Changes.{AreConsistent}
use Rattle.cell_merge.specs.Newest.{Bytes, clipped}
use Rattle.cell_merge.proofs.LatestLemmas.{AreConsistent-gains}
use Rattle.level_rows.specs.Chain.{Rows, IsChain, effective_prev}
use Rattle.level_rows.proofs.EndLemmas.{same-true, same-itself}
use Rattle.level_rows.proofs.Membership.{Contains-filter}
use Rattle.level_rows.proofs.PartitionLemmas.{partition_at}
use Rattle.tablet_mem.specs.Memory.{Memory, put, next_time}
use Rattle.store_meaning.specs.Ground.{Ground}
use Rattle.store_meaning.specs.Content.{all_told, log_cells, logs_of, counts_for, cells_of_mutation, content_of, tablet_content}
use Rattle.store_meaning.specs.Flushes.{memory_of}
use Rattle.store_meaning.specs.Writes.{appended, counts_in, HasGrown, IsPast, StandsIn}
use Rattle.store_meaning.proofs.AppendLemmas.{has_grown, elsewhere, not_named}
use Rattle.store_meaning.proofs.ContentLemmas.{mapped, logs_have, content_in, of_mutation}
use Rattle.store_meaning.proofs.LevelLemmas.{consistent_mutation}
use Rattle.tablet_scan.specs.Scans.{IsMemoryOf}
use Rattle.tablet_scan.proofs.PutLemmas.{memory_put, memory_aside, memory_unnamed}
use Rattle.hosted_writes.specs.declared.row_updates.RowUpdates.{RowUpdates}
use Rattle.hosted_writes.specs.Puts.{timed, next_mutation}
use Rattle.hosted_writes.specs.Memories.{HasRow, IsTimedPast, AreTold, TakesWrite, IsAside, IsHolderOf}

-- it counts where the tablet has the row and the time is past the bar
row_counts : (low : Option Bytes) (tablet : TabletRecord) (write : RowUpdates) (time : ℕ) → HasRow low tablet write → tablet.time < time → counts_in low tablet (timed write time) ≡ true
row_counts low tablet write time row past =
    and_from (counts_for tablet (timed write time)) (is_within low tablet.end write.row)
    (and_from (same write.table tablet.table) (ltb tablet.time time) (same-itself write.table tablet.table row.table) (lt-ltb tablet.time time past)) row.within

-- and nowhere else
pub aside : (low : Option Bytes) (tablet : TabletRecord) (log : List ℕ) (write : RowUpdates) (time : ℕ) → (HasRow low tablet write → ⊥) → IsAside low tablet log (timed write time)
aside low tablet log write time none = elim (cases_Bool (counts_in low tablet (timed write time))) [
  | inl is ↦ absurd (
      let parts = and_parts (counts_for tablet (timed write time)) (is_within low tablet.end write.row) is in
      let own = and_parts (same write.table tablet.table) (ltb tablet.time time) parts.0 in
      none (record { table = same-true write.table tablet.table own.0; within = parts.1 }))
  | inr out ↦ inl out
]

-- ---- a tablet aside

module _ (known : Ground) (low : Option Bytes) (tablet : TabletRecord) (memory : Memory) (log : List ℕ) (mutation : Mutation) (out : IsAside low tablet log mutation) where
  same_content : content_of (appended known log mutation) low tablet ≡ content_of known low tablet
  same_content = elim out [ inl none ↦ elsewhere known log mutation low tablet none | inr none ↦ not_named known log mutation low tablet none ]

  pub memory_stays : IsMemoryOf known low tablet memory → IsMemoryOf (appended known log mutation) low tablet memory
  memory_stays is = elim out [ inl none ↦ memory_aside known low tablet memory is log mutation none | inr none ↦ memory_unnamed known low tablet memory is log mutation none ]

  pub past_stays : IsTimedPast known low tablet memory → IsTimedPast (appended known log mutation) low tablet memory
  past_stays past = record { bar = past.bar; cells = λ cells told. past.cells cells (sym same_content ∙ told) }

-- ---- the tablet that takes the write

-- what the logs have is in the content
in_content : (known : Ground) (low : Option Bytes) (tablet : TabletRecord) (logged cells : List Cell) → memory_of known low tablet ≡ Some logged → content_of known low tablet ≡ Some cells → (cell : Cell) → Contains logged cell → Contains cells cell
in_content known low tablet logged cells is told cell there =
    let m = mapped (clipped low tablet.end) (all_told (log_cells known tablet) (logs_of tablet)) logged is in
    let f = Contains-filter (λ (c : Cell). is_within low tablet.end c.key.row) m.0 cell (subst (λ (l : List Cell). Contains l cell) (sym m.2) there) in
    content_in known low tablet cells told cell f.1 (inr (logs_have known tablet m.0 m.1 cell f.0))

fewer_consistent : (fewer cells : List Cell) → ((cell : Cell) → Contains fewer cell → Contains cells cell) → AreConsistent cells → AreConsistent fewer
fewer_consistent fewer cells within is = record { one = λ a b p q key time. is.one a b (within a p) (within b q) key time }

module _ (known : Ground) (low : Option Bytes) (tablet : TabletRecord) (memory : Memory) (log : List ℕ) (write : RowUpdates) (takes : TakesWrite known low tablet memory log write) where
  abbrev mutation : Mutation
  mutation = next_mutation memory write

  abbrev after : Ground
  after = appended known log mutation

  counts : counts_in low tablet mutation ≡ true
  counts = row_counts low tablet write (next_time memory) takes.row takes.past.bar

  fresh : AreConsistent (cells_of_mutation mutation)
  fresh = consistent_mutation mutation takes.rising

  pub memory_follows : IsMemoryOf after low tablet (put memory mutation)
  memory_follows =
      let logged = fewer_consistent takes.of.logged takes.content.cells (in_content known low tablet takes.of.logged takes.content.cells takes.of.told takes.content.is) takes.content.consistent in
      memory_put known low tablet memory takes.of log mutation takes.named counts takes.newer logged fresh

  grown : HasGrown mutation takes.content.cells (content_of after low tablet)
  grown = has_grown known log mutation low tablet takes.content.cells takes.content.is takes.named counts

  before : (cell : Cell) → Contains takes.content.cells cell → cell.time < next_time memory
  before cell there = All-contains (λ (c : Cell). c.time < next_time memory) takes.content.cells cell (takes.past.cells takes.content.cells takes.content.is) there

  pub content_follows : AreTold (content_of after low tablet)
  content_follows = record {
    cells = grown.cells;
    is = grown.is;
    consistent = AreConsistent-gains (cells_of_mutation mutation) takes.content.cells grown.cells takes.content.consistent fresh (record {
      from = λ cell there. (grown.each cell).0 there;
      keeps = λ cell there. (grown.each cell).1 (inl there);
      gains = λ cell there. (grown.each cell).1 (inr there);
      later = λ was is there new same. (let time = (of_mutation mutation is new).1 in let lt = before was there in omega (arith, time, lt));
    });
  }

  pub past_follows : IsTimedPast after low tablet (put memory mutation)
  past_follows = record {
    bar = (let lt = takes.past.bar in let more = later in omega (arith, lt, more));
    cells = λ cells told. All-weaker (Contains cells) (λ (c : Cell). c.time < next_time (put memory mutation)) (λ cell there. each cell (subst (λ (l : List Cell). Contains l cell) (same_Some _ _ (sym told ∙ grown.is)) there)) cells (All-contains_itself cells);
  }
    where
      later : next_time memory < next_time (put memory mutation)
      later = omega arith

      each : (cell : Cell) → Contains grown.cells cell → cell.time < next_time (put memory mutation)
      each cell there = elim ((grown.each cell).0 there) [
        | inl old ↦ (let lt = before cell old in let more = later in omega (arith, lt, more))
        | inr new ↦ (let time = (of_mutation mutation cell new).1 in let more = later in omega (arith, time, more))
      ]

  pub past_cells : (cells : List Cell) → content_of known low tablet ≡ Some cells → IsPast cells mutation
  past_cells cells told = record { later = λ cell there row. All-contains (λ (c : Cell). c.time < next_time memory) cells cell (takes.past.cells cells told) there }

-- ---- its place in a chain

pub one_holder : (rows : Rows) (chain : List TabletRecord) (write : RowUpdates) → IsChain rows chain → ((tablet : TabletRecord) → Contains chain tablet → write.table ≡ tablet.table) → (holder : TabletRecord) × IsHolderOf rows chain write holder
one_holder rows chain write is own =
    let one = partition_at rows chain write.row is in
    (one.holder, record { there = one.there; row = record { table = own one.holder one.there; within = one.holds }; only = λ other there has. one.only other there has.within })

pub stands : (known : Ground) (rows : Rows) (chain : List TabletRecord) (holder : TabletRecord) (memory : Memory) (log : List ℕ) (write : RowUpdates) → Contains chain holder → TakesWrite known (effective_prev rows holder) holder memory log write
    → StandsIn known rows chain log (next_mutation memory write)
stands known rows chain holder memory log write there takes = record {
  holder = holder;
  there = there;
  named = takes.named;
  counts = counts known (effective_prev rows holder) holder memory log write takes;
  past = past_cells known (effective_prev rows holder) holder memory log write takes;
}

pub other_aside : (rows : Rows) (chain : List TabletRecord) (holder other : TabletRecord) (log : List ℕ) (write : RowUpdates) (time : ℕ) → IsHolderOf rows chain write holder → Contains chain other → other ≢ holder → IsAside (effective_prev rows other) other log (timed write time)
other_aside rows chain holder other log write time is there apart = aside (effective_prev rows other) other log write time (λ has. apart (is.only other there has))
