-- The memory of a tablet as mutations are logged and put, and after a flush.
use Rattle.std.proofs.Common.{◌≡◌, inl, inr, ℕ, ◌<◌, true, false, List, [], ◌++◌, All, Contains, Option, Some, None, refl, sym, ◌∙◌, ap, arith}
use Rattle.std.specs.Option.{option_map}
use Rattle.std.proofs.lemmas.List.Elements.{All-contains, Contains-append_left, Contains-append_right, Contains-append_cases}
use Rattle.metadata_schema.specs.declared.mutation.Mutation.{Mutation}
use Rattle.metadata_schema.specs.declared.tablet.TabletRecord.{TabletRecord}
use Rattle.cell_merge.specs.declared.cell.Cell.{Cell}
use Rattle.cell_merge.specs.Newest.{Bytes, latest, later, clipped}
use Rattle.cell_merge.specs.Changes.{AreConsistent}
use Rattle.cell_merge.proofs.LatestLemmas.{IsAnswer, latest_is, latest-some, latest-append}
use Rattle.tablet_mem.specs.Memory.{Memory, put, cleared}
use Rattle.tablet_mem.proofs.LawsLemmas.{consistent-put}
use Rattle.store_meaning.specs.Ground.{Ground}
use Rattle.store_meaning.specs.Content.{both_told, all_told, log_cells, logs_of, content_of, cells_of_mutation}
use Rattle.store_meaning.specs.Flushes.{memory_of}
use Rattle.store_meaning.specs.Writes.{appended, counts_in}
use Rattle.store_meaning.proofs.AppendLemmas.{has_grown, elsewhere, not_named}
use Rattle.tablet_scan.specs.Scans.{IsMemoryOf}
use Rattle.tablet_scan.proofs.ScanLemmas.{same_latest}

-- the tablet without its files
abbrev bare : TabletRecord → TabletRecord
bare tablet = record tablet { files = [] }

behind_none : (o : Option (List Cell)) → both_told (Some []) o ≡ o
behind_none None = refl
behind_none (Some cells) = refl

-- what is in memory is the content of the tablet without its files
bare_memory : (known : Ground) (low : Option Bytes) (tablet : TabletRecord) → content_of known low (bare tablet) ≡ memory_of known low tablet
bare_memory known low tablet = ap (option_map (clipped low tablet.end)) (behind_none (all_told (log_cells known tablet) (logs_of tablet)))

module _ (known : Ground) (low : Option Bytes) (tablet : TabletRecord) (memory : Memory) (is : IsMemoryOf known low tablet memory) where
  -- no cell of the logs is later than all in memory
  pub logged_before : (time : ℕ) → All (λ cell. cell.time < time) memory.cells → (cell : Cell) → Contains is.logged cell → cell.time < time
  logged_before time past cell there = by (latest is.logged cell.key) refl (latest_is is.logged cell.key)
    where
      by : (o : Option Cell) → latest is.logged cell.key ≡ o → IsAnswer is.logged cell.key o → cell.time < time
      by None e none = absurd (none cell there refl)
      by (Some last) e at =
          let le = at.last cell there refl in
          let in_memory = latest-some memory.cells cell.key last (is.latest_at cell.key ∙ e) in
          let lt = All-contains (λ (c : Cell). c.time < time) memory.cells last past in_memory.there in
          omega (arith, le, lt)

  -- a mutation that is put, and stands at the end of a log of the tablet
  pub memory_put : (log : List ℕ) (mutation : Mutation) → Contains (logs_of tablet) log → counts_in low tablet mutation ≡ true → All (λ cell. cell.time < mutation.time) memory.cells → AreConsistent is.logged → AreConsistent (cells_of_mutation mutation)
      → IsMemoryOf (appended known log mutation) low tablet (put memory mutation)
  memory_put log mutation named counts past ok fresh =
      let grown = has_grown known log mutation low (bare tablet) is.logged (bare_memory known low tablet ∙ is.told) named counts in
      let both = is.logged ++ cells_of_mutation mutation in
      let consistent : AreConsistent both = consistent-put is.logged mutation (logged_before mutation.time past) ok fresh in
      record {
        logged = grown.cells;
        told = sym (bare_memory (appended known log mutation) low tablet) ∙ grown.is;
        latest_at = λ key.
            latest-append memory.cells (cells_of_mutation mutation) key
            ∙ ap (λ o. later o (latest (cells_of_mutation mutation) key)) (is.latest_at key)
            ∙ sym (latest-append is.logged (cells_of_mutation mutation) key)
            ∙ sym (same_latest grown.cells both consistent (λ cell. (
              λ there. elim ((grown.each cell).0 there) [ inl old ↦ Contains-append_left is.logged (cells_of_mutation mutation) cell old | inr new ↦ Contains-append_right is.logged (cells_of_mutation mutation) cell new ],
              λ there. (grown.each cell).1 (Contains-append_cases is.logged (cells_of_mutation mutation) cell there),
            )) key);
      }

  -- a mutation that doesn't count in the tablet, or stands in no log of it
  pub memory_aside : (log : List ℕ) (mutation : Mutation) → counts_in low tablet mutation ≡ false → IsMemoryOf (appended known log mutation) low tablet memory
  memory_aside log mutation out = record {
    logged = is.logged;
    told = sym (bare_memory (appended known log mutation) low tablet) ∙ elsewhere known log mutation low (bare tablet) out ∙ bare_memory known low tablet ∙ is.told;
    latest_at = is.latest_at;
  }

  pub memory_unnamed : (log : List ℕ) (mutation : Mutation) → (Contains (logs_of tablet) log → ⊥) → IsMemoryOf (appended known log mutation) low tablet memory
  memory_unnamed log mutation none = record {
    logged = is.logged;
    told = sym (bare_memory (appended known log mutation) low tablet) ∙ not_named known log mutation low (bare tablet) none ∙ bare_memory known low tablet ∙ is.told;
    latest_at = is.latest_at;
  }

-- with nothing in the logs a memory without cells is the tablet's
pub memory_cleared : (known : Ground) (low : Option Bytes) (tablet : TabletRecord) (memory : Memory) → memory_of known low tablet ≡ Some [] → IsMemoryOf known low tablet (cleared memory)
memory_cleared known low tablet memory none = record { logged = []; told = none; latest_at = λ key. refl }
