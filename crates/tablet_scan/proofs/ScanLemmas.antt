-- What a range of a tablet has, by its files and its memory.
use Rattle.std.proofs.Common.{◌≡◌, ◌↔◌, List, ◌++◌, Bool, true, false, Contains, Option, Some, None, refl, sym, ◌∙◌, ap, subst}
use Rattle.std.specs.Option.{option_and_then}
use Rattle.std.proofs.lemmas.Option.{same_Some}
use Rattle.host_model.specs.Picture.{Image}
use Rattle.row_keys.specs.declared.key.Key.{Key}
use Rattle.row_keys.specs.RowOrder.{is_within}
use Rattle.metadata_schema.specs.declared.tablet.TabletRecord.{TabletRecord}
use Rattle.cell_merge.specs.declared.cell.Cell.{Cell}
use Rattle.cell_merge.specs.declared.cell.Pair.{Pair}
use Rattle.cell_merge.specs.Newest.{Bytes, latest, later, clipped, IsNewest, IsMerged}
use Rattle.cell_merge.specs.Changes.{AreConsistent}
use Rattle.cell_merge.proofs.LatestLemmas.{IsAnswer, latest_is, latest_by, latest-append, latest-clipped}
use Rattle.cell_merge.proofs.MergedLemmas.{latest-clipped_outside, latest-kept}
use Rattle.tablet_mem.specs.Memory.{Memory}
use Rattle.store_meaning.specs.Ground.{Ground, IsGroundOf}
use Rattle.store_meaning.specs.Content.{both_told, all_told, file_cells, log_cells, logs_of, content_of}
use Rattle.store_meaning.specs.Flushes.{memory_of}
use Rattle.store_meaning.proofs.ContentLemmas.{mapped}
use Rattle.store_meaning.proofs.MemberLemmas.{both_parts}
use Rattle.tablet_scan.specs.Files.{HoldAll}
use Rattle.tablet_scan.specs.Scans.{AreNewestWithin, IsScan, IsMemoryOf, AreTabletCells, HaveSameLatest}
use Rattle.tablet_scan.proofs.FilesLemmas.{told_is}

-- the newest pairs depend on nothing but the latest cells
newest_same : (a b : List Cell) (pairs : List Pair) → ((key : Key) → latest a key ≡ latest b key) → IsNewest a pairs → IsNewest b pairs
newest_same a b pairs same is = record {
  rising = is.rising;
  each = λ pair. (
    λ there. ap (option_and_then (λ (cell : Cell). cell.value)) (sym (same pair.key)) ∙ (is.each pair).0 there,
    λ e. (is.each pair).1 (ap (option_and_then (λ (cell : Cell). cell.value)) (same pair.key) ∙ e),
  );
}

module _ (from to low high : Option Bytes) where
  abbrev SameInside : List Cell → List Cell → Type 0
  SameInside a b = (key : Key) → is_within from to key.row ≡ true → is_within low high key.row ≡ true → latest a key ≡ latest b key

  inside : (cells : List Cell) (key : Key) → is_within from to key.row ≡ true → is_within low high key.row ≡ true → latest (clipped from to (clipped low high cells)) key ≡ latest cells key
  inside cells key near within = latest-clipped from to (clipped low high cells) key near ∙ latest-clipped low high cells key within

  outside : (cells : List Cell) (key : Key) → is_within from to key.row ≡ true → is_within low high key.row ≡ false → latest (clipped from to (clipped low high cells)) key ≡ None
  outside cells key near without = latest-clipped from to (clipped low high cells) key near ∙ latest-clipped_outside low high cells key without

  same_clipped : (a b : List Cell) → SameInside a b → (key : Key) → latest (clipped from to (clipped low high a)) key ≡ latest (clipped from to (clipped low high b)) key
  same_clipped a b same key = by (is_within from to key.row) (is_within low high key.row) refl refl
    where
      by : (p q : Bool) → is_within from to key.row ≡ p → is_within low high key.row ≡ q → latest (clipped from to (clipped low high a)) key ≡ latest (clipped from to (clipped low high b)) key
      by true true near within = inside a key near within ∙ same key near within ∙ sym (inside b key near within)
      by true false near without = outside a key near without ∙ sym (outside b key near without)
      by false q far e = latest-clipped_outside from to (clipped low high a) key far ∙ sym (latest-clipped_outside from to (clipped low high b) key far)

  pub newest_inside : (a b : List Cell) (pairs : List Pair) → SameInside a b → AreNewestWithin from to (clipped low high a) pairs → AreNewestWithin from to (clipped low high b) pairs
  newest_inside a b pairs same = newest_same (clipped from to (clipped low high a)) (clipped from to (clipped low high b)) pairs (same_clipped a b same)

  -- the newest cells of the range stand for all in memory
  pub newest_merged : (cells memory merged : List Cell) (pairs : List Pair) → IsMerged (clipped from to memory) true merged → AreNewestWithin from to (clipped low high (cells ++ merged)) pairs → AreNewestWithin from to (clipped low high (cells ++ memory)) pairs
  newest_merged cells memory merged pairs is = newest_inside (cells ++ merged) (cells ++ memory) pairs (λ key near within.
      latest-append cells merged key
      ∙ ap (later (latest cells key)) (latest-kept (clipped from to memory) merged key is ∙ latest-clipped from to memory key near)
      ∙ sym (latest-append cells memory key))

-- the content is what these cells have of the tablet's rows, and there their latest ones are those of the files and the memory
record HasWithin (low : Option Bytes) (tablet : TabletRecord) (cells content : List Cell) : Type 0 where
  all : List Cell
  content_is : clipped low tablet.end all ≡ content
  same : (key : Key) → is_within low tablet.end key.row ≡ true → latest cells key ≡ latest all key

has_within : (image : Image) (known : Ground) (low : Option Bytes) (tablet : TabletRecord) (memory : Memory) (stored content : List Cell) → IsGroundOf image known → IsMemoryOf known low tablet memory
    → content_of known low tablet ≡ Some content → HoldAll image tablet.files stored → HasWithin low tablet (stored ++ memory.cells) content
has_within image known low tablet memory stored content ground mem e held =
    let all = mapped (clipped low tablet.end) (both_told (all_told (file_cells known) tablet.files) (all_told (log_cells known tablet) (logs_of tablet))) content e in
    let parts = both_parts (all_told (file_cells known) tablet.files) (all_told (log_cells known tablet) (logs_of tablet)) all.0 all.1 in
    let files : stored ≡ parts.0 = told_is image known ground tablet.files stored parts.0 held parts.2 in
    let logged = mapped (clipped low tablet.end) (all_told (log_cells known tablet) (logs_of tablet)) mem.logged mem.told in
    let logs : logged.0 ≡ parts.1 = same_Some logged.0 parts.1 (sym logged.1 ∙ parts.3) in
    let own : (key : Key) → is_within low tablet.end key.row ≡ true → latest memory.cells key ≡ latest parts.1 key =
    λ key within. mem.latest_at key ∙ ap (λ l. latest l key) (sym logged.2) ∙ latest-clipped low tablet.end logged.0 key within ∙ ap (λ l. latest l key) logs in
    record {
      all = parts.0 ++ parts.1;
      content_is = ap (clipped low tablet.end) (sym parts.4) ∙ all.2;
      same = λ key within. latest-append stored memory.cells key ∙ (λ i. later (latest (files i) key) (own key within i)) ∙ sym (latest-append parts.0 parts.1 key);
    }

-- a scan gives the newest pairs of the tablet's content
pub newest_of_content : (image : Image) (known : Ground) (low : Option Bytes) (tablet : TabletRecord) (memory : Memory) (from to : Option Bytes) (pairs : List Pair) (content : List Cell) → IsGroundOf image known → IsMemoryOf known low tablet memory
    → content_of known low tablet ≡ Some content → IsScan image low tablet memory from to pairs → AreNewestWithin from to content pairs
newest_of_content image known low tablet memory from to pairs content ground mem e scan =
    let has = has_within image known low tablet memory scan.stored content ground mem e scan.files in
    subst (λ l. AreNewestWithin from to l pairs) has.content_is (newest_inside from to low tablet.end (scan.stored ++ memory.cells) has.all pairs (λ key near within. has.same key within) scan.newest)

-- the cells of a tablet have the latest ones of its content
pub latest_of_content : (image : Image) (known : Ground) (low : Option Bytes) (tablet : TabletRecord) (memory : Memory) (cells content : List Cell) → IsGroundOf image known → IsMemoryOf known low tablet memory
    → content_of known low tablet ≡ Some content → AreTabletCells image low tablet memory cells → HaveSameLatest cells content
latest_of_content image known low tablet memory cells content ground mem e is key =
    let has = has_within image known low tablet memory is.stored content ground mem e is.files in
    ap (λ l. latest l key) is.are ∙ by has (is_within low tablet.end key.row) refl ∙ ap (λ l. latest l key) has.content_is
  where
    by : (has : HasWithin low tablet (is.stored ++ memory.cells) content) (b : Bool) → is_within low tablet.end key.row ≡ b → latest (clipped low tablet.end (is.stored ++ memory.cells)) key ≡ latest (clipped low tablet.end has.all) key
    by has true within = latest-clipped low tablet.end (is.stored ++ memory.cells) key within ∙ has.same key within ∙ sym (latest-clipped low tablet.end has.all key within)
    by has false without = latest-clipped_outside low tablet.end (is.stored ++ memory.cells) key without ∙ sym (latest-clipped_outside low tablet.end has.all key without)

-- the same cells in another order have the same latest ones
pub same_latest : (a b : List Cell) → AreConsistent b → ((cell : Cell) → Contains a cell ↔ Contains b cell) → (key : Key) → latest a key ≡ latest b key
same_latest a b ok same key = sym (latest_by b key (latest a key) ok (by (latest a key) (latest_is a key)))
  where
    by : (o : Option Cell) → IsAnswer a key o → IsAnswer b key o
    by None none = λ other there at. none other ((same other).1 there) at
    by (Some cell) is = record { there = (same cell).0 is.there; at = is.at; last = λ other there at. is.last other ((same other).1 there) at }

pub memory_in_order : (known : Ground) (low : Option Bytes) (tablet : TabletRecord) (memory : Memory) (logged : List Cell) → memory_of known low tablet ≡ Some logged → AreConsistent logged → ((cell : Cell) → Contains memory.cells cell ↔ Contains logged cell) → IsMemoryOf known low tablet memory
memory_in_order known low tablet memory logged told ok same = record { logged = logged; told = told; latest_at = same_latest memory.cells logged ok same }
