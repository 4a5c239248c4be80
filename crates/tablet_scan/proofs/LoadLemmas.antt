-- The times of files, and the memory that is loaded.
use Rattle.std.proofs.Common.{◌≡◌, inl, inr, ℕ, suc, ◌+◌, ◌^◌, ◌<◌, ◌≤◌, max, Bool, true, false, cond, List, [], ◌∷◌, ◌++◌, map, length, take, drop, get_or, All, Contains, Option, Some, None, IsTrue, refl, sym, ◌∙◌, ap, subst, arith, ltb, append_assoc, append-nil}
use Rattle.std.specs.Prelude.{is_none}
use Rattle.std.specs.List.{filter, flat_map}
use Rattle.std.proofs.Math.Nat.{max-eq_left, max-eq_right}
use Rattle.std.proofs.lemmas.Bool.{ltb-true, ltb-false, and_parts, and_from}
use Rattle.std.proofs.lemmas.List.Elements.{All-append, All-nil, All-cons, All-head, All-tail, All-weaker, All-contains, All-contains_itself, Contains-append_left, Contains-append_right, Contains-append_cases, filter-append}
use Rattle.host_model.specs.Picture.{Image}
use Rattle.host_model.specs.State.{HostState}
use Rattle.host_model.specs.Calls.{Keeps}
use Rattle.host_model.specs.declared.fault.Stop.{Stop}
use Rattle.row_keys.specs.RowOrder.{is_within}
use Rattle.metadata_schema.specs.declared.mutation.Mutation.{Mutation}
use Rattle.metadata_schema.specs.declared.tablet.FileEntry.{FileEntry}
use Rattle.metadata_schema.specs.declared.tablet.TabletRecord.{TabletRecord}
use Rattle.cell_merge.specs.declared.cell.Cell.{Cell}
use Rattle.cell_merge.specs.Newest.{Bytes, clipped}
use Rattle.cell_merge.specs.Changes.{AreConsistent}
use Rattle.cell_merge.proofs.Membership.{Contains-nil, Contains-here, Contains-there, Contains-cons_cases, Contains-filter, Contains-in_filter}
use Rattle.data_files.specs.Cells.{FitsCell}
use Rattle.data_files.specs.Files.{HoldsCells, ReadCause, greatest_time}
use Rattle.data_files.proofs.FileLemmas.{one_list}
use Rattle.store_layout.specs.Names.{file_of}
use Rattle.tablet_mem.specs.Memory.{Memory, started, put_all, next_time}
use Rattle.tablet_mem.specs.Times.{IsGreatestOf}
use Rattle.tablet_mem.proofs.LawsLemmas.{clock-greatest, cells-all}
use Rattle.store_meaning.specs.Ground.{Ground}
use Rattle.store_meaning.specs.Content.{all_told, log_cells, logs_of, timed, counts_for, cells_of_mutation}
use Rattle.store_meaning.specs.Flushes.{memory_of}
use Rattle.store_meaning.specs.Writes.{counts_in}
use Rattle.store_meaning.proofs.AgreeLemmas.{one_file}
use Rattle.store_meaning.proofs.ContentLemmas.{mapped, of_mutation, logs_have, in_logs}
use Rattle.store_meaning.proofs.MemberLemmas.{Contains-map, Contains-in_map, Contains-flat_map, Contains-in_flat_map}
use Rattle.tablet_scan.specs.Files.{HoldsTimed, HoldAll, IsBad, IsFirstBad, FilesCause}
use Rattle.tablet_scan.specs.Scans.{IsMemoryOf}
use Rattle.tablet_scan.specs.Times.{HasTimes, HaveTimes, IsGreatestIn, has_no_time, untimed, IsLoaded, AreInLogs}
use Rattle.tablet_scan.proofs.FilesLemmas.{next_take, parted, stop_of_file}
use Rattle.tablet_scan.proofs.ScanLemmas.{memory_in_order}

-- ---- the greatest time

greatest-append : (xs ys : List ℕ) (a b : ℕ) → IsGreatestOf (0 ∷ xs) a → IsGreatestOf (0 ∷ ys) b → IsGreatestOf (0 ∷ (xs ++ ys)) (max a b)
greatest-append xs ys a b one two = by (ltb a b) refl
  where
    up_to : (m : ℕ) → a ≤ m → b ≤ m → All (λ other. other ≤ m) (0 ∷ (xs ++ ys))
    up_to m le ge = All-append (λ other. other ≤ m) (0 ∷ xs) ys
        (All-weaker (λ other. other ≤ a) (λ other. other ≤ m) (λ x h. omega (arith, h, le)) (0 ∷ xs) one.last)
        (All-weaker (λ other. other ≤ b) (λ other. other ≤ m) (λ x h. omega (arith, h, ge)) ys (All-tail (λ other. other ≤ b) 0 ys two.last))

    by : (t : Bool) → ltb a b ≡ t → IsGreatestOf (0 ∷ (xs ++ ys)) (max a b)
    by true e =
        let lt = ltb-true a b e in
        let le : a ≤ b = omega (arith, lt) in
        subst (IsGreatestOf (0 ∷ (xs ++ ys))) (sym (max-eq_right le)) (record {
          there = elim (Contains-cons_cases 0 b ys two.there) [
            | inl is ↦ subst (Contains (0 ∷ (xs ++ ys))) is (Contains-here 0 (xs ++ ys))
            | inr rest ↦ Contains-there 0 b (xs ++ ys) (Contains-append_right xs ys b rest)
          ];
          last = up_to b le (omega arith);
        })
    by false e =
        let le = ltb-false a b e in
        subst (IsGreatestOf (0 ∷ (xs ++ ys))) (sym (max-eq_left le)) (record { there = Contains-append_left (0 ∷ xs) ys a one.there; last = up_to a (omega arith) le })

alone : (time : ℕ) → IsGreatestOf (0 ∷ time ∷ []) time
alone time = record {
  there = Contains-there 0 time (time ∷ []) (Contains-here time []);
  last = All-cons (λ other. other ≤ time) 0 (time ∷ []) (omega arith) (All-cons (λ other. other ≤ time) time [] (omega arith) (All-nil (λ other. other ≤ time)));
}

of_cells : (cells : List Cell) → IsGreatestOf (0 ∷ map (λ (cell : Cell). cell.time) cells) (greatest_time cells)
of_cells [] = record { there = Contains-here 0 []; last = All-cons (λ other. other ≤ 0) 0 [] (omega arith) (All-nil (λ other. other ≤ 0)) }
of_cells (cell ∷ cells) = greatest-append (cell.time ∷ []) (map (λ (c : Cell). c.time) cells) cell.time (greatest_time cells) (alone cell.time) (of_cells cells)

pub greatest_none : (image : Image) → IsGreatestIn image [] 0
greatest_none image = record { times = []; are = refl; is = of_cells [] }

-- a file whose column has a time
pub greatest_timed : (image : Image) (file : FileEntry) (time : ℕ) → file.time ≡ Some time → IsGreatestIn image (file ∷ []) time
greatest_timed image file time e = record {
  times = time ∷ [];
  are = (time ∷ [], [], subst (λ t. HasTimes image (file_of file.path) t (time ∷ [])) (sym e) refl, refl, refl);
  is = alone time;
}

-- a file that is read
pub greatest_read : (image : Image) (file : FileEntry) (cells : List Cell) → file.time ≡ None → HoldsCells (file_of file.path) cells image → IsGreatestIn image (file ∷ []) (greatest_time cells)
greatest_read image file cells e holds = record {
  times = times;
  are = (times, [], subst (λ t. HasTimes image (file_of file.path) t times) (sym e) (cells, holds, refl), refl, sym (append-nil times));
  is = of_cells cells;
}
  where
    times : List ℕ
    times = map (λ (c : Cell). c.time) cells

pub fits_cells : (cells : List Cell) → All FitsCell cells → greatest_time cells < 2 ^ 63
fits_cells [] all = omega arith
fits_cells (cell ∷ cells) all =
    let one = (All-head FitsCell cell cells all).time in
    let rest = fits_cells cells (All-tail FitsCell cell cells all) in
    omega (arith, one, rest)

times_append : (image : Image) (xs ys : List FileEntry) (ts us : List ℕ) → HaveTimes image xs ts → HaveTimes image ys us → HaveTimes image (xs ++ ys) (ts ++ us)
times_append image [] ys ts us none more = subst (λ l. HaveTimes image ys (l ++ us)) (sym none) more
times_append image (x ∷ xs) ys ts us all more = (all.0, all.1 ++ us, all.2, times_append image xs ys all.1 us all.3 more, ap (λ l. l ++ us) all.4 ∙ append_assoc all.0 all.1 us)

pub greatest_more : (image : Image) (files : List FileEntry) (i : ℕ) (x : FileEntry) → i < length files → x ≡ get_or files i x → (a b : ℕ) → IsGreatestIn image (take i files) a → IsGreatestIn image (x ∷ []) b → IsGreatestIn image (take (i + 1) files) (max a b)
greatest_more image files i x lt at a b one two = subst (λ l. IsGreatestIn image l (max a b)) (sym (next_take image files i x lt at)) (record {
  times = one.times ++ two.times;
  are = times_append image (take i files) (x ∷ []) one.times two.times one.are two.are;
  is = greatest-append one.times two.times a b one.is two.is;
})

-- the time of a cell of a file is one of those that count
of_times : (image : Image) (file : FileEntry) (times : List ℕ) (cells : List Cell) → HasTimes image (file_of file.path) file.time times → HoldsTimed image file cells → (cell : Cell) → Contains cells cell → Contains times cell.time
of_times image file times cells has held cell there = by file.time refl
  where
    stored : (x : Cell) × Contains held.stored x × (timed file.time x ≡ cell)
    stored = Contains-map (timed file.time) held.stored cell (subst (λ l. Contains l cell) held.are there)

    by : (t : Option ℕ) → file.time ≡ t → Contains times cell.time
    by None e =
        let own = subst (λ t. HasTimes image (file_of file.path) t times) e has in
        let same : held.stored ≡ own.0 = one_file one_list (file_of file.path) image held.stored own.0 held.holds own.1 in
        let is : stored.0 ≡ cell = ap (λ t. timed t stored.0) (sym e) ∙ stored.2 in
        subst (λ l. Contains l cell.time) (sym own.2)
        (subst (λ (c : Cell). Contains (map (λ (d : Cell). d.time) own.0) c.time) is (Contains-in_map (λ (d : Cell). d.time) own.0 stored.0 (subst (λ l. Contains l stored.0) same stored.1)))
    by (Some time) e =
        let own = subst (λ t. HasTimes image (file_of file.path) t times) e has in
        let is : time ≡ cell.time = ap (λ (c : Cell). c.time) (ap (λ t. timed t stored.0) (sym e) ∙ stored.2) in
        subst (λ l. Contains l cell.time) (sym own) (subst (Contains (time ∷ [])) is (Contains-here time []))

times_of_all : (image : Image) (files : List FileEntry) (times : List ℕ) (cells : List Cell) → HaveTimes image files times → HoldAll image files cells → (cell : Cell) → Contains cells cell → Contains times cell.time
times_of_all image [] times cells have all cell there = absurd (Contains-nil cell (subst (λ l. Contains l cell) all there))
times_of_all image (file ∷ more) times cells have all cell there =
    subst (λ l. Contains l cell.time) (sym have.4) (elim (Contains-append_cases all.0 all.1 cell (subst (λ l. Contains l cell) all.4 there)) [
      | inl front ↦ Contains-append_left have.0 have.1 cell.time (of_times image file have.0 all.0 have.2 all.2 cell front)
      | inr back ↦ Contains-append_right have.0 have.1 cell.time (times_of_all image more have.1 all.1 have.3 all.3 cell back)
    ])

-- no cell of the files is later
pub none_later : (image : Image) (files : List FileEntry) (greatest : ℕ) → IsGreatestIn image files greatest → (cells : List Cell) → HoldAll image files cells → All (λ cell. cell.time ≤ greatest) cells
none_later image files greatest is cells all =
    All-weaker (Contains cells) (λ cell. cell.time ≤ greatest) (λ cell there. All-contains (λ other. other ≤ greatest) (0 ∷ is.times) cell.time is.is.last (Contains-there 0 cell.time is.times (times_of_all image files is.times cells is.are all cell there))) cells (All-contains_itself cells)

-- ---- why not all times are known

untimed_held : (image : Image) (files : List FileEntry) (times : List ℕ) → HaveTimes image files times → (cells : List Cell) × HoldAll image (untimed files) cells
untimed_held image [] times have = ([], refl)
untimed_held image (x ∷ xs) times have = by x.time refl (untimed_held image xs have.1 have.3)
  where
    by : (t : Option ℕ) → x.time ≡ t → ((cells : List Cell) × HoldAll image (untimed xs) cells) → (cells : List Cell) × HoldAll image (untimed (x ∷ xs)) cells
    by None e rest =
        let own = subst (λ t. HasTimes image (file_of x.path) t have.0) e have.2 in
        let front = map (timed x.time) own.0 in
        subst (λ b. (cells : List Cell) × HoldAll image (cond b (x ∷ untimed xs) (untimed xs)) cells) (sym (ap is_none e))
        (front ++ rest.0, (front, rest.0, record { stored = own.0; holds = own.1; are = refl }, rest.1, refl))
    by (Some time) e rest = subst (λ b. (cells : List Cell) × HoldAll image (cond b (x ∷ untimed xs) (untimed xs)) cells) (sym (ap is_none e)) rest

-- why reading one of them stopped is why reading those without a time stopped
pub stop_untimed : (files : List FileEntry) (i : ℕ) (x : FileEntry) → i < length files → x ≡ get_or files i x → (greatest : ℕ) (stop : Stop) (a b c : HostState) → Keeps a b → (IsTrue a.is_faithful → b.files ≡ a.files) → (IsTrue a.is_faithful → IsGreatestIn a.files (take i files) greatest)
    → x.time ≡ None → ReadCause (file_of x.path) stop b c → FilesCause (untimed files) stop a c
stop_untimed files i x lt at greatest stop a b c keeps same so_far none cause = stop_of_file (untimed files) x stop a b c keeps same (x, Contains-in_filter has_no_time files x (i, lt, sym at) (ap is_none none), refl) first cause
  where
    are : untimed files ≡ untimed (take i files) ++ x ∷ untimed (drop (suc i) files)
    are =
        ap untimed (parted a.files files i x lt at) ∙ filter-append has_no_time (take i files) (x ∷ drop (suc i) files)
        ∙ ap (λ (b : Bool). untimed (take i files) ++ cond b (x ∷ untimed (drop (suc i) files)) (untimed (drop (suc i) files))) (ap is_none none)

    first : IsTrue a.is_faithful → IsBad a.files x → IsFirstBad a.files (untimed files) (file_of x.path)
    first f bad =
        let before = so_far f in
        let held = untimed_held a.files (take i files) before.times before.are in
        record { front = untimed (take i files); file = x; back = untimed (drop (suc i) files); are = are; cells = held.0; before = held.1; bad = bad; named = refl }

-- ---- the memory that is loaded

module _ (state : HostState) (low : Option Bytes) (tablet : TabletRecord) (mutations : List Mutation) (memory : Memory) (is : IsLoaded state low tablet mutations memory) where
  -- the next time is past the times of the files
  pub past_files : IsTrue state.is_faithful → (cells : List Cell) → HoldAll state.files tablet.files cells → All (λ cell. cell.time < next_time memory) cells
  past_files f cells all =
      let clock_now = (put_all (started tablet.time is.greatest) (filter (counts_in low tablet) mutations)).clock in
      let times = map (λ (m : Mutation). m.time) (filter (counts_in low tablet) mutations) in
      let later = (clock-greatest tablet.time is.greatest (filter (counts_in low tablet) mutations)).last in
      let reached = All-head (λ other. other ≤ clock_now) is.greatest times (All-tail (λ other. other ≤ clock_now) tablet.time (is.greatest ∷ times) later) in
      let clock = ap (λ (m : Memory). m.clock) is.is in
      All-weaker (λ cell. cell.time ≤ is.greatest) (λ cell. cell.time < next_time memory) (λ cell le. omega (arith, le, reached, clock)) cells (none_later state.files tablet.files is.greatest (is.of_files f) cells all)

  cells_are : memory.cells ≡ flat_map cells_of_mutation (filter (counts_in low tablet) mutations)
  cells_are = ap (λ (m : Memory). m.cells) is.is ∙ cells-all (started tablet.time is.greatest) (filter (counts_in low tablet) mutations)

  -- it is the tablet's memory
  pub loaded_memory : (known : Ground) (logged : List Cell) → memory_of known low tablet ≡ Some logged → AreConsistent logged → AreInLogs known low tablet mutations → IsMemoryOf known low tablet memory
  loaded_memory known logged told ok are = memory_in_order known low tablet memory logged told ok (λ cell. (out cell, back cell))
    where
      inside : Cell → Bool
      inside cell = is_within low tablet.end cell.key.row

      all : (cells : List Cell) × (all_told (log_cells known tablet) (logs_of tablet) ≡ Some cells) × (clipped low tablet.end cells ≡ logged)
      all = mapped (clipped low tablet.end) (all_told (log_cells known tablet) (logs_of tablet)) logged told

      out : (cell : Cell) → Contains memory.cells cell → Contains logged cell
      out cell there =
          let w = Contains-flat_map cells_of_mutation (filter (counts_in low tablet) mutations) cell (subst (λ l. Contains l cell) cells_are there) in
          let f = Contains-filter (counts_in low tablet) mutations w.0 w.1 in
          let l = (are.each w.0 f.1).0 f.0 in
          let parts = and_parts (counts_for tablet w.0) (is_within low tablet.end w.0.row) f.1 in
          let row = (of_mutation w.0 cell w.2).0 in
          subst (λ l. Contains l cell) all.2 (Contains-in_filter inside all.0 cell
          (in_logs known tablet all.0 all.1 cell (record { log = l.log; of = l.of; mutations = l.mutations; told = l.told; mutation = w.0; there = l.there; counts = parts.0; writes = w.2 }))
          (ap (is_within low tablet.end) row ∙ parts.1))

      back : (cell : Cell) → Contains logged cell → Contains memory.cells cell
      back cell there =
          let f = Contains-filter inside all.0 cell (subst (λ l. Contains l cell) (sym all.2) there) in
          let l = logs_have known tablet all.0 all.1 cell f.0 in
          let row = (of_mutation l.mutation cell l.writes).0 in
          let counts = and_from (counts_for tablet l.mutation) (is_within low tablet.end l.mutation.row) l.counts (ap (is_within low tablet.end) (sym row) ∙ f.1) in
          let stands = (are.each l.mutation counts).1 (record { log = l.log; of = l.of; mutations = l.mutations; told = l.told; there = l.there }) in
          subst (λ l. Contains l cell) (sym cells_are) (Contains-in_flat_map cells_of_mutation (filter (counts_in low tablet) mutations) l.mutation cell (Contains-in_filter (counts_in low tablet) mutations l.mutation stands counts) l.writes)
