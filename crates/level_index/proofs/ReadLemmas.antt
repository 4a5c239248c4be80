-- Pairs, row by row.
use Rattle.std.proofs.Common.{◌≡◌, ◌≢◌, inl, inr, ℕ, ◌<◌, length, drop, arith, length-append, Bool, true, false, cond, List, [], ◌∷◌, ◌++◌, map as mapped, Contains, Some, None, Ordering, Less, Equal, Greater, refl, sym, ◌∙◌, ap, subst, append_assoc}
use Rattle.std.specs.Prelude.{slice_get}
use Rattle.std.specs.FinMap as map
use Rattle.std.specs.FinMap.{get-empty}
use Rattle.std.specs.List.{AllByRecursion}
use Rattle.std.specs.List.Sorted.{IsStrictlySortedBy}
use Rattle.std.specs.Ordering.{eq_by_cmp, ordering_then, is_lt}
use Rattle.std.specs.Cmp.{eq_by_cmp_equiv}
use Rattle.std.specs.Cmp.Lexicographic.{nat_list_cmp_total}
use Rattle.std.proofs.lemmas.Bool.{false≢true}
use Rattle.std.proofs.lemmas.Option.{same_Some, none-some}
use Rattle.std.proofs.lemmas.List.{append-nil}
use Rattle.std.proofs.lemmas.List.Elements.{Contains-append_left, Contains-append_right, Contains-append_cases}
use Rattle.std.proofs.lemmas.Map.Lookups.{exact_bytes}
use Rattle.std.proofs.lemmas.Map.Views.{tells_apart}
use Rattle.row_keys.specs.declared.key.Key.{Key}
use Rattle.row_keys.specs.Keys.{key_cmp}
use Rattle.row_keys.specs.RowOrder.{bytes_cmp, is_below}
use Rattle.row_keys.proofs.RowOrderLemmas.{is_below-itself, is_below-trans}
use Rattle.cell_merge.specs.declared.cell.Cell.{Cell}
use Rattle.cell_merge.specs.declared.cell.Pair.{Pair}
use Rattle.cell_merge.specs.Newest.{IsNewest}
use Rattle.cell_merge.proofs.Membership.{Contains-nil, Contains-here, Contains-cons_cases}
use Rattle.cell_merge.proofs.RisingLemmas.{above_head, rising_tail}
use Rattle.node_store.specs.PathsTo.{path_cmp}
use Rattle.node_store.proofs.PathMaps.{get-with_entry}
use Rattle.store_meaning.specs.Levels.{SpellsRow}
use Rattle.state_reader.specs.declared.level.LevelKind.{LevelKind}
use Rattle.state_reader.specs.declared.level.LevelFault.{LevelFault}
use Rattle.state_reader.specs.LevelRows.{LevelCause}
use Rattle.state_reader.specs.Columns.{HasPair, AreInOrder}
use Rattle.state_reader.proofs.ColumnLemmas.{spells_in}
use Rattle.level_index.specs.declared.entry.LevelEntry.{LevelEntry}
use Rattle.level_index.specs.Entries.{Entries, LevelMap, StandsAt, IsRowOf, entry_columns}
use Rattle.level_index.specs.RowReads.{IsEntryIn, IsFirstRow, IsReadTo}
use Rattle.level_index.proofs.WithinLemmas.{within, spells-within, AreRowPairs, newest-within, cause-within}

-- ---- parts of pairs in order

abbrev keys : List Pair → List Key
keys pairs = mapped (λ (pair : Pair). pair.key) pairs

all_front : (P : Key → Type 0) (front back : List Pair) → AllByRecursion P (keys (front ++ back)) → AllByRecursion P (keys front)
all_front P [] back all = tt
all_front P (p ∷ ps) back all = (all.0, all_front P ps back all.1)

pub order_front : (front back : List Pair) → AreInOrder (front ++ back) → AreInOrder front
unfolding IsStrictlySortedBy
order_front [] back up = tt
order_front (p ∷ ps) back up = (all_front (λ k. key_cmp p.key k ≡ Less) ps back up.0, order_front ps back up.1)

pub order_back : (front back : List Pair) → AreInOrder (front ++ back) → AreInOrder back
order_back [] back up = up
order_back (p ∷ ps) back up = order_back ps back (rising_tail (λ (q : Pair). q.key) p (ps ++ back) up)

-- ---- rows rise with keys

-- a key above another has its row, or one above it
row_above : (a b : Key) → key_cmp a b ≡ Less → a.row ≢ b.row → is_below a.row b.row ≡ true
row_above a b less apart = by (bytes_cmp a.row b.row) refl less
  where
    by : (o : Ordering) → bytes_cmp a.row b.row ≡ o → ordering_then o (ordering_then (bytes_cmp a.family b.family) (bytes_cmp a.qualifier b.qualifier)) ≡ Less → is_below a.row b.row ≡ true
    by Less e is = ap is_lt e
    by Equal e is = absurd (apart (exact_bytes a.row b.row e))
    by Greater e is = absurd cc

row_no_lower : (row : List ℕ) (a b : Key) → is_below row a.row ≡ true → key_cmp a b ≡ Less → is_below row b.row ≡ true
row_no_lower row a b below less = by (bytes_cmp a.row b.row) refl less
  where
    by : (o : Ordering) → bytes_cmp a.row b.row ≡ o → ordering_then o (ordering_then (bytes_cmp a.family b.family) (bytes_cmp a.qualifier b.qualifier)) ≡ Less → is_below row b.row ≡ true
    by Less e is = is_below-trans row a.row b.row below (ap is_lt e)
    by Equal e is = subst (λ r. is_below row r ≡ true) (exact_bytes a.row b.row e) below
    by Greater e is = absurd cc

-- what follows a pair of another row is of other rows, too
past_row : (first next : Pair) (more : List Pair) → key_cmp first.key next.key ≡ Less → first.key.row ≢ next.key.row → AreInOrder (next ∷ more) → (q : Pair) → Contains (next ∷ more) q → q.key.row ≢ first.key.row
past_row first next more less apart up q there at =
    let below = row_above first.key next.key less apart in
    let far : is_below first.key.row q.key.row ≡ true = elim (Contains-cons_cases next q more there) [
      | inl is ↦ subst (λ (p : Pair). is_below first.key.row p.key.row ≡ true) is below
      | inr behind ↦ row_no_lower first.key.row next.key q.key below (above_head (λ (p : Pair). p.key) next q more up behind)
    ] in
    false≢true (sym (is_below-itself first.key.row) ∙ ap (is_below first.key.row) (sym at) ∙ far)

-- ---- the pairs of the first row are all of that row

module _ (first : Pair) (rest group more : List Pair) (up : AreInOrder (group ++ more)) (is : IsFirstRow first.key.row (first ∷ rest) group more) where
  more_apart : (q : Pair) → Contains more q → q.key.row ≢ first.key.row
  more_apart q there = by group more refl refl
    where
      in_order : (ms : List Pair) (m : Pair) → more ≡ m ∷ ms → AreInOrder (m ∷ ms)
      in_order ms m e = subst AreInOrder e (order_back group more up)

      by : (g m : List Pair) → group ≡ g → more ≡ m → q.key.row ≢ first.key.row
      by g [] e f = absurd (Contains-nil q (subst (λ (l : List Pair). Contains l q) f there))
      by [] (m ∷ ms) e f = absurd (
          let whole : first ∷ rest ≡ m ∷ ms = is.parts ∙ (λ i. e i ++ f i) in
          let firsts : first ≡ m = cc in
          is.next m ms f (ap (λ (p : Pair). p.key.row) (sym firsts)))
      by (g ∷ gs) (m ∷ ms) e f =
          let whole : first ∷ rest ≡ g ∷ (gs ++ m ∷ ms) = is.parts ∙ (λ i. e i ++ f i) in
          let firsts : first ≡ g = cc in
          let all : AreInOrder (g ∷ (gs ++ m ∷ ms)) = subst AreInOrder (λ i. e i ++ f i) up in
          let less = subst (λ (p : Pair). key_cmp p.key m.key ≡ Less) (sym firsts) (above_head (λ (p : Pair). p.key) g m (gs ++ m ∷ ms) all (Contains-append_right gs (m ∷ ms) m (Contains-here m ms))) in
          past_row first m ms less (λ rows. is.next m ms f (sym rows)) (in_order ms m f) q (subst (λ (l : List Pair). Contains l q) f there)

  first_there : Contains group first
  first_there = elim (Contains-append_cases group more first (subst (λ (l : List Pair). Contains l first) is.parts (Contains-here first rest))) [
    | inl front ↦ front
    | inr behind ↦ absurd (more_apart first behind refl)
  ]

-- ---- how far pairs have been gone through

-- these pairs are done, and the rest are of other rows
pub record IsDone (pairs done rest : List Pair) : Type 0 where
  pub parts : pairs ≡ done ++ rest
  pub apart : (p q : Pair) → Contains done p → Contains rest q → p.key.row ≢ q.key.row

-- the entries are what the cells tell of the rows that are done
pub record IsReading (kind : LevelKind) (pairs rest : List Pair) (entries : Entries) : Type 0 where
  pub done : List Pair
  pub is : IsDone pairs done rest
  pub read : (cells : List Cell) → IsNewest cells pairs → IsReadTo kind cells done entries

pub begun : (kind : LevelKind) (pairs rest : List Pair) (entries : Entries) → rest ≡ pairs → ((row : List ℕ) (entry : LevelEntry) → map.get entries row ≡ Some entry → ⊥) → IsReading kind pairs rest entries
begun kind pairs rest entries all none = record {
  done = [];
  is = record { parts = sym all; apart = λ p q there. absurd (Contains-nil p there) };
  read = λ cells newest. record {
    stands = λ row entry e. absurd (none row entry e);
    told = λ row entry e. absurd (none row entry e);
    none = λ row e has. absurd (Contains-nil has.pair has.there);
  };
}

pub ended : (kind : LevelKind) (pairs rest : List Pair) (entries : Entries) → rest ≡ [] → IsReading kind pairs rest entries → (cells : List Cell) → IsNewest cells pairs → IsReadTo kind cells pairs entries
ended kind pairs rest entries end reading cells newest =
    subst (λ (l : List Pair). IsReadTo kind cells l entries) (sym (reading.is.parts ∙ ap (λ (l : List Pair). reading.done ++ l) end ∙ append-nil reading.done)) (reading.read cells newest)

itself : (a b : List ℕ) → a ≡ b → eq_by_cmp path_cmp a b ≡ true
itself a b is = ap (eq_by_cmp path_cmp a) (sym is) ∙ (eq_by_cmp_equiv nat_list_cmp_total).refl a

module _ (kind : LevelKind) (pairs : List Pair) (up : AreInOrder pairs) (done rest : List Pair) (is : IsDone pairs done rest) (first : Pair) (behind group more : List Pair) (begins : rest ≡ first ∷ behind) (part : IsFirstRow first.key.row rest group more) where
  whole : pairs ≡ done ++ (group ++ more)
  whole = is.parts ∙ ap (λ (l : List Pair). done ++ l) part.parts

  rising : AreInOrder (group ++ more)
  rising = order_back done (group ++ more) (subst AreInOrder whole up)

  part_of : IsFirstRow first.key.row (first ∷ behind) group more
  part_of = subst (λ (l : List Pair). IsFirstRow first.key.row l group more) begins part

  pub group_order : AreInOrder group
  group_order = order_front group more rising

  pub group_has : HasPair group first.key.row
  group_has = record { pair = first; there = first_there first behind group more rising part_of; at = refl }

  pub group_pairs : AreRowPairs first.key.row pairs group
  group_pairs = record {
    rising = group_order;
    each = λ pair. (
      λ there. (subst (λ (l : List Pair). Contains l pair) (sym whole) (Contains-append_right done (group ++ more) pair (Contains-append_left group more pair there)), part.each pair there),
      λ both. elim (Contains-append_cases done (group ++ more) pair (subst (λ (l : List Pair). Contains l pair) whole both.0)) [
        | inl early ↦ absurd (is.apart pair first early (subst (λ (l : List Pair). Contains l first) (sym begins) (Contains-here first behind)) both.1)
        | inr late ↦ elim (Contains-append_cases group more pair late) [
          | inl here ↦ here
          | inr past ↦ absurd (more_apart first behind group more rising part_of pair past both.1)
        ]
      ],
    );
  }

  pub done_more : IsDone pairs (done ++ group) more
  done_more = record {
    parts = whole ∙ sym (append_assoc done group more);
    apart = λ p q there later. elim (Contains-append_cases done group p there) [
      | inl early ↦ is.apart p q early (subst (λ (l : List Pair). Contains l q) (sym part.parts) (Contains-append_right group more q later))
      | inr here ↦ λ rows. more_apart first behind group more rising part_of q later (sym rows ∙ part.each p here)
    ];
  }

  has_early : (at : List ℕ) → HasPair (done ++ group) at → at ≢ first.key.row → HasPair done at
  has_early at has apart = elim (Contains-append_cases done group has.pair has.there) [
    | inl early ↦ record { pair = has.pair; there = early; at = has.at }
    | inr here ↦ absurd (apart (sym has.at ∙ part.each has.pair here))
  ]

  -- a row of no such level
  pub read_none : (entries : Entries) → (IsRowOf kind first.key.row → ⊥) → (cells : List Cell) → IsReadTo kind cells done entries → IsReadTo kind cells (done ++ group) entries
  read_none entries no_row cells read = record {
    stands = read.stands;
    told = read.told;
    none = λ at e has of. elim (Contains-append_cases done group has.pair has.there) [
      | inl early ↦ read.none at e (record { pair = has.pair; there = early; at = has.at }) of
      | inr here ↦ no_row (subst (IsRowOf kind) (sym has.at ∙ part.each has.pair here) of)
    ];
  }

  -- a row with an entry
  pub read_entry : (entries : Entries) (entry : LevelEntry) → IsEntryIn kind group first.key.row entry → (cells : List Cell) → IsNewest cells pairs → IsReadTo kind cells done entries
      → IsReadTo kind cells (done ++ group) (map.insert entries first.key.row entry)
  read_entry entries entry found cells newest read = record {
    stands = λ at e is_at. stands at e (eq_by_cmp path_cmp at first.key.row) refl (looked at e is_at);
    told = λ at e is_at. told at e (eq_by_cmp path_cmp at first.key.row) refl (looked at e is_at);
    none = λ at is_at has of. none at (eq_by_cmp path_cmp at first.key.row) refl (sym (get-with_entry entries first.key.row (Some entry) at) ∙ is_at) has of;
  }
    where
      looked : (at : List ℕ) (e : LevelEntry) → map.get (map.insert entries first.key.row entry) at ≡ Some e → cond (eq_by_cmp path_cmp at first.key.row) (Some entry) (map.get entries at) ≡ Some e
      looked at e is_at = sym (get-with_entry entries first.key.row (Some entry) at) ∙ is_at

      spelled : SpellsRow cells first.key.row (entry_columns entry)
      spelled = (spells-within first.key.row cells (entry_columns entry)).0
          (subst (SpellsRow (within first.key.row cells) first.key.row) found.columns (spells_in (within first.key.row cells) group (newest-within first.key.row cells pairs group newest group_pairs) first.key.row))

      stands : (at : List ℕ) (e : LevelEntry) (b : Bool) → eq_by_cmp path_cmp at first.key.row ≡ b → cond b (Some entry) (map.get entries at) ≡ Some e → StandsAt kind at e
      stands at e true here is_at = subst (λ r. StandsAt kind r e) (sym (tells_apart exact_bytes at first.key.row here)) (subst (StandsAt kind first.key.row) (same_Some entry e is_at) found.stands)
      stands at e false here is_at = read.stands at e is_at

      told : (at : List ℕ) (e : LevelEntry) (b : Bool) → eq_by_cmp path_cmp at first.key.row ≡ b → cond b (Some entry) (map.get entries at) ≡ Some e → SpellsRow cells at (entry_columns e)
      told at e true here is_at = subst (λ r. SpellsRow cells r (entry_columns e)) (sym (tells_apart exact_bytes at first.key.row here)) (subst (λ x. SpellsRow cells first.key.row (entry_columns x)) (same_Some entry e is_at) spelled)
      told at e false here is_at = read.told at e is_at

      none : (at : List ℕ) (b : Bool) → eq_by_cmp path_cmp at first.key.row ≡ b → cond b (Some entry) (map.get entries at) ≡ None → HasPair (done ++ group) at → IsRowOf kind at → ⊥
      none at true here is_at has of = none-some entry (sym is_at)
      none at false here is_at has of = read.none at is_at (has_early at has (λ rows. false≢true (sym here ∙ itself at first.key.row rows))) of
