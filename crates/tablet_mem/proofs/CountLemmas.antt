-- Cells that are ready, as they are put one after another.
use Rattle.std.proofs.Common.{◌≡◌, ◌∙◌, ◌+◌, ◌≤◌, ◌<◌, List, [], ◌∷◌, ◌++◌, length, length-append, append_assoc, append-nil, map, All, refl, sym, ap, subst, arith}
use Rattle.std.specs.Prelude.{vec_capacity}
use Rattle.std.specs.BTreeMap.{ContainsKey}
use Rattle.std.proofs.lemmas.List.Elements.{All-head, All-tail, All-weaker, All-map, All-from_recursion}
use Rattle.std.specs.List.{AllByRecursion}
use Rattle.cell_merge.specs.declared.cell.Cell.{Cell}
use Rattle.tablet_mem.specs.declared.spot.Spot.{Spot}
use Rattle.tablet_mem.specs.declared.ready.Ready.{Ready}
use Rattle.tablet_mem.specs.declared.unflushed.Unflushed.{Unflushed}
use Rattle.tablet_mem.specs.Index.{Places, spot_cmp, IsIndexOf}
use Rattle.tablet_mem.specs.Room.{IsReady, HasRoom, ready_of, cells_of}

-- of all cells that were ready, the rest is left, and there is room for it
pub record IsCounting (was now : Unflushed) (all rest : List Ready) : Type 0 where
  pub room : length now.cells.items + length rest ≤ vec_capacity now.cells
  pub each : All (IsReady now.places) rest
  pub cells : now.cells.items ++ cells_of rest ≡ was.cells.items ++ cells_of all
  pub index : IsIndexOf was.cells.items was.places → IsIndexOf now.cells.items now.places

pub counting-begins : (was : Unflushed) (all : List Ready) → HasRoom was all → IsCounting was was all all
counting-begins was all has = record { room = has.room; each = has.each; cells = refl; index = λ index. index }

pub counting-step : (was now next : Unflushed) (all rest : List Ready) (one : Ready) → IsCounting was now all (one ∷ rest) → next.cells.items ≡ now.cells.items ++ one.cell ∷ []
    → vec_capacity now.cells ≤ vec_capacity next.cells → ((other : Spot) → ContainsKey spot_cmp now.places other → ContainsKey spot_cmp next.places other)
    → (IsIndexOf now.cells.items now.places → IsIndexOf (now.cells.items ++ one.cell ∷ []) next.places) → IsCounting was next all rest
counting-step was now next all rest one counting put larger kept index = record {
  room =
      let room = counting.room in
      let long : length next.cells.items ≡ length now.cells.items + 1 = ap length put ∙ length-append now.cells.items (one.cell ∷ []) in
      omega arith;
  each = All-weaker (IsReady now.places) (IsReady next.places) (λ other ready. record { own = ready.own; placed = kept other.spot ready.placed }) rest (All-tail (IsReady now.places) one rest counting.each);
  cells = ap (λ (l : List Cell). l ++ cells_of rest) put ∙ append_assoc now.cells.items (one.cell ∷ []) (cells_of rest) ∙ counting.cells;
  index = λ was_index. subst (λ (l : List Cell). IsIndexOf l next.places) (sym put) (index (counting.index was_index));
}

pub counting-room : (was now : Unflushed) (all rest : List Ready) (one : Ready) → IsCounting was now all (one ∷ rest) → length now.cells.items < vec_capacity now.cells
counting-room was now all rest one counting = let room = counting.room in omega arith

pub counting-ready : (was now : Unflushed) (all rest : List Ready) (one : Ready) → IsCounting was now all (one ∷ rest) → IsReady now.places one
counting-ready was now all rest one counting = All-head (IsReady now.places) one rest counting.each

pub counting-cells : (was now : Unflushed) (all : List Ready) → IsCounting was now all [] → now.cells.items ≡ was.cells.items ++ cells_of all
counting-cells was now all counting = sym (append-nil now.cells.items) ∙ counting.cells

-- cells with their spots are ready where those stand in the index
pub ready_all : (m : Places) (cells : List Cell) → All (λ (one : Ready). ContainsKey spot_cmp m one.spot) (map ready_of cells) → All (IsReady m) (map ready_of cells)
ready_all m cells placed = All-map (IsReady m) ready_of cells (All-from_recursion (λ c. IsReady m (ready_of c)) cells (by cells placed))
  where
    by : (cs : List Cell) → All (λ (one : Ready). ContainsKey spot_cmp m one.spot) (map ready_of cs) → AllByRecursion (λ c. IsReady m (ready_of c)) cs
    by [] all = tt
    by (c ∷ cs) all = (record { own = refl; placed = All-head (λ (one : Ready). ContainsKey spot_cmp m one.spot) (ready_of c) (map ready_of cs) all }, by cs (All-tail (λ (one : Ready). ContainsKey spot_cmp m one.spot) (ready_of c) (map ready_of cs) all))

pub cells-ready : (cells : List Cell) → cells_of (map ready_of cells) ≡ cells
cells-ready [] = refl
cells-ready (c ∷ cs) = ap (λ l. c ∷ l) (cells-ready cs)

pub no_items : {X : Type 0} (xs : List X) → length xs ≡ 0 → xs ≡ []
no_items [] e = refl
no_items (x ∷ xs) e = absurd (omega arith)

-- the cells that were there, and those of the mutation
pub put-items : (was made now fresh : List Cell) (ready : List Ready) → now ≡ made ++ cells_of ready → made ≡ was → ready ≡ map ready_of fresh → now ≡ was ++ fresh
put-items was made now fresh ready put same is =
    put ∙ ap (λ (l : List Cell). l ++ cells_of ready) same ∙ ap (λ (l : List Ready). was ++ cells_of l) is ∙ ap (λ (l : List Cell). was ++ l) (cells-ready fresh)
