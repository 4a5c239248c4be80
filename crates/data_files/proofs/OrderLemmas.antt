-- Cells that come one after another in key order, and their times.
use Rattle.std.proofs.Common.{◌≡◌, inl, inr, ◌↔◌, ℕ, zero, suc, ◌-◌, ◌^◌, ◌<◌, max, List, [], ◌∷◌, ◌++◌, length, Contains, All, map, Some, None, Bool, IsTrue, true, refl, sym, ◌∙◌, ap, subst, arith}
use Rattle.std.specs.List.{AllByRecursion, slice_get}
use Rattle.std.specs.List.Sorted.{IsStrictlySortedBy}
use Rattle.std.specs.Ordering.{is_lt, nat_cmp, ord_max, is_some_and, partial_ordering_then}
use Rattle.std.specs.Cmp.{Some-then}
use Rattle.row_keys.specs.RowOrder.{bytes_cmp}
use Rattle.std.specs.declared.cmp.Ordering.{Ordering}
use Rattle.std.specs.declared.cmp.Ordering.TheVariants.{Less, Equal, Greater}
use Rattle.std.proofs.lemmas.Option.{slice_get-get_or, slice_get_within}
use Rattle.std.proofs.lemmas.Bool.Decides.{nat_tests}
use Rattle.std.proofs.lemmas.List.Elements.{All-nil, All-head, All-tail, Contains-push, Contains-push_cases}
use Rattle.row_keys.specs.declared.key.Key.{Key}
use Rattle.row_keys.specs.Keys.{key_cmp}
use Rattle.cell_merge.specs.declared.cell.Cell.{Cell}
use Rattle.cell_merge.specs.Newest.{HaveRisingKeys}
use Rattle.cell_merge.proofs.KeyLemmas.{key_cmp_total}
use Rattle.cell_merge.proofs.Membership.{Contains-nil, Contains-here, Contains-there, Contains-cons_cases}
use Rattle.data_files.specs.Cells.{FitsCell, AreFileCells}
use Rattle.data_files.specs.Files.{greatest_time}

abbrev key_of : Cell → Key
key_of cell = cell.key

below_all : (k : Key) (xs : List Cell) (c : Cell) → AllByRecursion (λ other. key_cmp k other ≡ Less) (map key_of xs) → key_cmp k c.key ≡ Less → AllByRecursion (λ other. key_cmp k other ≡ Less) (map key_of (xs ++ c ∷ []))
below_all k [] c all less = (less, tt)
below_all k (x ∷ xs) c all less = (all.0, below_all k xs c all.1 less)

pub rising-none : HaveRisingKeys []
unfolding IsStrictlySortedBy
rising-none = tt

pub are_none : AreFileCells []
are_none = record { each = All-nil FitsCell; rising = rising-none }

-- a cell above them all
pub rising-push : (cells : List Cell) (c : Cell) → HaveRisingKeys cells → ((x : Cell) → Contains cells x → key_cmp x.key c.key ≡ Less) → HaveRisingKeys (cells ++ c ∷ [])
unfolding IsStrictlySortedBy
rising-push [] c up above = (tt, tt)
rising-push (x ∷ xs) c up above = (below_all x.key xs c up.0 (above x (Contains-here x xs)), rising-push xs c up.1 (λ y there. above y (Contains-there x y xs there)))

-- what stands behind is above
pub rising-below : (cells : List Cell) (c : Cell) (more : List Cell) → HaveRisingKeys (cells ++ c ∷ more) → (x : Cell) → Contains cells x → key_cmp x.key c.key ≡ Less
unfolding IsStrictlySortedBy
rising-below [] c more up x there = absurd (Contains-nil x there)
rising-below (y ∷ ys) c more up x there = elim (Contains-cons_cases y x ys there) [
  | inl is ↦ subst (λ (z : Cell). key_cmp z.key c.key ≡ Less) is (head ys up.0)
  | inr rest ↦ rising-below ys c more up.1 x rest
]
  where
    head : (zs : List Cell) → AllByRecursion (λ other. key_cmp y.key other ≡ Less) (map key_of (zs ++ c ∷ more)) → key_cmp y.key c.key ≡ Less
    head [] all = all.0
    head (z ∷ zs) all = head zs all.1

below_front : (k : Key) (xs more : List Cell) → AllByRecursion (λ other. key_cmp k other ≡ Less) (map key_of (xs ++ more)) → AllByRecursion (λ other. key_cmp k other ≡ Less) (map key_of xs)
below_front k [] more all = tt
below_front k (x ∷ xs) more all = (all.0, below_front k xs more all.1)

-- a front rises too
pub rising-front : (cells more : List Cell) → HaveRisingKeys (cells ++ more) → HaveRisingKeys cells
unfolding IsStrictlySortedBy
rising-front [] more up = tt
rising-front (x ∷ xs) more up = (below_front x.key xs more up.0, rising-front xs more up.1)

-- the last one, and those before it
pub last-split : {X : Type 0} (xs : List X) (n : ℕ) (x : X) → length xs ≡ suc n → slice_get xs n ≡ Some x → (front : List X) × (xs ≡ front ++ x ∷ [])
last-split [] n x long is = absurd (omega arith)
last-split (y ∷ []) zero x long is = ([], let same : y ≡ x = cc in λ i. same i ∷ [])
last-split (y ∷ z ∷ zs) zero x long is = absurd (omega arith)
last-split (y ∷ ys) (suc n) x long is =
    let r = last-split ys n x (omega arith) is in
    (y ∷ r.0, ap (λ l. y ∷ l) r.1)

lt-less : (o : Ordering) → is_lt o ≡ true → o ≡ Less
lt-less Less e = refl
lt-less Equal e = cc
lt-less Greater e = cc

-- above the last one, above all
above_last : (front : List Cell) (last c : Cell) → HaveRisingKeys (front ++ last ∷ []) → key_cmp last.key c.key ≡ Less → (x : Cell) → Contains (front ++ last ∷ []) x → key_cmp x.key c.key ≡ Less
above_last front last c up less x there = elim (Contains-push_cases front last x there) [
  | inl before ↦ key_cmp_total.trans x.key last.key c.key (rising-below front last [] up x before) less
  | inr is ↦ subst (λ (z : Cell). key_cmp z.key c.key ≡ Less) is less
]

pub follows_last : (cells : List Cell) (last c : Cell) (b : Bool) → HaveRisingKeys cells → Some last ≡ slice_get cells (length cells - 1) → b ≡ is_lt (key_cmp last.key c.key) → IsTrue b ↔ HaveRisingKeys (cells ++ c ∷ [])
follows_last cells last c b up is said =
    let r = last-split cells (length cells - 1) last (let within = slice_get_within cells (length cells - 1) last (sym is) in omega arith) (sym is) in (
      λ t.
          let less = lt-less (key_cmp last.key c.key) (sym said ∙ t) in
          rising-push cells c up (λ x there. above_last r.0 last c (subst HaveRisingKeys r.1 up) less x (subst (λ (l : List Cell). Contains l x) r.1 there)),
      λ rises. said ∙ ap is_lt (rising-below cells c [] rises last (subst (λ (l : List Cell). Contains l last) (sym r.1) (Contains-push r.0 last))),
    )

pub follows_none : (cells : List Cell) (c : Cell) → None ≡ slice_get cells (length cells - 1) → (b : Bool) → IsTrue b → IsTrue b ↔ HaveRisingKeys (cells ++ c ∷ [])
unfolding IsStrictlySortedBy
follows_none [] c is b t = (λ u. (tt, tt), λ rises. t)
follows_none (x ∷ xs) c is b t = absurd (let there = slice_get-get_or (x ∷ xs) (length (x ∷ xs) - 1) x (omega arith) in let wrong = is ∙ there in cc)

-- the test that compares two keys
pub partial_key : (a b : Key) → is_some_and is_lt (partial_ordering_then (Some (bytes_cmp a.row b.row)) (partial_ordering_then (Some (bytes_cmp a.family b.family)) (Some (bytes_cmp a.qualifier b.qualifier)))) ≡ is_lt (key_cmp a b)
partial_key a b = ap (is_some_and is_lt) (ap (partial_ordering_then (Some (bytes_cmp a.row b.row))) (Some-then (bytes_cmp a.family b.family) (bytes_cmp a.qualifier b.qualifier)) ∙ Some-then (bytes_cmp a.row b.row) _)

-- ---- times

pub ord_max-nat : (a b : ℕ) → ord_max nat_cmp a b ≡ max a b
ord_max-nat a b = grind (arith, nat_tests)

pub greatest_time-push : (cells : List Cell) (c : Cell) → greatest_time (cells ++ c ∷ []) ≡ max (greatest_time cells) c.time
greatest_time-push [] c = omega arith
greatest_time-push (x ∷ xs) c = omega (arith, greatest_time-push xs c)

pub greatest_time-lt : (cells : List Cell) → All FitsCell cells → greatest_time cells < 2 ^ 63
greatest_time-lt [] all = omega arith
greatest_time-lt (x ∷ xs) all =
    let first = (All-head FitsCell x xs all).time in
    omega (arith, first, greatest_time-lt xs (All-tail FitsCell x xs all))
