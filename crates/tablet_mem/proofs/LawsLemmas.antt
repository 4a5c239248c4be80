-- The laws of memories.
use Rattle.std.proofs.Common.{◌≡◌, ◌∙◌, ℕ, ◌≤◌, ◌<◌, inl, inr, Bool, true, false, cond, List, [], ◌∷◌, ◌++◌, append_assoc, append-nil, map, Contains, Option, Some, None, refl, sym, ap, subst, arith, ltb}
use Rattle.std.specs.Prelude.{max}
use Rattle.std.specs.List.{flat_map}
use Rattle.std.specs.Option.{option_and_then}
use Rattle.std.proofs.Math.Nat.{max-eq_left, max-eq_right}
use Rattle.std.proofs.lemmas.Bool.{ltb-true, ltb-false}
use Rattle.std.proofs.lemmas.List.Elements.{All-push, All-weaker, All-cons, All-nil, Contains-push, Contains-append_left, Contains-append_right, Contains-append_cases}
use Rattle.row_keys.specs.declared.key.Key.{Key}
use Rattle.row_keys.specs.RowOrder.{is_within}
use Rattle.metadata_schema.specs.declared.mutation.Mutation.{Mutation}
use Rattle.metadata_schema.specs.declared.mutation.Update.{Update}
use Rattle.cell_merge.specs.declared.cell.Cell.{Cell}
use Rattle.cell_merge.specs.Newest.{Bytes, later, latest, newest_at, clipped, IsMerged}
use Rattle.cell_merge.specs.Changes.{AreConsistent, overlaid}
use Rattle.cell_merge.proofs.Membership.{Contains-nil, Contains-here, Contains-cons_cases}
use Rattle.cell_merge.proofs.LatestLemmas.{latest-append, latest-some, latest-clipped, AreConsistent-gains}
use Rattle.cell_merge.proofs.MergedLemmas.{latest-clipped_outside, latest-kept}
use Rattle.tablet_mem.specs.Memory.{Memory, started, put, put_all, cell_of, cells_of_mutation}
use Rattle.tablet_mem.specs.Times.{times_of, IsGreatestOf}

-- one more time
greatest-push : (times : List ℕ) (a b : ℕ) → IsGreatestOf times a → IsGreatestOf (times ++ b ∷ []) (max a b)
greatest-push times a b is = by (ltb a b) refl
  where
    by : (t : Bool) → ltb a b ≡ t → IsGreatestOf (times ++ b ∷ []) (max a b)
    by true e =
        let lt = ltb-true a b e in
        let le : a ≤ b = omega (arith, lt) in
        subst (IsGreatestOf (times ++ b ∷ [])) (sym (max-eq_right le)) (record {
          there = Contains-push times b;
          last = All-push (λ other. other ≤ b) times b (All-weaker (λ other. other ≤ a) (λ other. other ≤ b) (λ x h. omega (arith, h, le)) times is.last) (omega arith);
        })
    by false e =
        let le = ltb-false a b e in
        subst (IsGreatestOf (times ++ b ∷ [])) (sym (max-eq_left le)) (record {
          there = Contains-append_left times (b ∷ []) a is.there;
          last = All-push (λ other. other ≤ a) times b is.last le;
        })

greatest-all : (times : List ℕ) (memory : Memory) (mutations : List Mutation) → IsGreatestOf times memory.clock → IsGreatestOf (times ++ map (λ m. m.time) mutations) (put_all memory mutations).clock
greatest-all times memory [] is = subst (λ (l : List ℕ). IsGreatestOf l memory.clock) (sym (append-nil times)) is
greatest-all times memory (m ∷ ms) is =
    subst (λ (l : List ℕ). IsGreatestOf l (put_all (put memory m) ms).clock) (append_assoc times (m.time ∷ []) (map (λ m. m.time) ms))
    (greatest-all (times ++ m.time ∷ []) (put memory m) ms (greatest-push times memory.clock m.time is))

pub clock-greatest : (bar greatest : ℕ) (mutations : List Mutation) → IsGreatestOf (times_of bar greatest mutations) (put_all (started bar greatest) mutations).clock
clock-greatest bar greatest mutations =
    greatest-all (bar ∷ greatest ∷ []) (started bar greatest) mutations (greatest-push (bar ∷ []) bar greatest (record { there = Contains-here bar []; last = All-cons (λ other. other ≤ bar) bar [] (omega arith) (All-nil (λ other. other ≤ bar)) }))

pub clock-cleared : (memory other : Memory) (mutations : List Mutation) → memory.clock ≡ other.clock → (put_all memory mutations).clock ≡ (put_all other mutations).clock
clock-cleared memory other [] same = same
clock-cleared memory other (m ∷ ms) same = clock-cleared (put memory m) (put other m) ms (ap (λ t. max t m.time) same)

pub cells-all : (memory : Memory) (mutations : List Mutation) → (put_all memory mutations).cells ≡ memory.cells ++ flat_map cells_of_mutation mutations
cells-all memory [] = sym (append-nil memory.cells)
cells-all memory (m ∷ ms) = cells-all (put memory m) ms ∙ append_assoc memory.cells (cells_of_mutation m) (flat_map cells_of_mutation ms)

pub latest-within : (low high : Option Bytes) (files cells newest : List Cell) (key : Key) → IsMerged (clipped low high cells) true newest → is_within low high key.row ≡ true
    → latest (clipped low high files ++ newest) key ≡ latest (files ++ cells) key
latest-within low high files cells newest key merged inside =
    latest-append (clipped low high files) newest key
    ∙ ap (λ o. later o (latest newest key)) (latest-clipped low high files key inside)
    ∙ ap (later (latest files key)) (latest-kept (clipped low high cells) newest key merged ∙ latest-clipped low high cells key inside)
    ∙ sym (latest-append files cells key)

pub latest-outside : (low high : Option Bytes) (files cells newest : List Cell) (key : Key) → IsMerged (clipped low high cells) true newest → is_within low high key.row ≡ false
    → latest (clipped low high files ++ newest) key ≡ None
latest-outside low high files cells newest key merged outside =
    latest-append (clipped low high files) newest key
    ∙ ap (λ o. later o (latest newest key)) (latest-clipped_outside low high files key outside)
    ∙ latest-kept (clipped low high cells) newest key merged
    ∙ latest-clipped_outside low high cells key outside

-- each cell of a mutation has its time
time-of : (row : List ℕ) (time : ℕ) (updates : List Update) (c : Cell) → Contains (map (cell_of row time) updates) c → c.time ≡ time
time-of row time [] c there = absurd (Contains-nil c there)
time-of row time (u ∷ us) c there = elim (Contains-cons_cases (cell_of row time u) c (map (cell_of row time) us) there) [
  | inl is ↦ sym (ap (λ (x : Cell). x.time) is)
  | inr rest ↦ time-of row time us c rest
]

pub newest-put : (cells : List Cell) (mutation : Mutation) (key : Key) → ((c : Cell) → Contains cells c → c.time < mutation.time)
    → newest_at (cells ++ cells_of_mutation mutation) key ≡ overlaid (latest (cells_of_mutation mutation) key) (newest_at cells key)
newest-put cells mutation key past =
    ap (option_and_then (λ c. c.value)) (latest-append cells (cells_of_mutation mutation) key) ∙ by (latest cells key) (latest (cells_of_mutation mutation) key) refl refl
  where
    over : (c d : Cell) (b : Bool) → ltb d.time c.time ≡ b → d.time < c.time → option_and_then (λ c. c.value) (cond b (Some c) (Some d)) ≡ c.value
    over c d true e lt = refl
    over c d false e lt = absurd (let le = ltb-false _ _ e in omega (arith, le, lt))

    by : (o p : Option Cell) → latest cells key ≡ o → latest (cells_of_mutation mutation) key ≡ p → option_and_then (λ c. c.value) (later o p) ≡ overlaid p (option_and_then (λ c. c.value) o)
    by None None e f = refl
    by None (Some c) e f = refl
    by (Some d) None e f = refl
    by (Some d) (Some c) e f =
        let time = time-of mutation.row mutation.time mutation.updates c (latest-some (cells_of_mutation mutation) key c f).there in
        let lt = past d (latest-some cells key d e).there in
        over c d (ltb d.time c.time) refl (omega (arith, time, lt))

pub consistent-put : (cells : List Cell) (mutation : Mutation) → ((c : Cell) → Contains cells c → c.time < mutation.time) → AreConsistent cells → AreConsistent (cells_of_mutation mutation) → AreConsistent (cells ++ cells_of_mutation mutation)
consistent-put cells mutation past old fresh = AreConsistent-gains (cells_of_mutation mutation) cells (cells ++ cells_of_mutation mutation) old fresh (record {
  from = λ c there. Contains-append_cases cells (cells_of_mutation mutation) c there;
  keeps = λ c there. Contains-append_left cells (cells_of_mutation mutation) c there;
  gains = λ c there. Contains-append_right cells (cells_of_mutation mutation) c there;
  later = λ was is there new same. (let time = time-of mutation.row mutation.time mutation.updates is new in let lt = past was there in omega (arith, time, lt));
})
