-- Merged cells, and the pairs of them.
use Rattle.std.proofs.Common.{◌≡◌, ◌⊎◌, inl, inr, ◌↔◌, List, [], ◌∷◌, ◌++◌, Bool, true, false, Option, Some, None, is_some, IsTrue, Contains, map, refl, sym, ◌∙◌, ap, subst, arith}
use Rattle.std.specs.List.{AllByRecursion, filter, filter_map, cons_option}
use Rattle.std.specs.List.Sorted.{IsStrictlySortedBy}
use Rattle.std.specs.Option.{option_and_then, option_map}
use Rattle.std.specs.declared.cmp.Ordering.TheVariants.{Less}
use Rattle.std.proofs.lemmas.List.Elements.{Contains-append_cases, Contains-append_left, Contains-append_right}
use Rattle.row_keys.specs.declared.key.Key.{Key}
use Rattle.row_keys.specs.Keys.{key_cmp}
use Rattle.row_keys.specs.RowOrder.{is_within}
use Rattle.cell_merge.specs.declared.cell.Cell.{Cell}
use Rattle.cell_merge.specs.declared.cell.Pair.{Pair}
use Rattle.cell_merge.specs.Newest.{Bytes, latest, newest_at, clipped, is_kept, pair_of, IsNewest, IsMerged, HaveRisingKeys}
use Rattle.cell_merge.specs.Changes.{IsAsLate, IsDropped, Covers}
use Rattle.cell_merge.proofs.Membership.{Contains-nil, Contains-here, Contains-there, Contains-cons_cases, Contains-filter, Contains-in_filter}
use Rattle.cell_merge.proofs.LatestLemmas.{IsAnswer, latest_is, latest-some, latest-clipped}
use Rattle.cell_merge.proofs.RisingLemmas.{one_at_key, same_elements, rising-filter}

-- of cells whose keys rise each is the latest of its key
pub latest-rising : (cells : List Cell) (c : Cell) → HaveRisingKeys cells → Contains cells c → latest cells c.key ≡ Some c
latest-rising cells c up there = by (latest cells c.key) (latest_is cells c.key)
  where
    by : (o : Option Cell) → IsAnswer cells c.key o → o ≡ Some c
    by None none = absurd (none c there refl)
    by (Some d) is = ap Some (one_at_key (λ (x : Cell). x.key) cells d c up is.there there is.at)

-- a cell of the key is the latest of the merged ones, or there is none
latest-merged : (cells : List Cell) (keep : Bool) (merged : List Cell) (k : Key) (o : Option Cell) → IsMerged cells keep merged → latest cells k ≡ o
    → ((c : Cell) → o ≡ Some c → IsTrue (is_kept keep c)) → latest merged k ≡ o
latest-merged cells keep merged k None m is stays = by (latest merged k) (latest_is merged k)
  where
    by : (o : Option Cell) → IsAnswer merged k o → o ≡ None
    by None none = refl
    by (Some d) at =
        let found = ((m.each d).0 at.there).0 in
        let wrong : None ≡ Some d = sym is ∙ ap (latest cells) (sym at.at) ∙ found in
        absurd cc
latest-merged cells keep merged k (Some c) m is stays =
    let at = latest-some cells k c is in
    let there = (m.each c).1 (ap (latest cells) at.at ∙ is, stays c refl) in
    ap (latest merged) (sym at.at) ∙ latest-rising merged c m.rising there

pub latest-kept : (cells merged : List Cell) (k : Key) → IsMerged cells true merged → latest merged k ≡ latest cells k
latest-kept cells merged k m = latest-merged cells true merged k (latest cells k) m refl (λ c e. refl)

-- at a key whose latest cell is a removal no cell is merged
none-merged : (cells merged : List Cell) (d : Cell) → IsMerged cells false merged → d.value ≡ None → (k : Key) → latest cells k ≡ Some d → (other : Cell) → Contains merged other → other.key ≡ k → ⊥
none-merged cells merged d m removed k is other there at =
    let both = (m.each other).0 there in
    let same : Some other ≡ Some d = sym both.0 ∙ ap (latest cells) at ∙ is in
    let cells_same : other ≡ d = cc in
    let wrong : is_some {T = Bytes} None ≡ true = ap is_some (sym (ap (λ x. x.value) cells_same ∙ removed)) ∙ both.1 in
    cc

is_some-of : (o : Option Bytes) (v : Bytes) → o ≡ Some v → is_some o ≡ true
is_some-of o v e = ap is_some e

pub newest-removed : (cells merged : List Cell) (k : Key) → IsMerged cells false merged → newest_at merged k ≡ newest_at cells k
newest-removed cells merged k m = by (latest cells k) refl
  where
    none_left : (o : Option Cell) → ((d : Cell) → Contains merged d → d.key ≡ k → ⊥) → IsAnswer merged k o → option_and_then (λ c. c.value) o ≡ None
    none_left None none h = refl
    none_left (Some e) none h = absurd (none e h.there h.at)

    at_cell : (d : Cell) → latest cells k ≡ Some d → (v : Option Bytes) → d.value ≡ v → newest_at merged k ≡ v
    at_cell d is None e = none_left (latest merged k) (none-merged cells merged d m e k is) (latest_is merged k)
    at_cell d is (Some v) e = ap (option_and_then (λ c. c.value)) (latest-merged cells false merged k (Some d) m is (λ c s. let same : d ≡ c = cc in is_some-of c.value v (sym (ap (λ x. x.value) same) ∙ e))) ∙ e

    by : (o : Option Cell) → latest cells k ≡ o → newest_at merged k ≡ option_and_then (λ c. c.value) o
    by None is = ap (option_and_then (λ c. c.value)) (latest-merged cells false merged k None m is (λ c e. absurd cc))
    by (Some d) is = at_cell d is d.value refl

-- a cell that is merged is one of the cells
pub within-merged : (cells : List Cell) (keep : Bool) (merged : List Cell) → IsMerged cells keep merged → (c : Cell) → Contains merged c → Contains cells c
within-merged cells keep merged m c there = (latest-some cells c.key c ((m.each c).0 there).0).there

-- each cell has one as late among those that are the latest of their keys
as-late : (cells : List Cell) (c : Cell) → Contains cells c → (d : Cell) × (latest cells c.key ≡ Some d) × IsAsLate cells c d
as-late cells c there = by (latest cells c.key) refl (latest_is cells c.key)
  where
    by : (o : Option Cell) → latest cells c.key ≡ o → IsAnswer cells c.key o → (d : Cell) × (latest cells c.key ≡ Some d) × IsAsLate cells c d
    by None is none = absurd (none c there refl)
    by (Some d) is at = (d, is, record { there = at.there; key = at.at; time = at.last c there refl })

pub covers-kept : (cells others merged : List Cell) → IsMerged cells true merged → Covers (merged ++ others) (cells ++ others)
covers-kept cells others merged m = record {
  within = λ c there. elim (Contains-append_cases merged others c there) [
    | inl one ↦ Contains-append_left cells others c (within-merged cells true merged m c one)
    | inr other ↦ Contains-append_right cells others c other
  ];
  covered = λ c there. elim (Contains-append_cases cells others c there) [
    | inl one ↦
        let late = as-late cells c one in
        let d = late.0 in
        inl (d, record { there = Contains-append_left merged others d ((m.each d).1 (ap (latest cells) late.2.key ∙ late.1, refl)); key = late.2.key; time = late.2.time })
    | inr other ↦ inl (c, record { there = Contains-append_right merged others c other; key = refl; time = omega arith })
  ];
}

pub covers-removed : (cells merged : List Cell) → IsMerged cells false merged → Covers merged cells
covers-removed cells merged m = record {
  within = within-merged cells false merged m;
  covered = λ c there. (let late = as-late cells c there in by c late.0 late.1 late.2 late.0.value refl);
}
  where
    by : (c d : Cell) → latest cells c.key ≡ Some d → IsAsLate cells c d → (v : Option Bytes) → d.value ≡ v
        → ((other : Cell) × IsAsLate merged c other) ⊎ ((removal : Cell) × IsDropped merged cells c removal)
    by c d is late None e = inr (d, record { late = late; removes = e; none = none-merged cells merged d m e c.key is })
    by c d is late (Some v) e = inl (d, record { there = (m.each d).1 (ap (latest cells) late.key ∙ is, is_some-of d.value v e); key = late.key; time = late.time })

pub one_merged : (cells : List Cell) (keep : Bool) (merged same : List Cell) → IsMerged cells keep merged → IsMerged cells keep same → merged ≡ same
one_merged cells keep merged same m n = same_elements (λ (c : Cell). c.key) merged same m.rising n.rising (λ z c. (n.each z).1 ((m.each z).0 c)) (λ z c. (m.each z).1 ((n.each z).0 c))

pub one_newest : (cells other : List Cell) (pairs same : List Pair) → ((k : Key) → newest_at cells k ≡ newest_at other k) → IsNewest cells pairs → IsNewest other same → pairs ≡ same
one_newest cells other pairs same agree m n = same_elements (λ (p : Pair). p.key) pairs same m.rising n.rising
    (λ z c. (n.each z).1 (sym (agree z.key) ∙ (m.each z).0 c)) (λ z c. (m.each z).1 (agree z.key ∙ (n.each z).0 c))

-- the pairs of the cells that have a value
all-pairs : (P : Key → Type 0) (cells : List Cell) → AllByRecursion P (map (λ (c : Cell). c.key) cells) → AllByRecursion P (map (λ (p : Pair). p.key) (filter_map pair_of cells))
all-pairs P [] all = tt
all-pairs P (c ∷ cs) all = by c.value (all-pairs P cs all.1)
  where
    by : (o : Option Bytes) → AllByRecursion P (map (λ (p : Pair). p.key) (filter_map pair_of cs)) → AllByRecursion P (map (λ (p : Pair). p.key) (cons_option (option_map (λ value. record { key = c.key; value = value }) o) (filter_map pair_of cs)))
    by None rest = rest
    by (Some v) rest = (all.0, rest)

rising-pairs : (cells : List Cell) → HaveRisingKeys cells → IsStrictlySortedBy key_cmp (map (λ (p : Pair). p.key) (filter_map pair_of cells))
unfolding IsStrictlySortedBy
rising-pairs [] up = tt
rising-pairs (c ∷ cs) up = by c.value (rising-pairs cs up.1)
  where
    by : (o : Option Bytes) → IsStrictlySortedBy key_cmp (map (λ (p : Pair). p.key) (filter_map pair_of cs)) → IsStrictlySortedBy key_cmp (map (λ (p : Pair). p.key) (cons_option (option_map (λ value. record { key = c.key; value = value }) o) (filter_map pair_of cs)))
    by None rest = rest
    by (Some v) rest = (all-pairs (λ k. key_cmp c.key k ≡ Less) cs up.0, rest)

-- a cell with this key and value
pub record HasPair (cells : List Cell) (p : Pair) : Type 0 where
  pub cell : Cell
  pub there : Contains cells cell
  pub key : cell.key ≡ p.key
  pub value : cell.value ≡ Some p.value

pair-of-cell : (cells : List Cell) (p : Pair) → Contains (filter_map pair_of cells) p → HasPair cells p
pair-of-cell [] p = λ c. absurd (Contains-nil p c)
pair-of-cell (x ∷ xs) p = by x.value refl (pair-of-cell xs p)
  where
    by : (o : Option Bytes) → x.value ≡ o → (Contains (filter_map pair_of xs) p → HasPair xs p)
        → Contains (cons_option (option_map (λ value. record { key = x.key; value = value }) o) (filter_map pair_of xs)) p → HasPair (x ∷ xs) p
    by None e h c = let r = h c in record { cell = r.cell; there = Contains-there x r.cell xs r.there; key = r.key; value = r.value }
    by (Some v) e h c = elim (Contains-cons_cases (record { key = x.key; value = v }) p (filter_map pair_of xs) c) [
      | inl is ↦ record { cell = x; there = Contains-here x xs; key = ap (λ (q : Pair). q.key) is; value = e ∙ ap (λ (q : Pair). Some q.value) is }
      | inr rest ↦ (let r = h rest in record { cell = r.cell; there = Contains-there x r.cell xs r.there; key = r.key; value = r.value })
    ]

cell-has-pair : (cells : List Cell) (p : Pair) (c : Cell) → Contains cells c → c.key ≡ p.key → c.value ≡ Some p.value → Contains (filter_map pair_of cells) p
cell-has-pair [] p c there key value = absurd (Contains-nil c there)
cell-has-pair (x ∷ xs) p c there key value = elim (Contains-cons_cases x c xs there) [
  | inl is ↦ here x.value (ap (λ (y : Cell). y.value) is ∙ value) (ap (λ (y : Cell). y.key) is ∙ key)
  | inr rest ↦ past x.value (cell-has-pair xs p c rest key value)
]
  where
    more : Option Bytes → List Pair
    more o = cons_option (option_map (λ value. record { key = x.key; value = value }) o) (filter_map pair_of xs)

    here : (o : Option Bytes) → o ≡ Some p.value → x.key ≡ p.key → Contains (cons_option (option_map (λ value. record { key = x.key; value = value }) o) (filter_map pair_of xs)) p
    here None e k = absurd cc
    here (Some v) e k =
        let values : v ≡ p.value = cc in
        let same : ◌≡◌ {A = Pair} (record { key = x.key; value = v }) p = λ i. record { key = k i; value = values i } in
        subst (λ (q : Pair). Contains (q ∷ filter_map pair_of xs) p) (sym same) (Contains-here p (filter_map pair_of xs))

    past : (o : Option Bytes) → Contains (filter_map pair_of xs) p → Contains (cons_option (option_map (λ value. record { key = x.key; value = value }) o) (filter_map pair_of xs)) p
    past None rest = rest
    past (Some v) rest = Contains-there (record { key = x.key; value = v }) p (filter_map pair_of xs) rest

-- what a key has is the value of some latest cell
newest-some : (cells : List Cell) (k : Key) (v : Bytes) → newest_at cells k ≡ Some v → (c : Cell) × (latest cells k ≡ Some c) × (c.value ≡ Some v)
newest-some cells k v = by (latest cells k) refl
  where
    by : (o : Option Cell) → latest cells k ≡ o → option_and_then (λ c. c.value) o ≡ Some v → (c : Cell) × (latest cells k ≡ Some c) × (c.value ≡ Some v)
    by None is e = absurd cc
    by (Some c) is e = (c, is, e)

-- the pairs of merged cells without removals are the newest
pub newest-from_merged : (cells merged : List Cell) → IsMerged cells false merged → IsNewest cells (filter_map pair_of merged)
newest-from_merged cells merged m = record {
  rising = rising-pairs merged m.rising;
  each = λ p. (
    λ there.
        let r = pair-of-cell merged p there in
        let found = ((m.each r.cell).0 r.there).0 in
        ap (λ k. newest_at cells k) (sym r.key) ∙ ap (option_and_then (λ c. c.value)) found ∙ r.value,
    λ e.
        let r = newest-some cells p.key p.value e in
        let at = latest-some cells p.key r.0 r.1 in
        cell-has-pair merged p r.0 ((m.each r.0).1 (ap (latest cells) at.at ∙ r.1, is_some-of r.0.value p.value r.2)) at.at r.2,
  );
}

-- the merged cells of an index of all latest cells
pub merged-from_all : (cells all : List Cell) (keep : Bool) → HaveRisingKeys all → ((c : Cell) → Contains all c ↔ (latest cells c.key ≡ Some c)) → IsMerged cells keep (filter (is_kept keep) all)
merged-from_all cells all keep up each = record {
  rising = rising-filter (λ (c : Cell). c.key) (is_kept keep) all up;
  each = λ c. (
    λ there. (let r = Contains-filter (is_kept keep) all c there in ((each c).0 r.0, r.1)),
    λ both. Contains-in_filter (is_kept keep) all c ((each c).1 both.0) both.1,
  );
}

-- outside the extent no key has a cell
pub latest-clipped_outside : (low high : Option Bytes) (cells : List Cell) (k : Key) → is_within low high k.row ≡ false → latest (clipped low high cells) k ≡ None
latest-clipped_outside low high cells k outside = by (latest (clipped low high cells) k) (latest_is (clipped low high cells) k)
  where
    by : (o : Option Cell) → IsAnswer (clipped low high cells) k o → o ≡ None
    by None none = refl
    by (Some d) at = absurd (let inside = (Contains-filter (λ (c : Cell). is_within low high c.key.row) cells d at.there).1 in let wrong = sym inside ∙ ap (λ (x : Key). is_within low high x.row) at.at ∙ outside in cc)

pub newest-clipped : (low high : Option Bytes) (cells : List Cell) (pairs : List Pair) → IsNewest cells pairs → IsNewest (clipped low high cells) (filter (λ pair. is_within low high pair.key.row) pairs)
newest-clipped low high cells pairs n = record {
  rising = rising-filter (λ (p : Pair). p.key) inside pairs n.rising;
  each = λ p. (
    λ there.
        let r = Contains-filter inside pairs p there in
        ap (option_and_then (λ c. c.value)) (latest-clipped low high cells p.key r.1) ∙ (n.each p).0 r.0,
    λ e. by p e (is_within low high p.key.row) refl,
  );
}
  where
    inside : Pair → Bool
    inside p = is_within low high p.key.row

    by : (p : Pair) → newest_at (clipped low high cells) p.key ≡ Some p.value → (b : Bool) → is_within low high p.key.row ≡ b → Contains (filter inside pairs) p
    by p e true is = Contains-in_filter inside pairs p ((n.each p).1 (sym (ap (option_and_then (λ c. c.value)) (latest-clipped low high cells p.key is)) ∙ e)) is
    by p e false is = absurd (let none = ap (option_and_then {U = Bytes} (λ (c : Cell). c.value)) (latest-clipped_outside low high cells p.key is) in let wrong = sym none ∙ e in cc)
