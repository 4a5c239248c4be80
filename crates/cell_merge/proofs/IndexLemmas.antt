-- The map of the latest cells, as cells come one after another.
use Rattle.std.proofs.Common.{◌≡◌, inl, inr, ◌<◌, ◌≤◌, List, [], ◌∷◌, ◌++◌, Bool, true, false, cond, Bor, Option, Some, None, Contains, map, refl, sym, ◌∙◌, ap, subst, arith, ltb}
use Rattle.std.specs.BTreeMap.{BTreeMap, insert_entry, is_at}
use Rattle.std.specs.List.{AllByRecursion, filter}
use Rattle.std.specs.List.Sorted.{IsStrictlySortedBy}
use Rattle.std.specs.Map.{lookup, keys_of, values_of}
use Rattle.std.specs.Map.Iter.{deref}
use Rattle.std.specs.Option.{option_copied}
use Rattle.std.specs.Ordering.{is_eq, match_ordering}
use Rattle.std.specs.declared.cmp.Ordering.{Ordering}
use Rattle.std.specs.declared.cmp.Ordering.TheVariants.{Less, Equal, Greater}
use Rattle.std.proofs.lemmas.Bool.{ltb-true, ltb-false}
use Rattle.std.proofs.lemmas.Cmp.{eq_by_cmp_equiv}
use Rattle.row_keys.specs.declared.key.Key.{Key}
use Rattle.row_keys.specs.Keys.{key_cmp}
use Rattle.cell_merge.specs.declared.cell.Cell.{Cell}
use Rattle.cell_merge.specs.Newest.{is_same_key, is_kept, later, latest, HaveRisingKeys, IsMerged}
use Rattle.cell_merge.specs.Index.{IsIndexOf, cells_of}
use Rattle.cell_merge.proofs.KeyLemmas.{key_cmp_total, key_cmp-equal, key_cmp-irreflexive, same_key-true, same_key-same}
use Rattle.cell_merge.proofs.Membership.{Contains-nil, Contains-here, Contains-there, Contains-cons_cases}
use Rattle.cell_merge.proofs.LatestLemmas.{latest-push}
use Rattle.cell_merge.proofs.MergedLemmas.{merged-from_all}
use Rattle.cell_merge.proofs.RisingLemmas.{above_head, rising_tail}

abbrev Entries : Type 0
Entries = List (Bor Key × Bor Cell)

abbrev in_order : Bor Key → Bor Key → Ordering
in_order key other = key_cmp key.now other.now

abbrev found : Key → Entries → Option (Bor Cell)
found k es = lookup (is_at (λ (other : Bor Key). key_cmp k other.now)) es

same_key-sym : (a b : Key) → is_same_key a b ≡ is_same_key b a
same_key-sym = (eq_by_cmp_equiv key_cmp_total).symm

-- the cell put in is found at its key, and the others at theirs
found-insert : (es : Entries) (kb : Bor Key) (cb : Bor Cell) (k : Key) → found k (insert_entry in_order es kb cb) ≡ cond (is_same_key kb.now k) (Some cb) (found k es)
found-insert [] kb cb k = ap (λ (b : Bool). cond b (Some cb) None) (same_key-sym k kb.now)
found-insert (e ∷ es) kb cb k = by (key_cmp kb.now e.0.now) refl (found-insert es kb cb k)
  where
    first : (b c : Bool) (o : Option (Bor Cell)) → b ≡ c → cond b (Some cb) o ≡ cond c (Some cb) o
    first b c o same = ap (λ (t : Bool). cond t (Some cb) o) same

    replaced : (b : Bool) (o : Option (Bor Cell)) → cond b (Some cb) o ≡ cond b (Some cb) (cond b (Some e.1) o)
    replaced true o = refl
    replaced false o = refl

    behind : (b c : Bool) (o : Option (Bor Cell)) → (b ≡ true → c ≡ true → ⊥) → cond b (Some e.1) (cond c (Some cb) o) ≡ cond c (Some cb) (cond b (Some e.1) o)
    behind true true o apart = absurd (apart refl refl)
    behind true false o apart = refl
    behind false c o apart = refl

    by : (o : Ordering) → key_cmp kb.now e.0.now ≡ o → found k (insert_entry in_order es kb cb) ≡ cond (is_same_key kb.now k) (Some cb) (found k es)
        → found k (match_ordering o ((kb, cb) ∷ e ∷ es) ((e.0, cb) ∷ es) (e ∷ insert_entry in_order es kb cb)) ≡ cond (is_same_key kb.now k) (Some cb) (cond (is_same_key k e.0.now) (Some e.1) (found k es))
    by Less is h = first (is_same_key k kb.now) (is_same_key kb.now k) (found k (e ∷ es)) (same_key-sym k kb.now)
    by Equal is h =
        let keys : kb.now ≡ e.0.now = key_cmp-equal kb.now e.0.now is in
        let same : is_same_key k e.0.now ≡ is_same_key kb.now k = same_key-sym k e.0.now ∙ ap (λ (x : Key). is_same_key x k) (sym keys) in
        replaced (is_same_key k e.0.now) (found k es) ∙ first (is_same_key k e.0.now) (is_same_key kb.now k) (cond (is_same_key k e.0.now) (Some e.1) (found k es)) same
    by Greater is h =
        ap (cond (is_same_key k e.0.now) (Some e.1)) h
        ∙ behind (is_same_key k e.0.now) (is_same_key kb.now k) (found k es)
        (λ p q.
        let one : k ≡ e.0.now = same_key-true k e.0.now p in
        let two : kb.now ≡ k = same_key-true kb.now k q in
        let equal : is_eq (key_cmp kb.now e.0.now) ≡ true = same_key-same kb.now e.0.now (two ∙ one) in
        let wrong : is_eq Greater ≡ true = ap is_eq (sym is) ∙ equal in
        cc)

abbrev AllOwn : Entries → Type 0
AllOwn es = AllByRecursion (λ entry. entry.0.now ≡ entry.1.now.key) es

own-insert : (es : Entries) (kb : Bor Key) (cb : Bor Cell) → kb.now ≡ cb.now.key → AllOwn es → AllOwn (insert_entry in_order es kb cb)
own-insert [] kb cb own all = (own, tt)
own-insert (e ∷ es) kb cb own all = by (key_cmp kb.now e.0.now) refl (own-insert es kb cb own all.1)
  where
    by : (o : Ordering) → key_cmp kb.now e.0.now ≡ o → AllOwn (insert_entry in_order es kb cb) → AllOwn (match_ordering o ((kb, cb) ∷ e ∷ es) ((e.0, cb) ∷ es) (e ∷ insert_entry in_order es kb cb))
    by Less is h = (own, all)
    by Equal is h = (sym (key_cmp-equal kb.now e.0.now is) ∙ own, all.1)
    by Greater is h = (all.0, h)

-- the cell, if there is one, is earlier
abbrev pub IsEarlier : Option Cell → Cell → Type 0
IsEarlier None c = Unit {0}
IsEarlier (Some d) c = d.time < c.time

-- the cell is there, and no earlier
abbrev pub IsNoEarlier : Option Cell → Cell → Type 0
IsNoEarlier None c = ⊥
IsNoEarlier (Some d) c = c.time ≤ d.time

later-over : (o : Option Cell) (c : Cell) → IsEarlier o c → later o (Some c) ≡ Some c
later-over None c h = refl
later-over (Some d) c h = by (ltb d.time c.time) refl
  where
    by : (b : Bool) → ltb d.time c.time ≡ b → cond b (Some c) (Some d) ≡ Some c
    by true e = refl
    by false e = absurd (let le = ltb-false _ _ e in omega arith)

later-under : (o : Option Cell) (c : Cell) → IsNoEarlier o c → later o (Some c) ≡ o
later-under None c h = absurd h
later-under (Some d) c h = by (ltb d.time c.time) refl
  where
    by : (b : Bool) → ltb d.time c.time ≡ b → cond b (Some c) (Some d) ≡ Some d
    by true e = absurd (let lt = ltb-true _ _ e in omega arith)
    by false e = refl

later-none : (o : Option Cell) → later o None ≡ o
later-none None = refl
later-none (Some d) = refl

option_copied-cond : (b : Bool) (cb : Bor Cell) (o : Option (Bor Cell)) → option_copied (cond b (Some cb) o) ≡ cond b (Some cb.now) (option_copied o)
option_copied-cond true cb o = refl
option_copied-cond false cb o = refl

-- one more cell, put in
pub index_put : (cells : List Cell) (m n : BTreeMap (Bor Key) (Bor Cell)) (kb : Bor Key) (cb : Bor Cell) → IsIndexOf cells m → kb.now ≡ cb.now.key
    → n.entries ≡ insert_entry in_order m.entries kb cb → IsStrictlySortedBy in_order (keys_of n.entries) → IsEarlier (latest cells cb.now.key) cb.now
    → IsIndexOf (cells ++ cb.now ∷ []) n
index_put cells m n kb cb index own put ordered earlier = record {
  latest_at = λ k.
      ap (λ (es : Entries). option_copied (found k es)) put
      ∙ ap option_copied (found-insert m.entries kb cb k)
      ∙ option_copied-cond (is_same_key kb.now k) cb (found k m.entries)
      ∙ ap (cond (is_same_key kb.now k) (Some cb.now)) (index.latest_at k)
      ∙ ap (λ (x : Key). cond (is_same_key x k) (Some cb.now) (latest cells k)) own
      ∙ by k (is_same_key cb.now.key k) refl
      ∙ sym (latest-push cells cb.now k);
  own = subst AllOwn (sym put) (own-insert m.entries kb cb own index.own);
  ordered = ordered;
}
  where
    by : (k : Key) (b : Bool) → is_same_key cb.now.key k ≡ b → cond b (Some cb.now) (latest cells k) ≡ later (latest cells k) (cond b (Some cb.now) None)
    by k true is = sym (later-over (latest cells k) cb.now (subst (λ (x : Key). IsEarlier (latest cells x) cb.now) (same_key-true cb.now.key k is) earlier))
    by k false is = sym (later-none (latest cells k))

-- one more cell, left out
pub index_left : (cells : List Cell) (m : BTreeMap (Bor Key) (Bor Cell)) (c : Cell) → IsIndexOf cells m → IsNoEarlier (latest cells c.key) c → IsIndexOf (cells ++ c ∷ []) m
index_left cells m c index no_earlier = record {
  latest_at = λ k. index.latest_at k ∙ by k (is_same_key c.key k) refl ∙ sym (latest-push cells c k);
  own = index.own;
  ordered = index.ordered;
}
  where
    by : (k : Key) (b : Bool) → is_same_key c.key k ≡ b → latest cells k ≡ later (latest cells k) (cond b (Some c) None)
    by k true is = sym (later-under (latest cells k) c (subst (λ (x : Key). IsNoEarlier (latest cells x) c) (same_key-true c.key k is) no_earlier))
    by k false is = sym (later-none (latest cells k))

-- the cells of the entries, in their order
abbrev cells_in : Entries → List Cell
cells_in es = map deref (values_of es)

above : (k : Key) (es : Entries) → AllByRecursion (λ (other : Bor Key). key_cmp k other.now ≡ Less) (keys_of es) → AllOwn es → AllByRecursion (λ (other : Key). key_cmp k other ≡ Less) (map (λ (c : Cell). c.key) (cells_in es))
above k [] all own = tt
above k (e ∷ es) all own = (ap (key_cmp k) (sym own.0) ∙ all.0, above k es all.1 own.1)

rising-cells : (es : Entries) → IsStrictlySortedBy in_order (keys_of es) → AllOwn es → HaveRisingKeys (cells_in es)
unfolding IsStrictlySortedBy
rising-cells [] up own = tt
rising-cells (e ∷ es) up own =
    (subst (λ (k : Key). AllByRecursion (λ (other : Key). key_cmp k other ≡ Less) (map (λ (c : Cell). c.key) (cells_in es))) own.0 (above e.0.now es up.0 own.1), rising-cells es up.1 own.1)

-- what is found is among the cells
found-there : (es : Entries) (k : Key) (c : Cell) → option_copied (found k es) ≡ Some c → Contains (cells_in es) c
found-there [] k c = λ e. absurd cc
found-there (e ∷ es) k c = by (is_same_key k e.0.now) (found-there es k c)
  where
    by : (b : Bool) → (option_copied (found k es) ≡ Some c → Contains (cells_in es) c) → option_copied (cond b (Some e.1) (found k es)) ≡ Some c → Contains (e.1.now ∷ cells_in es) c
    by true h is = let same : e.1.now ≡ c = cc in subst (Contains (e.1.now ∷ cells_in es)) same (Contains-here e.1.now (cells_in es))
    by false h is = Contains-there e.1.now c (cells_in es) (h is)

-- each of the cells is found at its key
there-found : (es : Entries) (c : Cell) → HaveRisingKeys (cells_in es) → AllOwn es → Contains (cells_in es) c → option_copied (found c.key es) ≡ Some c
there-found [] c up own there = absurd (Contains-nil c there)
there-found (e ∷ es) c up own there = elim (Contains-cons_cases e.1.now c (cells_in es) there) [
  | inl is ↦ here is (is_same_key c.key e.0.now) refl
  | inr rest ↦ past rest (is_same_key c.key e.0.now) refl (there-found es c (rising_tail (λ (x : Cell). x.key) e.1.now (cells_in es) up) own.1 rest)
]
  where
    here : e.1.now ≡ c → (b : Bool) → is_same_key c.key e.0.now ≡ b → option_copied (cond b (Some e.1) (found c.key es)) ≡ Some c
    here is true t = ap Some is
    here is false t = absurd (let same = same_key-same c.key e.0.now (ap (λ (x : Cell). x.key) (sym is) ∙ sym own.0) in cc)

    past : Contains (cells_in es) c → (b : Bool) → is_same_key c.key e.0.now ≡ b → option_copied (found c.key es) ≡ Some c → option_copied (cond b (Some e.1) (found c.key es)) ≡ Some c
    past rest true t h = absurd (key_cmp-irreflexive e.1.now.key c.key (above_head (λ (x : Cell). x.key) e.1.now c (cells_in es) up rest) (sym (same_key-true c.key e.0.now t ∙ own.0)))
    past rest false t h = h

-- the merged cells are those of the map
pub index_merged : (cells : List Cell) (keep : Bool) (m : BTreeMap (Bor Key) (Bor Cell)) → IsIndexOf cells m → IsMerged cells keep (filter (is_kept keep) (cells_of m))
index_merged cells keep m index =
    let up = rising-cells m.entries index.ordered index.own in
    merged-from_all cells (cells_of m) keep up (λ c. (
      λ there. sym (index.latest_at c.key) ∙ there-found m.entries c up index.own there,
      λ is. found-there m.entries c.key c (index.latest_at c.key ∙ is),
    ))

-- the map with nothing in it
pub index_empty : (m : BTreeMap (Bor Key) (Bor Cell)) → m.entries ≡ [] → IsStrictlySortedBy in_order (keys_of m.entries) → IsIndexOf [] m
index_empty m empty ordered = record {
  latest_at = λ k. ap (λ (es : Entries). option_copied (found k es)) empty;
  own = subst AllOwn (sym empty) tt;
  ordered = ordered;
}
