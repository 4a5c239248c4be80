-- What a stable sort gives, and that it is one.
use Rattle.std.proofs.Common.{◌≡◌, inl, inr, ℕ, suc, ◌+◌, ◌<◌, ◌&&◌, List, [], ◌∷◌, length, get_or, map, not, cond, Bool, true, false, refl, sym, ◌∙◌, ap, subst, arith, add-one}
use denote.Ref.{Bor}
use Rattle.std.specs.Cmp.{IsStrictWeakOrder}
use Rattle.std.specs.List.{filter}
use Rattle.std.specs.List.Sorted.{IsPermutation, IsSortedBy, IsStableBy, ties}
use Rattle.std.proofs.lemmas.Bool.{cases_Bool, false≢true}
use Rattle.std.proofs.lemmas.List.{get_or-map, length-map}
use Rattle.std.proofs.lemmas.List.Sorted.{IsPermutation-map, ranks_by, sorted_far}
use Rattle.metadata_schema.specs.declared.mutation.Mutation.{Mutation}
use Rattle.log_files.specs.Sorted.{AreInOrder, IsStableSortOf}
use Rattle.log_files.proofs.OrderLemmas.{mutation_total, before, before_ranks}

-- ---- references that are sorted

abbrev pub shown : Bor Mutation → Mutation
shown r = r.now

-- one shows a mutation before the other's
abbrev pub shown_before : Bor Mutation → Bor Mutation → Bool
shown_before a b = before a.now b.now

pub shown_ranks : IsStrictWeakOrder shown_before
shown_ranks = ranks_by mutation_total shown

filter_shown : (test : Mutation → Bool) (rs : List (Bor Mutation)) → filter test (map shown rs) ≡ map shown (filter (λ r. test r.now) rs)
filter_shown test [] = refl
filter_shown test (r ∷ rs) = elim (test r.now) as (λ b. cond b (r.now ∷ filter test (map shown rs)) (filter test (map shown rs)) ≡ map shown (cond b (r ∷ filter (λ r. test r.now) rs) (filter (λ r. test r.now) rs))) [
  | true ↦ ap (λ l. r.now ∷ l) (filter_shown test rs)
  | false ↦ filter_shown test rs
]

pub shown_sort : (rs ss : List (Bor Mutation)) → IsPermutation rs ss → IsSortedBy shown_before ss → IsStableBy shown_before rs ss → IsStableSortOf (map shown rs) (map shown ss)
shown_sort rs ss same up stable = record {
  same = IsPermutation-map shown rs ss same;
  in_order = λ k d low below.
      let within : k + 1 < length ss = omega (arith, below, length-map ss shown) in
      let r = get_or ss k (record { ref_ptr = (0, 0); now = d }) in
      ap (λ m. before m (get_or (map shown ss) k d)) (get_or-map shown ss (k + 1) r d within) ∙ ap (λ m. before (get_or ss (k + 1) r).now m) (get_or-map shown ss k r d (omega (arith, within))) ∙ up k r low within;
  stable = λ m.
      let r : Bor Mutation = record { ref_ptr = (0, 0); now = m } in
      filter_shown (ties before m) ss ∙ ap (λ l. map shown l) (stable r) ∙ sym (filter_shown (ties before m) rs);
}

-- ---- one sort

not_itself : (m : Mutation) → before m m ≡ false
not_itself m = elim (cases_Bool (before m m)) [ inl is ↦ before_ranks.one_way m m is | inr is ↦ is ]

ties_from : (a b : Mutation) → before a b ≡ false → before b a ≡ false → ties before a b ≡ true
ties_from a b one two = ap (λ x. not x && not (before b a)) one ∙ ap (λ x. not x) two

ties_itself : (m : Mutation) → ties before m m ≡ true
ties_itself m = ties_from m m (not_itself m) (not_itself m)

ties_back : (a b : Mutation) → ties before a b ≡ true → before b a ≡ false
ties_back a b is = elim (cases_Bool (before b a)) [
  | inl so ↦ absurd (false≢true (sym (swallow (not (before a b))) ∙ ap (λ x. not (before a b) && not x) (sym so) ∙ is))
  | inr other ↦ other
]
  where
    swallow : (b : Bool) → (b && not true) ≡ false
    swallow true = refl
    swallow false = refl

kept_first : (m : Mutation) (ms : List Mutation) → filter (ties before m) (m ∷ ms) ≡ m ∷ filter (ties before m) ms
kept_first m ms = ap (λ b. cond b (m ∷ filter (ties before m) ms) (filter (ties before m) ms)) (ties_itself m)

-- one that a filter keeps stands in the list, and passes
record StandsAt (test : Mutation → Bool) (ms : List Mutation) (m : Mutation) : Type 0 where
  at : ℕ
  within : at < length ms
  is : get_or ms at m ≡ m

stands : (test : Mutation → Bool) (ms : List Mutation) (m : Mutation) (more : List Mutation) → filter test ms ≡ m ∷ more → StandsAt test ms m
stands test [] m more is = absurd cc
stands test (x ∷ ms) m more is = elim (cases_Bool (test x)) [
  | inl so ↦
      let same : x ≡ m = let e : x ∷ filter test ms ≡ m ∷ more = sym (ap (λ b. cond b (x ∷ filter test ms) (filter test ms)) so) ∙ is in cc in
      record { at = 0; within = omega arith; is = same }
  | inr other ↦
      let rest = stands test ms m more (sym (ap (λ b. cond b (x ∷ filter test ms) (filter test ms)) other) ∙ is) in
      record { at = suc rest.at; within = (let w = rest.within in omega (arith, w)); is = rest.is }
]

-- none of a list in order stands before its first
first_least : (x : Mutation) (xs : List Mutation) (m : Mutation) (test : Mutation → Bool) → AreInOrder (x ∷ xs) → StandsAt test (x ∷ xs) m → before m x ≡ false
first_least x xs m test up there =
    ap (λ y. before y x) (sym there.is) ∙ sorted_far before before_ranks (x ∷ xs) up 0 there.at m (omega arith) there.within

rest_in_order : (x : Mutation) (xs : List Mutation) → AreInOrder (x ∷ xs) → AreInOrder xs
rest_in_order x xs up k d low below =
    let next : before (get_or (x ∷ xs) (suc (k + 1)) d) (get_or (x ∷ xs) (suc k) d) ≡ false = subst (λ (p : ℕ × ℕ). before (get_or (x ∷ xs) p.0 d) (get_or (x ∷ xs) p.1 d) ≡ false) (λ i. (add-one (k + 1) i, add-one k i)) (up (k + 1) d (omega arith) (omega (arith, below))) in next

pub same_sort : (xs ys : List Mutation) → AreInOrder xs → AreInOrder ys → ((m : Mutation) → filter (ties before m) xs ≡ filter (ties before m) ys) → xs ≡ ys
same_sort [] [] one two all = refl
same_sort [] (y ∷ ys) one two all = absurd (let e : [] ≡ y ∷ filter (ties before y) ys = all y ∙ kept_first y ys in cc)
same_sort (x ∷ xs) [] one two all = absurd (let e : x ∷ filter (ties before x) xs ≡ [] = sym (kept_first x xs) ∙ all x in cc)
same_sort (x ∷ xs) (y ∷ ys) one two all =
    let y_in = stands (ties before y) (x ∷ xs) y (filter (ties before y) ys) (all y ∙ kept_first y ys) in
    let x_in = stands (ties before x) (y ∷ ys) x (filter (ties before x) xs) (sym (all x) ∙ kept_first x xs) in
    let x_ties_y = ties_from x y (first_least y ys x (ties before x) two x_in) (first_least x xs y (ties before y) one y_in) in
    let heads : x ∷ filter (ties before x) xs ≡ y ∷ filter (ties before x) ys = sym (kept_first x xs) ∙ all x ∙ ap (λ b. cond b (y ∷ filter (ties before x) ys) (filter (ties before x) ys)) x_ties_y in
    let same : x ≡ y = cc in
    let rest = same_sort xs ys (rest_in_order x xs one) (rest_in_order y ys two) (λ m. tails m same) in
    λ i. same i ∷ rest i
  where
    tails : (m : Mutation) → x ≡ y → filter (ties before m) xs ≡ filter (ties before m) ys
    tails m same =
        let e : filter (ties before m) (x ∷ xs) ≡ filter (ties before m) (x ∷ ys) = all m ∙ ap (λ z. filter (ties before m) (z ∷ ys)) (sym same) in
        elim (cases_Bool (ties before m x)) [
          | inl so ↦
              let both : x ∷ filter (ties before m) xs ≡ x ∷ filter (ties before m) ys = sym (ap (λ b. cond b (x ∷ filter (ties before m) xs) (filter (ties before m) xs)) so) ∙ e ∙ ap (λ b. cond b (x ∷ filter (ties before m) ys) (filter (ties before m) ys)) so in cc
          | inr other ↦
              sym (ap (λ b. cond b (x ∷ filter (ties before m) xs) (filter (ties before m) xs)) other) ∙ e ∙ ap (λ b. cond b (x ∷ filter (ties before m) ys) (filter (ties before m) ys)) other
        ]

pub one_sort : (ms one other : List Mutation) → IsStableSortOf ms one → IsStableSortOf ms other → one ≡ other
one_sort ms one other first second = same_sort one other first.in_order second.in_order (λ m. first.stable m ∙ sym (second.stable m))
