-- The latest cell of a key, by membership.
use Rattle.std.proofs.Common.{◌≡◌, ◌≢◌, inl, inr, ◌<◌, List, [], ◌∷◌, ◌++◌, Bool, true, false, cond, Contains, Option, Some, None, MatchOption, refl, sym, ◌∙◌, ap, subst, arith, ltb}
use Rattle.std.specs.Option.{option_and_then}
use Rattle.std.proofs.lemmas.Bool.{ltb-true, ltb-false}
use Rattle.std.proofs.lemmas.List.Elements.{Contains-push_cases}
use Rattle.row_keys.specs.declared.key.Key.{Key}
use Rattle.row_keys.specs.RowOrder.{is_within}
use Rattle.cell_merge.specs.declared.cell.Cell.{Cell}
use Rattle.cell_merge.specs.Newest.{Bytes, is_same_key, later, latest, newest_at, clipped}
use Rattle.cell_merge.specs.Changes.{AreConsistent, IsLatestAt, Covers, Gains, overlaid}
use Rattle.cell_merge.proofs.KeyLemmas.{same_key-true, same_key-false}
use Rattle.cell_merge.proofs.Membership.{Contains-nil, Contains-here, Contains-there, Contains-cons_cases}

-- the cell of greatest time at the key, or none where no cell is of the key
abbrev pub IsAnswer : List Cell → Key → Option Cell → Type 0
IsAnswer cells k None = (d : Cell) → Contains cells d → d.key ≡ k → ⊥
IsAnswer cells k (Some c) = IsLatestAt cells k c

-- one more cell, of another key
passed : (c : Cell) (cs : List Cell) (k : Key) (y : Option Cell) → c.key ≢ k → IsAnswer cs k y → IsAnswer (c ∷ cs) k y
passed c cs k None other h = λ d there at. elim (Contains-cons_cases c d cs there) [ inl is ↦ other (ap (λ x. x.key) is ∙ at) | inr rest ↦ h d rest at ]
passed c cs k (Some x) other h = record {
  there = Contains-there c x cs h.there;
  at = h.at;
  last = λ d there at. elim (Contains-cons_cases c d cs there) [ inl is ↦ absurd (other (ap (λ x. x.key) is ∙ at)) | inr rest ↦ h.last d rest at ];
}

-- one more cell, of this key
taken : (c : Cell) (cs : List Cell) (k : Key) (y : Option Cell) → c.key ≡ k → IsAnswer cs k y → IsAnswer (c ∷ cs) k (later (Some c) y)
taken c cs k None here h = record {
  there = Contains-here c cs;
  at = here;
  last = λ d there at. elim (Contains-cons_cases c d cs there) [ inl is ↦ (let e = ap (λ x. x.time) is in omega (arith, e)) | inr rest ↦ absurd (h d rest at) ];
}
taken c cs k (Some x) here h = by (ltb c.time x.time) refl
  where
    by : (b : Bool) → ltb c.time x.time ≡ b → IsAnswer (c ∷ cs) k (cond b (Some x) (Some c))
    by true e = record {
      there = Contains-there c x cs h.there;
      at = h.at;
      last = λ d there at. elim (Contains-cons_cases c d cs there) [ inl is ↦ (let t = ap (λ x. x.time) is in omega (arith, t, ltb-true _ _ e)) | inr rest ↦ h.last d rest at ];
    }
    by false e = record {
      there = Contains-here c cs;
      at = here;
      last = λ d there at. elim (Contains-cons_cases c d cs there) [ inl is ↦ (let t = ap (λ x. x.time) is in omega (arith, t)) | inr rest ↦ (let l = h.last d rest at in omega (arith, l, ltb-false _ _ e)) ];
    }

pub latest_is : (cells : List Cell) (k : Key) → IsAnswer cells k (latest cells k)
latest_is [] k = λ d there at. Contains-nil d there
latest_is (c ∷ cs) k = by (is_same_key c.key k) refl (latest_is cs k)
  where
    by : (b : Bool) → is_same_key c.key k ≡ b → IsAnswer cs k (latest cs k) → IsAnswer (c ∷ cs) k (later (cond b (Some c) None) (latest cs k))
    by true e h = taken c cs k _ (same_key-true _ _ e) h
    by false e h = passed c cs k _ (same_key-false _ _ e) h

pub latest_matches : (cells : List Cell) (k : Key) → MatchOption (latest cells k) ((d : Cell) → Contains cells d → d.key ≡ k → ⊥) (IsLatestAt cells k)
latest_matches cells k = by (latest cells k) (latest_is cells k)
  where
    by : (o : Option Cell) → IsAnswer cells k o → MatchOption o ((d : Cell) → Contains cells d → d.key ≡ k → ⊥) (IsLatestAt cells k)
    by None h = h
    by (Some c) h = h

-- what is the latest is among the cells, at the key
pub latest-some : (cells : List Cell) (k : Key) (c : Cell) → latest cells k ≡ Some c → IsLatestAt cells k c
latest-some cells k c e = subst (IsAnswer cells k) e (latest_is cells k)

pub latest-none : (cells : List Cell) (k : Key) → latest cells k ≡ None → (d : Cell) → Contains cells d → d.key ≡ k → ⊥
latest-none cells k e = subst (IsAnswer cells k) e (latest_is cells k)

-- there is one answer
pub one_answer : (cells : List Cell) (k : Key) (x y : Option Cell) → AreConsistent cells → IsAnswer cells k x → IsAnswer cells k y → x ≡ y
one_answer cells k None None ok p q = refl
one_answer cells k None (Some d) ok p q = absurd (p d q.there q.at)
one_answer cells k (Some c) None ok p q = absurd (q c p.there p.at)
one_answer cells k (Some c) (Some d) ok p q =
    let ge = p.last d q.there q.at in
    let le = q.last c p.there p.at in
    ap Some (ok.one c d p.there q.there (p.at ∙ sym q.at) (omega (arith, ge, le)))

pub latest_by : (cells : List Cell) (k : Key) (x : Option Cell) → AreConsistent cells → IsAnswer cells k x → latest cells k ≡ x
latest_by cells k x ok h = one_answer cells k _ x ok (latest_is cells k) h

pub AreConsistent-within : (fewer all : List Cell) → ((c : Cell) → Contains fewer c → Contains all c) → AreConsistent all → AreConsistent fewer
AreConsistent-within fewer all within ok = record { one = λ c d p q. ok.one c d (within c p) (within d q) }

pub AreConsistent-covers : (fewer all : List Cell) → AreConsistent all → Covers fewer all → AreConsistent fewer
AreConsistent-covers fewer all ok covers = AreConsistent-within fewer all covers.within ok

-- what the fewer cells have at a key
pub newest-covers : (fewer all : List Cell) (k : Key) → AreConsistent all → Covers fewer all → newest_at fewer k ≡ newest_at all k
newest-covers fewer all k ok covers = by (latest all k) (latest fewer k) (latest_is all k) (latest_is fewer k)
  where
    by : (x y : Option Cell) → IsAnswer all k x → IsAnswer fewer k y → option_and_then (λ c. c.value) y ≡ option_and_then (λ c. c.value) x
    by None None p q = refl
    by None (Some d) p q = absurd (p d (covers.within d q.there) q.at)
    by (Some c) None p q = elim (covers.covered c p.there) [
      | inl late ↦ absurd (q late.0 late.1.there (late.1.key ∙ p.at))
      | inr dropped ↦
          let l = dropped.1.late in
          let le = p.last dropped.0 l.there (l.key ∙ p.at) in
          let ge = l.time in
          sym (ap (λ x. x.value) (ok.one c dropped.0 p.there l.there (sym l.key) (omega (arith, le, ge))) ∙ dropped.1.removes)
    ]
    by (Some c) (Some e) p q = elim (covers.covered c p.there) [
      | inl late ↦
          let d = late.0 in
          let l = late.1 in
          let a = p.last e (covers.within e q.there) q.at in
          let b = q.last d l.there (l.key ∙ p.at) in
          let t = l.time in
          ap (λ x. x.value) (ok.one e c (covers.within e q.there) p.there (q.at ∙ sym p.at) (omega (arith, a, b, t)))
      | inr dropped ↦ absurd (dropped.1.none e q.there (q.at ∙ sym p.at))
    ]

pub AreConsistent-gains : (fresh old new : List Cell) → AreConsistent old → AreConsistent fresh → Gains fresh old new → AreConsistent new
AreConsistent-gains fresh old new was are gains = record {
  one = λ c d p q key time. elim (gains.from c p) [
    | inl c_old ↦ elim (gains.from d q) [
      | inl d_old ↦ was.one c d c_old d_old key time
      | inr d_new ↦ absurd (let lt = gains.later c d c_old d_new key in omega (arith, lt, time))
    ]
    | inr c_new ↦ elim (gains.from d q) [
      | inl d_old ↦ absurd (let lt = gains.later d c d_old c_new (sym key) in omega (arith, lt, time))
      | inr d_new ↦ are.one c d c_new d_new key time
    ]
  ];
}

pub newest-gains : (fresh old new : List Cell) (k : Key) → AreConsistent old → AreConsistent fresh → Gains fresh old new → newest_at new k ≡ overlaid (latest fresh k) (newest_at old k)
newest-gains fresh old new k was are gains = by (latest fresh k) (latest old k) (latest_is fresh k) (latest_is old k)
  where
    ok : AreConsistent new
    ok = AreConsistent-gains fresh old new was are gains

    by : (x y : Option Cell) → IsAnswer fresh k x → IsAnswer old k y → newest_at new k ≡ overlaid x (option_and_then (λ c. c.value) y)
    by None None p q = ap (option_and_then (λ c. c.value)) (latest_by new k None ok (λ d there at. elim (gains.from d there) [ inl d_old ↦ q d d_old at | inr d_new ↦ p d d_new at ]))
    by None (Some c) p q = ap (option_and_then (λ c. c.value)) (latest_by new k (Some c) ok (record {
      there = gains.keeps c q.there;
      at = q.at;
      last = λ d there at. elim (gains.from d there) [ inl d_old ↦ q.last d d_old at | inr d_new ↦ absurd (p d d_new at) ];
    }))
    by (Some c) y p q = ap (option_and_then (λ c. c.value)) (latest_by new k (Some c) ok (record {
      there = gains.gains c p.there;
      at = p.at;
      last = λ d there at. elim (gains.from d there) [
        | inl d_old ↦ (let lt = gains.later d c d_old p.there (at ∙ sym p.at) in omega (arith, lt))
        | inr d_new ↦ p.last d d_new at
      ];
    }))

later_assoc : (x y z : Option Cell) → later (later x y) z ≡ later x (later y z)
later_assoc None y z = refl
later_assoc (Some x) None z = refl
later_assoc (Some x) (Some y) None = by (ltb x.time y.time)
  where
    by : (b : Bool) → later (cond b (Some y) (Some x)) None ≡ cond b (Some y) (Some x)
    by true = refl
    by false = refl
later_assoc (Some x) (Some y) (Some z) = by (ltb x.time y.time) (ltb y.time z.time) refl refl
  where
    by : (b c : Bool) → ltb x.time y.time ≡ b → ltb y.time z.time ≡ c → later (cond b (Some y) (Some x)) (Some z) ≡ later (Some x) (cond c (Some z) (Some y))
    by true true p q = grind (arith, p, q, ltb-true, ltb-false)
    by true false p q = grind (arith, p, q, ltb-true, ltb-false)
    by false true p q = refl
    by false false p q = grind (arith, p, q, ltb-true, ltb-false)

pub latest-append : (a b : List Cell) (k : Key) → latest (a ++ b) k ≡ later (latest a k) (latest b k)
latest-append [] b k = refl
latest-append (c ∷ cs) b k = ap (later (cond (is_same_key c.key k) (Some c) None)) (latest-append cs b k) ∙ sym (later_assoc (cond (is_same_key c.key k) (Some c) None) (latest cs k) (latest b k))

-- one cell more
pub latest-push : (cells : List Cell) (c : Cell) (k : Key) → latest (cells ++ c ∷ []) k ≡ later (latest cells k) (cond (is_same_key c.key k) (Some c) None)
latest-push cells c k = latest-append cells (c ∷ []) k ∙ ap (later (latest cells k)) (by (is_same_key c.key k))
  where
    by : (b : Bool) → later (cond b (Some c) None) None ≡ cond b (Some c) None
    by true = refl
    by false = refl

pub latest-clipped : (low high : Option Bytes) (cells : List Cell) (k : Key) → is_within low high k.row ≡ true → latest (clipped low high cells) k ≡ latest cells k
latest-clipped low high [] k inside = refl
latest-clipped low high (c ∷ cs) k inside = by (is_within low high c.key.row) (is_same_key c.key k) refl refl (latest-clipped low high cs k inside)
  where
    by : (b e : Bool) → is_within low high c.key.row ≡ b → is_same_key c.key k ≡ e → latest (clipped low high cs) k ≡ latest cs k
        → latest (cond b (c ∷ clipped low high cs) (clipped low high cs)) k ≡ later (cond e (Some c) None) (latest cs k)
    by true e p q h = ap (λ t. later (cond t (Some c) None) (latest (clipped low high cs) k)) q ∙ ap (later (cond e (Some c) None)) h
    by false true p q h = absurd (let same = same_key-true c.key k q in let wrong = sym p ∙ ap (λ x. is_within low high x.row) same ∙ inside in cc)
    by false false p q h = h

-- one cell later than those of its key
pub newest-push : (c : Cell) (cells : List Cell) (k : Key) → ((d : Cell) → Contains cells d → d.key ≡ c.key → d.time < c.time)
    → newest_at (cells ++ c ∷ []) k ≡ cond (is_same_key c.key k) c.value (newest_at cells k)
newest-push c cells k newer = ap (option_and_then (λ c. c.value)) (latest-push cells c k) ∙ by (is_same_key c.key k) refl (latest cells k) (latest_is cells k)
  where
    lasts : (b : Bool) (d : Cell) → ltb d.time c.time ≡ b → d.time < c.time → option_and_then (λ c. c.value) (cond b (Some c) (Some d)) ≡ c.value
    lasts true d e lt = refl
    lasts false d e lt = absurd (let le = ltb-false _ _ e in omega arith)

    by : (b : Bool) → is_same_key c.key k ≡ b → (o : Option Cell) → IsAnswer cells k o → option_and_then (λ c. c.value) (later o (cond b (Some c) None)) ≡ cond b c.value (option_and_then (λ c. c.value) o)
    by true e None h = refl
    by true e (Some d) h = lasts (ltb d.time c.time) d refl (newer d h.there (h.at ∙ sym (same_key-true _ _ e)))
    by false e None h = refl
    by false e (Some d) h = refl

pub AreConsistent-push : (c : Cell) (cells : List Cell) → AreConsistent cells → ((d : Cell) → Contains cells d → d.key ≡ c.key → d.time < c.time) → AreConsistent (cells ++ c ∷ [])
AreConsistent-push c cells ok newer = record {
  one = λ a b p q key time. elim (Contains-push_cases cells c a p) [
    | inl a_old ↦ elim (Contains-push_cases cells c b q) [
      | inl b_old ↦ ok.one a b a_old b_old key time
      | inr is ↦ absurd (let lt = newer a a_old (key ∙ ap (λ x. x.key) (sym is)) in let t = ap (λ x. x.time) is in omega (arith, lt, time, t))
    ]
    | inr is ↦ elim (Contains-push_cases cells c b q) [
      | inl b_old ↦ absurd (let lt = newer b b_old (sym key ∙ ap (λ x. x.key) (sym is)) in let t = ap (λ x. x.time) is in omega (arith, lt, time, t))
      | inr too ↦ sym is ∙ too
    ]
  ];
}
