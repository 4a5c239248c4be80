-- Lists, finite maps and options.
use Rattle.std.proofs.Common.{◌≡◌, ◌≢◌, inl, inr, ℕ, zero, suc, ◌<◌, Bool, true, false, cond, ◌&&◌, ◌||◌, List, [], ◌∷◌, ◌++◌, length, take, get_or, Contains, map as mapped, Option, Some, None, is_some, Ordering, refl, sym, ◌∙◌, ap, subst, arith}
use Rattle.std.specs.Prelude.{filter, find}
use Rattle.std.specs.List.{list_all, list_any}
use Rattle.std.specs.Ordering.{is_lt, is_eq, eq_by_cmp}
use Rattle.std.specs.FinMap.{find as find_in, is_sorted}
use Rattle.std.proofs.lemmas.Bool.{false≢true, and_parts, and_from}
use Rattle.std.proofs.lemmas.Cmp.{nat_list_cmp_total, tied_itself}
use Rattle.std.proofs.lemmas.List.{length-map, get_or-map}
use Rattle.std.proofs.lemmas.List.Elements.{Contains-push_cases}
use Rattle.std.proofs.lemmas.Option.{none-some}
use lib.Dec.{T}
use Rattle.row_keys.specs.RowOrder.{bytes_cmp}
use Rattle.plain_model.specs.Laws.{is_rising}
use Rattle.plain_model.proofs.InOrder.{first, second, equal, find_above}
use Rattle.level_rows.proofs.Membership.{Contains-nil, Contains-cons_cases}

-- ---- options

pub some_of : {V : Type 0} (o : Option V) → is_some o ≡ true → (v : V) × (o ≡ Some v)
some_of None e = absurd (false≢true e)
some_of (Some v) e = (v, refl)

pub none_unless : {V : Type 0} (o : Option V) → ((v : V) → o ≡ Some v → ⊥) → o ≡ None
none_unless None none = refl
none_unless (Some v) none = absurd (none v refl)

-- ---- lists

all_each : {X : Type 0} (p : X → Bool) (xs : List X) (x : X) → list_all p xs ≡ true → Contains xs x → p x ≡ true
all_each p [] x all there = absurd (Contains-nil x there)
all_each p (y ∷ ys) x all there =
    let parts = and_parts (p y) (list_all p ys) all in
    elim (Contains-cons_cases y x ys there) [ inl is ↦ ap p (sym is) ∙ parts.0 | inr rest ↦ all_each p ys x parts.1 rest ]

all_filter : {X : Type 0} (q p : X → Bool) (xs : List X) → list_all q xs ≡ true → list_all q (filter p xs) ≡ true
all_filter q p [] all = refl
all_filter q p (x ∷ xs) all = by (p x) (all_filter q p xs (and_parts (q x) (list_all q xs) all).1)
  where
    by : (b : Bool) → list_all q (filter p xs) ≡ true → list_all q (cond b (x ∷ filter p xs) (filter p xs)) ≡ true
    by true rest = and_from (q x) (list_all q (filter p xs)) (and_parts (q x) (list_all q xs) all).0 rest
    by false rest = rest

pub Contains-in_map : {X Y : Type 0} (f : X → Y) (xs : List X) (x : X) → Contains xs x → Contains (mapped f xs) (f x)
Contains-in_map f xs x there = (there.0, subst (λ n. there.0 < n) (sym (length-map xs f)) there.1, get_or-map f xs there.0 x (f x) there.1 ∙ ap f there.2)

-- one more that is another leaves out what was left out
pub not_more : {X : Type 0} (xs : List X) (x y : X) → (Contains xs y → ⊥) → (x ≡ y → ⊥) → Contains (xs ++ x ∷ []) y → ⊥
not_more xs x y none other there = elim (Contains-push_cases xs x y there) [ inl front ↦ none front | inr last ↦ other last ]

-- what is found in a list is found in a longer one
pub found_before : {X : Type 0} (p : X → Bool) (xs more : List X) (x : X) → find p xs ≡ Some x → find p (xs ++ more) ≡ Some x
found_before p [] more x e = absurd (none-some x e)
found_before p (y ∷ ys) more x e = by (p y) (found_before p ys more x) e
  where
    by : (b : Bool) → (find p ys ≡ Some x → find p (ys ++ more) ≡ Some x) → cond b (Some y) (find p ys) ≡ Some x → cond b (Some y) (find p (ys ++ more)) ≡ Some x
    by true rest e = e
    by false rest e = rest e

pub found_behind : {X : Type 0} (p : X → Bool) (xs more : List X) → find p xs ≡ None → find p (xs ++ more) ≡ find p more
found_behind p [] more e = refl
found_behind p (y ∷ ys) more e = by (p y) (found_behind p ys more) e
  where
    by : (b : Bool) → (find p ys ≡ None → find p (ys ++ more) ≡ find p more) → cond b (Some y) (find p ys) ≡ None → cond b (Some y) (find p (ys ++ more)) ≡ find p more
    by true rest e = absurd (none-some y (sym e))
    by false rest e = rest e

-- one more that doesn't pass changes nothing
pub found_still : {X : Type 0} (p : X → Bool) (xs : List X) (x : X) → p x ≡ false → find p (xs ++ x ∷ []) ≡ find p xs
found_still p xs x fails = by (find p xs) refl
  where
    by : (o : Option _) → find p xs ≡ o → find p (xs ++ x ∷ []) ≡ find p xs
    by None e = found_behind p xs (x ∷ []) e ∙ ap (λ b. cond b (Some x) None) fails ∙ sym e
    by (Some y) e = found_before p xs (x ∷ []) y e ∙ sym e

-- ---- keys that rise

pub rising_filter : {K : Type 0} (R : K → K → Ordering) (p : K → Bool) (xs : List K) → is_rising R xs ≡ true → is_rising R (filter p xs) ≡ true
rising_filter R p [] rise = refl
rising_filter R p (x ∷ xs) rise =
    let parts = and_parts (list_all (λ other. is_lt (R x other)) xs) (is_rising R xs) rise in
    by (p x) (all_filter (λ other. is_lt (R x other)) p xs parts.0) (rising_filter R p xs parts.1)
  where
    by : (b : Bool) → list_all (λ other. is_lt (R x other)) (filter p xs) ≡ true → is_rising R (filter p xs) ≡ true → is_rising R (cond b (x ∷ filter p xs) (filter p xs)) ≡ true
    by true below rest = and_from _ _ below rest
    by false below rest = rest

not_below_itself : (x : List ℕ) → is_lt (bytes_cmp x x) ≡ true → ⊥
not_below_itself x e = false≢true (sym (ap is_lt (tied_itself nat_list_cmp_total x)) ∙ e)

-- none of the rising names stands twice
pub stands_once : (xs : List (List ℕ)) (i : ℕ) (x : List ℕ) → is_rising bytes_cmp xs ≡ true → i < length xs → x ≡ get_or xs i x → Contains (take i xs) x → ⊥
stands_once [] i x rise lt at there = omega (arith, lt)
stands_once (y ∷ ys) zero x rise lt at there = Contains-nil x there
stands_once (y ∷ ys) (suc i) x rise lt at there =
    let parts = and_parts (list_all (λ other. is_lt (bytes_cmp y other)) ys) (is_rising bytes_cmp ys) rise in
    let within : i < length ys = omega (arith, lt) in
    let among : Contains ys x = (i, within, sym at) in
    elim (Contains-cons_cases y x (take i ys) there) [
      | inl is ↦ not_below_itself x (ap (λ k. is_lt (bytes_cmp k x)) (sym is) ∙ all_each (λ other. is_lt (bytes_cmp y other)) ys x parts.0 among)
      | inr rest ↦ stands_once ys i x parts.1 within at rest
    ]

-- ---- values of a finite map

-- a value that passes stands at some key
pub any_value : {V : Type 0} (test : V → Bool) (es : List (List ℕ × V)) → T (is_sorted bytes_cmp es) → list_any test (mapped (λ e. e.1) es) ≡ true → (k : List ℕ) × (v : V) × (find_in bytes_cmp k es ≡ Some v) × (test v ≡ true)
any_value test [] sorted any = absurd (false≢true any)
any_value {V} test (e ∷ es) sorted any = by (test e.1) refl any (any_value test es (second _ _ sorted))
  where
    Found : List (List ℕ × V) → Type 0
    Found all = (k : List ℕ) × (v : V) × (find_in bytes_cmp k all ≡ Some v) × (test v ≡ true)

    later : (k : List ℕ) (v : V) → find_in bytes_cmp k es ≡ Some v → (b : Bool) → eq_by_cmp bytes_cmp k e.0 ≡ b → cond b (Some e.1) (find_in bytes_cmp k es) ≡ Some v
    later k v found true same = absurd (none-some v (sym (find_above bytes_cmp nat_list_cmp_total k e.0 es (equal (bytes_cmp k e.0) same) (first _ _ sorted)) ∙ found))
    later k v found false other = found

    by : (b : Bool) → test e.1 ≡ b → b || list_any test (mapped (λ x. x.1) es) ≡ true → (list_any test (mapped (λ x. x.1) es) ≡ true → Found es) → Found (e ∷ es)
    by true is any rest = (e.0, e.1, ap (λ r. cond (is_eq r) (Some e.1) (find_in bytes_cmp e.0 es)) (tied_itself nat_list_cmp_total e.0), is)
    by false is any rest = (let r = rest any in (r.0, r.1, later r.0 r.1 r.2 (eq_by_cmp bytes_cmp r.0 e.0) refl, r.3))
