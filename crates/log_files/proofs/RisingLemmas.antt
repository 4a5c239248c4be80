-- Updates that come one after another in order.
use Rattle.std.proofs.Common.{◌≡◌, ◌↔◌, ℕ, zero, suc, ◌-◌, ◌&&◌, List, [], ◌∷◌, ◌++◌, length, Some, None, Bool, IsTrue, true, refl, sym, ◌∙◌, ap, subst, arith}
use Rattle.std.specs.List.{list_all, slice_get}
use Rattle.std.specs.Ordering.{is_lt}
use Rattle.std.proofs.lemmas.Bool.{and_parts, and_from}
use Rattle.std.proofs.lemmas.Option.{slice_get-get_or, slice_get_within}
use Rattle.metadata_schema.specs.declared.mutation.Update.{Update}
use Rattle.metadata_schema.specs.Bytes.{is_rising}
use Rattle.metadata_schema.specs.Columns.{update_cmp}
use Rattle.metadata_schema.proofs.OrderLemmas.{update_total, less_is}
use Rattle.log_files.specs.Mutations.{AreRising}

-- the last one, and those before it
pub last-split : {X : Type 0} (xs : List X) (n : ℕ) (x : X) → length xs ≡ suc n → slice_get xs n ≡ Some x → (front : List X) × (xs ≡ front ++ x ∷ [])
last-split [] n x long is = absurd (omega arith)
last-split (y ∷ []) zero x long is = ([], let same : y ≡ x = cc in λ i. same i ∷ [])
last-split (y ∷ z ∷ zs) zero x long is = absurd (omega arith)
last-split (y ∷ ys) (suc n) x long is =
    let r = last-split ys n x (omega arith) is in
    (y ∷ r.0, ap (λ l. y ∷ l) r.1)

pub rising-front : (xs ys : List Update) → AreRising (xs ++ ys) → AreRising xs
rising-front [] ys up = refl
rising-front (x ∷ xs) ys up =
    let parts = and_parts (list_all (λ other. is_lt (update_cmp x other)) (xs ++ ys)) (is_rising update_cmp (xs ++ ys)) up in
    and_from (list_all (λ other. is_lt (update_cmp x other)) xs) (is_rising update_cmp xs) (front xs parts.0) (rising-front xs ys parts.1)
  where
    front : (zs : List Update) → list_all (λ other. is_lt (update_cmp x other)) (zs ++ ys) ≡ true → list_all (λ other. is_lt (update_cmp x other)) zs ≡ true
    front [] all = refl
    front (z ∷ zs) all =
        let parts = and_parts (is_lt (update_cmp x z)) (list_all (λ other. is_lt (update_cmp x other)) (zs ++ ys)) all in
        and_from (is_lt (update_cmp x z)) (list_all (λ other. is_lt (update_cmp x other)) zs) parts.0 (front zs parts.1)

-- one above the last
rising-next : (front : List Update) (last c : Update) → AreRising (front ++ last ∷ []) → is_lt (update_cmp last c) ≡ true → AreRising (front ++ last ∷ c ∷ [])
rising-next [] last c up less = and_from (is_lt (update_cmp last c) && true) true (and_from (is_lt (update_cmp last c)) true less refl) refl
rising-next (x ∷ front) last c up less =
    let parts = and_parts (list_all (λ other. is_lt (update_cmp x other)) (front ++ last ∷ [])) (is_rising update_cmp (front ++ last ∷ [])) up in
    and_from (list_all (λ other. is_lt (update_cmp x other)) (front ++ last ∷ c ∷ [])) (is_rising update_cmp (front ++ last ∷ c ∷ [])) (all front parts.0) (rising-next front last c parts.1 less)
  where
    through : is_lt (update_cmp x last) ≡ true → is_lt (update_cmp x c) ≡ true
    through first = ap is_lt (update_total.trans x last c (less_is (update_cmp x last) first) (less_is (update_cmp last c) less))

    all : (zs : List Update) → list_all (λ other. is_lt (update_cmp x other)) (zs ++ last ∷ []) ≡ true → list_all (λ other. is_lt (update_cmp x other)) (zs ++ last ∷ c ∷ []) ≡ true
    all [] is =
        let first = (and_parts (is_lt (update_cmp x last)) true is).0 in
        and_from (is_lt (update_cmp x last)) (is_lt (update_cmp x c) && true) first (and_from (is_lt (update_cmp x c)) true (through first) refl)
    all (z ∷ zs) is =
        let parts = and_parts (is_lt (update_cmp x z)) (list_all (λ other. is_lt (update_cmp x other)) (zs ++ last ∷ [])) is in
        and_from (is_lt (update_cmp x z)) (list_all (λ other. is_lt (update_cmp x other)) (zs ++ last ∷ c ∷ [])) parts.0 (all zs parts.1)

-- the last two
rising-last : (front : List Update) (last c : Update) → AreRising (front ++ last ∷ c ∷ []) → is_lt (update_cmp last c) ≡ true
rising-last [] last c up = (and_parts (is_lt (update_cmp last c)) true (and_parts (is_lt (update_cmp last c) && true) true up).0).0
rising-last (x ∷ front) last c up = rising-last front last c (and_parts (list_all (λ other. is_lt (update_cmp x other)) (front ++ last ∷ c ∷ [])) (is_rising update_cmp (front ++ last ∷ c ∷ [])) up).1

push_twice : {X : Type 0} (front : List X) (last c : X) → (front ++ last ∷ []) ++ c ∷ [] ≡ front ++ last ∷ c ∷ []
push_twice [] last c = refl
push_twice (x ∷ front) last c = ap (λ l. x ∷ l) (push_twice front last c)

pub follows_last : (updates : List Update) (last c : Update) (b : Bool) → AreRising updates → Some last ≡ slice_get updates (length updates - 1) → b ≡ is_lt (update_cmp last c) → IsTrue b ↔ AreRising (updates ++ c ∷ [])
follows_last updates last c b up is said =
    let r = last-split updates (length updates - 1) last (let within = slice_get_within updates (length updates - 1) last (sym is) in omega arith) (sym is) in
    let whole : updates ++ c ∷ [] ≡ r.0 ++ last ∷ c ∷ [] = ap (λ l. l ++ c ∷ []) r.1 ∙ push_twice r.0 last c in (
      λ t. subst AreRising (sym whole) (rising-next r.0 last c (subst AreRising r.1 up) (sym said ∙ t)),
      λ rises. said ∙ rising-last r.0 last c (subst AreRising whole rises),
    )

pub follows_none : (updates : List Update) (c : Update) → None ≡ slice_get updates (length updates - 1) → (b : Bool) → IsTrue b → IsTrue b ↔ AreRising (updates ++ c ∷ [])
follows_none [] c is b t = (λ u. refl, λ rises. t)
follows_none (x ∷ xs) c is b t = absurd (let there = slice_get-get_or (x ∷ xs) (length (x ∷ xs) - 1) x (omega arith) in let wrong = is ∙ there in cc)
