-- One item more of a list.
use Rattle.std.proofs.Common.{◌≡◌, ℕ, zero, suc, ◌+◌, ◌≤◌, List, [], ◌∷◌, ◌++◌, length, take, drop, map, Some, slice_get, refl, ap, arith, add-one}
use Rattle.std.specs.List.{AllByRecursion}

-- what stands behind the first n
pub record Splits {X : Type 0} (xs : List X) (n : ℕ) (x : X) (rest : List X) : Type 0 where
  pub there : n + 1 ≤ length xs
  pub front : take (n + 1) xs ≡ take n xs ++ x ∷ []
  pub back : drop (n + 1) xs ≡ rest

front_suc : {X : Type 0} (xs : List X) (n : ℕ) (x : X) (rest : List X) → drop n xs ≡ x ∷ rest → take (suc n) xs ≡ take n xs ++ x ∷ []
front_suc [] zero x rest e = cc e
front_suc [] (suc n) x rest e = cc e
front_suc (y ∷ ys) zero x rest e = let head : y ≡ x = cc e in ap (λ z. z ∷ []) head
front_suc (y ∷ ys) (suc n) x rest e = ap (λ l. y ∷ l) (front_suc ys n x rest e)

back_suc : {X : Type 0} (xs : List X) (n : ℕ) (x : X) (rest : List X) → drop n xs ≡ x ∷ rest → drop (suc n) xs ≡ rest
back_suc [] zero x rest e = cc e
back_suc [] (suc n) x rest e = cc e
back_suc (y ∷ ys) zero x rest e = cc e
back_suc (y ∷ ys) (suc n) x rest e = back_suc ys n x rest e

there_suc : {X : Type 0} (xs : List X) (n : ℕ) (x : X) (rest : List X) → drop n xs ≡ x ∷ rest → n + 1 ≤ length xs
there_suc [] zero x rest e = cc e
there_suc [] (suc n) x rest e = cc e
there_suc (y ∷ ys) zero x rest e = omega arith
there_suc (y ∷ ys) (suc n) x rest e = omega (arith, there_suc ys n x rest e)

pub splits : {X : Type 0} (xs : List X) (n : ℕ) (x : X) (rest : List X) → drop n xs ≡ x ∷ rest → Splits xs n x rest
splits xs n x rest e = record {
  there = there_suc xs n x rest e;
  front = rw add-one (front_suc xs n x rest e);
  back = rw add-one (back_suc xs n x rest e);
}

pub drop-map : {X Y : Type 0} (f : X → Y) (n : ℕ) (xs : List X) → drop n (map f xs) ≡ map f (drop n xs)
drop-map f zero xs = refl
drop-map f (suc n) [] = refl
drop-map f (suc n) (x ∷ xs) = drop-map f n xs

pub All-one_more : {X : Type 0} (P : X → Type 0) (xs : List X) (x : X) → AllByRecursion P xs → P x → AllByRecursion P (xs ++ x ∷ [])
All-one_more P [] x all is = (is, tt)
All-one_more P (y ∷ ys) x all is = (all.0, All-one_more P ys x all.1 is)

pub get_at : {X : Type 0} (xs : List X) (n : ℕ) (x : X) (rest : List X) → drop n xs ≡ x ∷ rest → slice_get xs n ≡ Some x
get_at [] zero x rest e = cc e
get_at [] (suc n) x rest e = cc e
get_at (y ∷ ys) zero x rest e = let head : y ≡ x = cc e in ap Some head
get_at (y ∷ ys) (suc n) x rest e = get_at ys n x rest e
