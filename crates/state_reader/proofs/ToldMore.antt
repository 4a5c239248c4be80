-- What is told of more, one by one.
use Rattle.std.proofs.Common.{◌≡◌, ℕ, ◌+◌, ◌<◌, List, [], ◌∷◌, ◌++◌, length, take, get_or, Contains, Option, Some, None, refl, sym, ◌∙◌, ap, append_assoc}
use Rattle.std.proofs.lemmas.List.{take_more, append-nil}
use Rattle.std.proofs.lemmas.Option.{none-some}
use Rattle.store_meaning.specs.Content.{both_told, all_told}
use Rattle.store_meaning.proofs.MemberLemmas.{all_each}

push : {X Y : Type 0} (f : X → Option (List Y)) (xs : List X) (x : X) (zs : List Y) → f x ≡ Some zs → (ys : List Y) → all_told f xs ≡ Some ys → all_told f (xs ++ x ∷ []) ≡ Some (ys ++ zs)
push f [] x zs is ys e = ap (λ o. both_told o (Some [])) is ∙ ap Some (append-nil zs) ∙ ap (λ o. both_told o (Some zs)) e
push {Y = Y} f (w ∷ xs) x zs is ys e = by (f w) (all_told f xs) (all_told f (xs ++ x ∷ [])) e (push f xs x zs is)
  where
    by : (o p q : Option (List Y)) → both_told o p ≡ Some ys → ((us : List Y) → p ≡ Some us → q ≡ Some (us ++ zs)) → both_told o q ≡ Some (ys ++ zs)
    by None p q e rest = absurd (none-some ys e)
    by (Some front) None q e rest = absurd (none-some ys e)
    by (Some front) (Some back) q e rest = ap (both_told (Some front)) (rest back refl) ∙ ap Some (sym (append_assoc front back zs)) ∙ ap (λ o. both_told o (Some zs)) e

-- one more is told
pub told_more : {X Y : Type 0} (f : X → Option (List Y)) (xs : List X) (i : ℕ) (x : X) (ys zs : List Y) → i < length xs → x ≡ get_or xs i x → all_told f (take i xs) ≡ Some ys → f x ≡ Some zs → all_told f (take (i + 1) xs) ≡ Some (ys ++ zs)
told_more f xs i x ys zs lt at e is = ap (all_told f) (take_more xs i x lt ∙ ap (λ y. take i xs ++ y ∷ []) (sym at)) ∙ push f (take i xs) x zs is ys e

-- all is not told where one isn't
pub untold : {X Y : Type 0} (f : X → Option (List Y)) (xs : List X) (x : X) → Contains xs x → f x ≡ None → all_told f xs ≡ None
untold {Y = Y} f xs x there is = by (all_told f xs) refl
  where
    by : (o : Option (List Y)) → all_told f xs ≡ o → o ≡ None
    by None e = refl
    by (Some ys) e = absurd (let one = all_each f xs ys e x there in none-some one.0 (sym is ∙ one.1))
