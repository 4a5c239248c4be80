-- Look-ups tell lists of columns in order.
use Rattle.std.proofs.Common.{◌≡◌, ℕ, Bool, true, false, cond, List, [], ◌∷◌, Option, Some, None, Ordering, Less, Equal, Greater, IsTrue, refl, sym, ap, ◌∙◌}
use Rattle.std.specs.Prelude.{MatchBool}
use Rattle.std.specs.Cmp.Lexicographic.{told_text}
use Rattle.std.specs.Ordering.{is_lt}
use Rattle.std.specs.List.{list_all}
use Rattle.std.specs.Option.{option_flatten}
use Rattle.std.proofs.lemmas.Bool.{and_parts, and_from}
use Rattle.std.proofs.lemmas.Option.{same_Some}
use Rattle.metadata_schema.specs.declared.mutation.Update.{Update}
use Rattle.metadata_schema.specs.Bytes.{same, is_rising}
use Rattle.metadata_schema.specs.Columns.{update_at, update_cmp}
use Rattle.metadata_schema.specs.Columns.{is_named}
use Rattle.metadata_schema.proofs.OrderLemmas.{Above, same_column, greater_back, named_same, absent, above_more}
use Rattle.metadata_schema.proofs.GivenLemmas.{IsGiven}

named_itself : (u : Update) → is_named u.family u.qualifier u ≡ true
named_itself u = and_from (same u.family u.family) (same u.qualifier u.qualifier) (alike u.family) (alike u.qualifier)
  where
    alike : (l : List ℕ) → same l l ≡ true
    alike l = at (same l l) (told_text l l (same l l) refl)
      where
        at : (b : Bool) → MatchBool b (l ≡ l) (l ≡ l → ⊥) → b ≡ true
        at true told = refl
        at false told = absurd (told refl)

found : (u : Update) (us : List Update) → update_at (u ∷ us) u.family u.qualifier ≡ Some u.value
found u us = ap (λ (b : Bool). cond b (Some u.value) (update_at us u.family u.qualifier)) (named_itself u)

below_all : (x y : Update) (ys : List Update) → update_cmp x y ≡ Less → Above y ys → Above x (y ∷ ys)
below_all x y ys less above = and_from (is_lt (update_cmp x y)) (list_all (λ other. is_lt (update_cmp x other)) ys) (ap is_lt less) (above_more x y ys less above)

differs : (x y : Update) (xs ys : List Update) → update_cmp x y ≡ Less → Above y ys → update_at (x ∷ xs) x.family x.qualifier ≡ update_at (y ∷ ys) x.family x.qualifier → ⊥
differs x y xs ys less above is = let wrong : Some x.value ≡ None = sym (found x xs) ∙ is ∙ absent x.family x.qualifier x (y ∷ ys) (named_itself x) (below_all x y ys less above) in cc

tails_at : (x y : Update) (xs ys : List Update) (f q : List ℕ) → x.family ≡ y.family → x.qualifier ≡ y.qualifier → Above x xs → Above y ys → update_at (x ∷ xs) f q ≡ update_at (y ∷ ys) f q → update_at xs f q ≡ update_at ys f q
tails_at x y xs ys f q families qualifiers one two is = at (is_named f q x) refl
  where
    other : is_named f q x ≡ is_named f q y
    other = named_same f q x y families qualifiers

    at : (b : Bool) → is_named f q x ≡ b → update_at xs f q ≡ update_at ys f q
    at true named = absent f q x xs named one ∙ sym (absent f q y ys (sym other ∙ named) two)
    at false named =
        sym (ap (λ (b : Bool). cond b (Some x.value) (update_at xs f q)) named) ∙ is ∙ ap (λ (b : Bool). cond b (Some y.value) (update_at ys f q)) (sym other ∙ named)

heads_are : (x y : Update) (xs ys : List Update) → x.family ≡ y.family → x.qualifier ≡ y.qualifier → update_at (x ∷ xs) x.family x.qualifier ≡ update_at (y ∷ ys) x.family x.qualifier → x ≡ y
heads_are x y xs ys families qualifiers is =
    let named : is_named x.family x.qualifier y ≡ true = sym (named_same x.family x.qualifier x y families qualifiers) ∙ named_itself x in
    let value : x.value ≡ y.value = same_Some _ _ (sym (found x xs) ∙ is ∙ ap (λ (b : Bool). cond b (Some y.value) (update_at ys x.family x.qualifier)) named) in
    λ i. record { family = families i; qualifier = qualifiers i; value = value i }

pub same_lists : (xs ys : List Update) → IsTrue (is_rising update_cmp xs) → IsTrue (is_rising update_cmp ys) → ((f q : List ℕ) → update_at xs f q ≡ update_at ys f q) → xs ≡ ys
same_lists [] [] one two is = refl
same_lists [] (y ∷ ys) one two is = absurd (let wrong : None ≡ Some y.value = is y.family y.qualifier ∙ found y ys in cc)
same_lists (x ∷ xs) [] one two is = absurd (let wrong : Some x.value ≡ None = sym (found x xs) ∙ is x.family x.qualifier in cc)
same_lists (x ∷ xs) (y ∷ ys) one two is =
    let first = and_parts (list_all (λ other. is_lt (update_cmp x other)) xs) (is_rising update_cmp xs) one in
    let second = and_parts (list_all (λ other. is_lt (update_cmp y other)) ys) (is_rising update_cmp ys) two in
    by (update_cmp x y) refl first.0 second.0
    (λ families qualifiers. same_lists xs ys first.1 second.1 (λ f q. tails_at x y xs ys f q families qualifiers first.0 second.0 (is f q)))
  where
    by : (o : Ordering) → update_cmp x y ≡ o → Above x xs → Above y ys → (x.family ≡ y.family → x.qualifier ≡ y.qualifier → xs ≡ ys) → x ∷ xs ≡ y ∷ ys
    by Less less above other rest = absurd (differs x y xs ys less other (is x.family x.qualifier))
    by Equal tied above other rest =
        let names = same_column x y tied in
        let head : x ≡ y = heads_are x y xs ys names.0 names.1 (is x.family x.qualifier) in
        let tail : xs ≡ ys = rest names.0 names.1 in
        cc
    by Greater greater above other rest = absurd (differs y x ys xs (greater_back x y greater) above (sym (is y.family y.qualifier)))

pub joined : (x y : Option (Option (List ℕ))) → IsGiven x → IsGiven y → option_flatten x ≡ option_flatten y → x ≡ y
joined None None one two e = refl
joined None (Some None) one two e = absurd two
joined None (Some (Some w)) one two e = cc
joined (Some None) y one two e = absurd one
joined (Some (Some v)) None one two e = cc
joined (Some (Some v)) (Some None) one two e = absurd two
joined (Some (Some v)) (Some (Some w)) one two e = ap Some e
