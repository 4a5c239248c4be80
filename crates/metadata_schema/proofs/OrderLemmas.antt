-- The order of updates by their columns, and what it says of look-ups.
use Rattle.std.proofs.Common.{◌≡◌, ℕ, Bool, true, false, ◌&&◌, cond, List, [], ◌∷◌, Some, None, Ordering, Less, Equal, Greater, IsTrue, refl, sym, ap, ◌∙◌, subst}
use Rattle.std.specs.Ordering.{is_lt, is_eq, ordering_then, ordering_reverse}
use Rattle.std.specs.List.{list_all}
use Rattle.std.specs.Cmp.{IsTotalOrder}
use Rattle.std.specs.Cmp.Lexicographic.{same_text}
use Rattle.std.proofs.lemmas.Bool.{false≢true, and_parts, and_from}
use Rattle.std.proofs.lemmas.Cmp.{nat_list_cmp_total, on_total, then_total, tied_itself}
use Rattle.std.proofs.lemmas.Map.Lookups.{exact_bytes}
use Rattle.row_keys.specs.RowOrder.{bytes_cmp}
use Rattle.metadata_schema.specs.declared.mutation.Update.{Update}
use Rattle.metadata_schema.specs.Bytes.{same}
use Rattle.metadata_schema.specs.Columns.{update_cmp, is_named, update_at}

-- the update stands before all of these
abbrev pub Above : Update → List Update → Type 0
Above update more = IsTrue (list_all (λ other. is_lt (update_cmp update other)) more)

pub update_total : IsTotalOrder update_cmp
update_total = then_total (on_total (λ (u : Update). u.family) nat_list_cmp_total) (on_total (λ (u : Update). u.qualifier) nat_list_cmp_total)

pub less_is : (o : Ordering) → is_lt o ≡ true → o ≡ Less
less_is Less is = refl
less_is Equal is = absurd (false≢true is)
less_is Greater is = absurd (false≢true is)

both_equal : (a b : Ordering) → ordering_then a b ≡ Equal → (a ≡ Equal) × (b ≡ Equal)
both_equal Less b is = absurd (false≢true (ap is_eq is))
both_equal Equal b is = (refl, is)
both_equal Greater b is = absurd (false≢true (ap is_eq is))

-- updates that tie are of one column
pub same_column : (a b : Update) → update_cmp a b ≡ Equal → (a.family ≡ b.family) × (a.qualifier ≡ b.qualifier)
same_column a b is =
    let parts = both_equal (bytes_cmp a.family b.family) (bytes_cmp a.qualifier b.qualifier) is in
    (exact_bytes a.family b.family parts.0, exact_bytes a.qualifier b.qualifier parts.1)

-- and those of one column tie
pub ties : (a b : Update) → a.family ≡ b.family → a.qualifier ≡ b.qualifier → update_cmp a b ≡ Equal
ties a b families qualifiers =
    ap (λ (f : List ℕ). ordering_then (bytes_cmp f b.family) (bytes_cmp a.qualifier b.qualifier)) families
    ∙ ap (λ (q : List ℕ). ordering_then (bytes_cmp b.family b.family) (bytes_cmp q b.qualifier)) qualifiers
    ∙ ap (λ (o : Ordering). ordering_then o (bytes_cmp b.qualifier b.qualifier)) (tied_itself nat_list_cmp_total b.family)
    ∙ tied_itself nat_list_cmp_total b.qualifier

pub greater_back : (a b : Update) → update_cmp a b ≡ Greater → update_cmp b a ≡ Less
greater_back a b is = update_total.antisymm b a ∙ ap ordering_reverse is

pub above_more : (a b : Update) (us : List Update) → update_cmp a b ≡ Less → Above b us → Above a us
above_more a b [] less above = refl
above_more a b (u ∷ us) less above =
    let parts = and_parts (is_lt (update_cmp b u)) (list_all (λ other. is_lt (update_cmp b other)) us) above in
    and_from (is_lt (update_cmp a u)) (list_all (λ other. is_lt (update_cmp a other)) us)
    (ap is_lt (update_total.trans a b u less (less_is (update_cmp b u) parts.0))) (above_more a b us less parts.1)

pub above_same : (a b : Update) (us : List Update) → a.family ≡ b.family → a.qualifier ≡ b.qualifier → Above a us → Above b us
above_same a b us families qualifiers above =
    let by_family : List ℕ → Type 0 = λ f. IsTrue (list_all (λ (other : Update). is_lt (ordering_then (bytes_cmp f other.family) (bytes_cmp a.qualifier other.qualifier))) us) in
    let by_qualifier : List ℕ → Type 0 = λ q. IsTrue (list_all (λ (other : Update). is_lt (ordering_then (bytes_cmp b.family other.family) (bytes_cmp q other.qualifier))) us) in
    subst by_qualifier qualifiers (subst by_family families above)

pub named_is : (f q : List ℕ) (u : Update) → is_named f q u ≡ true → (u.family ≡ f) × (u.qualifier ≡ q)
named_is f q u is =
    let parts = and_parts (same u.family f) (same u.qualifier q) is in
    (same_text u.family f (sym parts.0), same_text u.qualifier q (sym parts.1))

-- an update of one column is named as the other
pub named_same : (f q : List ℕ) (a b : Update) → a.family ≡ b.family → a.qualifier ≡ b.qualifier → is_named f q a ≡ is_named f q b
named_same f q a b families qualifiers = ap (λ (g : List ℕ). same g f && same a.qualifier q) families ∙ ap (λ (r : List ℕ). same b.family f && same r q) qualifiers

pub not_named : (f q : List ℕ) (k u : Update) → is_named f q k ≡ true → is_lt (update_cmp k u) ≡ true → is_named f q u ≡ false
not_named f q k u named less = at (is_named f q u) refl
  where
    at : (b : Bool) → is_named f q u ≡ b → b ≡ false
    at true is =
        let one = named_is f q k named in
        let other = named_is f q u is in
        absurd (false≢true (sym (ap is_lt (ties k u (one.0 ∙ sym other.0) (one.1 ∙ sym other.1))) ∙ less))
    at false is = refl

-- a column that stands before all of these isn't among them
pub absent : (f q : List ℕ) (k : Update) (us : List Update) → is_named f q k ≡ true → Above k us → update_at us f q ≡ None
absent f q k [] named above = refl
absent f q k (u ∷ us) named above =
    let parts = and_parts (is_lt (update_cmp k u)) (list_all (λ other. is_lt (update_cmp k other)) us) above in
    ap (λ b. cond b (Some u.value) (update_at us f q)) (not_named f q k u named parts.0) ∙ absent f q k us named parts.1
