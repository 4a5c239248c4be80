-- Columns in order, all of the table, are their parts by name, joined.
use Rattle.std.proofs.Common.{◌≡◌, ℕ, Bool, true, false, ◌&&◌, ◌||◌, cond, List, [], ◌∷◌, ◌++◌, Option, Some, None, Ordering, Less, Equal, Greater, IsTrue, refl, sym, ap, ◌∙◌}
use Rattle.std.specs.Prelude.{codes, IsSome}
use Rattle.std.specs.Ordering.{is_lt, ordering_then, ordering_reverse}
use Rattle.std.specs.List.{list_all, list_any, All, filter}
use Rattle.std.specs.Option.{option_flatten}
use Rattle.std.specs.Cmp.Lexicographic.{same_text}
use Rattle.std.proofs.lemmas.Bool.{false≢true, and_parts}
use Rattle.std.proofs.lemmas.List.Elements.{All-head, All-tail}
use Rattle.row_keys.specs.RowOrder.{bytes_cmp}
use Rattle.metadata_schema.specs.declared.mutation.Update.{Update}
use Rattle.metadata_schema.specs.Bytes.{same, is_rising}
use Rattle.metadata_schema.specs.Columns.{update_cmp, is_named, update_at, column_at, at_most_one}
use Rattle.metadata_schema.proofs.OrderLemmas.{Above, update_total, less_is, named_is, not_named}

-- a family, and a qualifier where the family has a few only
abbrev pub Name : Type 0
Name = List ℕ × Option (List ℕ)

abbrev is_of : List ℕ → Option (List ℕ) → Update → Bool
is_of family None u = same u.family family
is_of family (Some qualifier) u = is_named family qualifier u

abbrev pub has_name : Name → Update → Bool
has_name name u = is_of name.0 name.1 u

abbrev qualifiers_cmp : Option (List ℕ) → Option (List ℕ) → Ordering
qualifiers_cmp (Some a) (Some b) = bytes_cmp a b
qualifiers_cmp (Some a) None = Equal
qualifiers_cmp None b = Equal

-- all columns of the one stand before those of the other
abbrev pub is_before : Name → Name → Bool
is_before one other = is_lt (ordering_then (bytes_cmp one.0 other.0) (qualifiers_cmp one.1 other.1))

abbrev pub are_in_order : List Name → Bool
are_in_order [] = true
are_in_order (name ∷ names) = list_all (is_before name) names && are_in_order names

abbrev pub has_any : List Name → Update → Bool
has_any names u = list_any (λ name. has_name name u) names

-- the columns of each name, in the order of the names
abbrev pub joined : List Name → List Update → List Update
joined [] us = []
joined (name ∷ names) us = filter (has_name name) us ++ joined names us

-- ---- the order of names is that of their columns

family_is : (f : List ℕ) (o : Option (List ℕ)) (u : Update) → is_of f o u ≡ true → u.family ≡ f
family_is f None u is = same_text u.family f (sym is)
family_is f (Some q) u is = (named_is f q u is).0

less_first : (o x : Ordering) → is_lt (ordering_then o Equal) ≡ true → ordering_then o x ≡ Less
less_first Less x is = refl
less_first Equal x is = absurd (false≢true is)
less_first Greater x is = absurd (false≢true is)

by_families : (f g : List ℕ) (u v : Update) → u.family ≡ f → v.family ≡ g → update_cmp u v ≡ ordering_then (bytes_cmp f g) (bytes_cmp u.qualifier v.qualifier)
by_families f g u v one two =
    ap (λ (l : List ℕ). ordering_then (bytes_cmp l v.family) (bytes_cmp u.qualifier v.qualifier)) one ∙ ap (λ (l : List ℕ). ordering_then (bytes_cmp f l) (bytes_cmp u.qualifier v.qualifier)) two

before_is_less : (f : List ℕ) (a : Option (List ℕ)) (g : List ℕ) (b : Option (List ℕ)) (u v : Update) → is_of f a u ≡ true → is_of g b v ≡ true → is_before (f, a) (g, b) ≡ true → update_cmp u v ≡ Less
before_is_less f (Some p) g (Some q) u v one two before =
    by_families f g u v (family_is f (Some p) u one) (family_is g (Some q) v two)
    ∙ ap (λ (l : List ℕ). ordering_then (bytes_cmp f g) (bytes_cmp l v.qualifier)) (named_is f p u one).1
    ∙ ap (λ (l : List ℕ). ordering_then (bytes_cmp f g) (bytes_cmp p l)) (named_is g q v two).1 ∙ less_is _ before
before_is_less f (Some p) g None u v one two before = by_families f g u v (family_is f (Some p) u one) (family_is g None v two) ∙ less_first (bytes_cmp f g) _ before
before_is_less f None g b u v one two before = by_families f g u v (family_is f None u one) (family_is g b v two) ∙ less_first (bytes_cmp f g) _ before

not_both : (u v : Update) → update_cmp u v ≡ Less → update_cmp v u ≡ Less → ⊥
not_both u v one two = absurd (false≢true (ap is_lt (sym (update_total.antisymm u v ∙ ap ordering_reverse two)) ∙ ap is_lt one))

-- ---- one column in front

skipped : (name : Name) (names : List Name) (u : Update) (us : List Update) → has_name name u ≡ true → list_all (is_before name) names ≡ true → joined names (u ∷ us) ≡ joined names us
skipped name [] u us is before = refl
skipped name (other ∷ names) u us is before =
    let parts = and_parts (is_before name other) (list_all (is_before name) names) before in
    ap (λ (b : Bool). cond b (u ∷ filter (has_name other) us) (filter (has_name other) us) ++ joined names (u ∷ us)) (at (has_name other u) refl parts.0)
    ∙ ap (λ (l : List Update). filter (has_name other) us ++ l) (skipped name names u us is parts.1)
  where
    at : (b : Bool) → has_name other u ≡ b → is_before name other ≡ true → b ≡ false
    at true there less = let one = before_is_less name.0 name.1 other.0 other.1 u u is there less in absurd (not_both u u one one)
    at false there less = refl

below : (name : Name) (names : List Name) (v u : Update) → has_name name v ≡ true → has_any names u ≡ true → list_all (is_before name) names ≡ true → update_cmp v u ≡ Less
below name [] v u is any before = absurd (false≢true any)
below name (other ∷ names) v u is any before = at (has_name other u) refl (λ more. below name names v u is more parts.1)
  where
    parts : (is_before name other ≡ true) × (list_all (is_before name) names ≡ true)
    parts = and_parts (is_before name other) (list_all (is_before name) names) before

    at : (b : Bool) → has_name other u ≡ b → (has_any names u ≡ true → update_cmp v u ≡ Less) → update_cmp v u ≡ Less
    at true there rest = before_is_less name.0 name.1 other.0 other.1 v u is there parts.0
    at false there rest = rest (sym (ap (λ (b : Bool). b || has_any names u) there) ∙ any)

none_behind : (name : Name) (names : List Name) (u : Update) (us : List Update) → has_any names u ≡ true → list_all (is_before name) names ≡ true → Above u us → filter (has_name name) us ≡ []
none_behind name names u [] any before above = refl
none_behind name names u (v ∷ us) any before above = ap (λ (b : Bool). cond b (v ∷ filter (has_name name) us) (filter (has_name name) us)) (at (has_name name v) refl) ∙ none_behind name names u us any before parts.1
  where
    parts : (is_lt (update_cmp u v) ≡ true) × Above u us
    parts = and_parts (is_lt (update_cmp u v)) (list_all (λ other. is_lt (update_cmp u other)) us) above

    at : (b : Bool) → has_name name v ≡ b → b ≡ false
    at true is = absurd (not_both u v (less_is _ parts.0) (below name names v u is any before))
    at false is = refl

in_front : (names : List Name) (u : Update) (us : List Update) → are_in_order names ≡ true → has_any names u ≡ true → Above u us → joined names (u ∷ us) ≡ u ∷ joined names us
in_front [] u us order any above = absurd (false≢true any)
in_front (name ∷ names) u us order any above = at (has_name name u) refl (λ more. in_front names u us parts.1 more above)
  where
    parts : (list_all (is_before name) names ≡ true) × (are_in_order names ≡ true)
    parts = and_parts (list_all (is_before name) names) (are_in_order names) order

    at : (b : Bool) → has_name name u ≡ b → (has_any names u ≡ true → joined names (u ∷ us) ≡ u ∷ joined names us) → joined (name ∷ names) (u ∷ us) ≡ u ∷ joined (name ∷ names) us
    at true is later =
        ap (λ (b : Bool). cond b (u ∷ filter (has_name name) us) (filter (has_name name) us) ++ joined names (u ∷ us)) is
        ∙ ap (λ (l : List Update). u ∷ (filter (has_name name) us ++ l)) (skipped name names u us is parts.0)
    at false is later =
        let rest : has_any names u ≡ true = sym (ap (λ (b : Bool). b || has_any names u) is) ∙ any in
        let none = none_behind name names u us rest parts.0 above in
        ap (λ (b : Bool). cond b (u ∷ filter (has_name name) us) (filter (has_name name) us) ++ joined names (u ∷ us)) is
        ∙ ap (λ (l : List Update). l ++ joined names (u ∷ us)) none ∙ later rest ∙ ap (λ (l : List Update). u ∷ (l ++ joined names us)) (sym none)

nothing_joined : (names : List Name) → joined names [] ≡ []
nothing_joined [] = refl
nothing_joined (name ∷ names) = nothing_joined names

pub are_joined : (names : List Name) (us : List Update) → are_in_order names ≡ true → IsTrue (is_rising update_cmp us) → All (λ u. has_any names u ≡ true) us → us ≡ joined names us
are_joined names [] order rising all = sym (nothing_joined names)
are_joined names (u ∷ us) order rising all =
    let parts = and_parts (list_all (λ other. is_lt (update_cmp u other)) us) (is_rising update_cmp us) rising in
    ap (λ (l : List Update). u ∷ l) (are_joined names us order parts.1 (All-tail (λ u. has_any names u ≡ true) u us all))
    ∙ sym (in_front names u us order (All-head (λ u. has_any names u ≡ true) u us all) parts.0)

-- ---- the columns of one name

filtered_none : (f q : List ℕ) (u : Update) (us : List Update) → is_named f q u ≡ true → Above u us → filter (is_named f q) us ≡ []
filtered_none f q u [] named above = refl
filtered_none f q u (v ∷ us) named above =
    let parts = and_parts (is_lt (update_cmp u v)) (list_all (λ other. is_lt (update_cmp u other)) us) above in
    ap (λ (b : Bool). cond b (v ∷ filter (is_named f q) us) (filter (is_named f q) us)) (not_named f q u v named parts.0) ∙ filtered_none f q u us named parts.1

written_is : (f q : List ℕ) (u : Update) (o : Option (List ℕ)) → u.value ≡ o → IsSome o → u.family ≡ f → u.qualifier ≡ q → u ∷ [] ≡ at_most_one f q o
written_is f q u None is some family qualifier = absurd (false≢true some)
written_is f q u (Some value) is some family qualifier = ap (λ (v : Update). v ∷ []) (λ i. record { family = family i; qualifier = qualifier i; value = is i })

pub one_named : (f q : List ℕ) (us : List Update) → IsTrue (is_rising update_cmp us) → All (λ u. IsSome u.value) us → filter (is_named f q) us ≡ at_most_one f q (column_at us f q)
one_named f q [] rising given = refl
one_named f q (u ∷ us) rising given = at (is_named f q u) refl (one_named f q us parts.1 (All-tail (λ u. IsSome u.value) u us given))
  where
    parts : Above u us × IsTrue (is_rising update_cmp us)
    parts = and_parts (list_all (λ other. is_lt (update_cmp u other)) us) (is_rising update_cmp us) rising

    at : (b : Bool) → is_named f q u ≡ b → filter (is_named f q) us ≡ at_most_one f q (column_at us f q) → filter (is_named f q) (u ∷ us) ≡ at_most_one f q (column_at (u ∷ us) f q)
    at true named rest =
        let names = named_is f q u named in
        ap (λ (b : Bool). cond b (u ∷ filter (is_named f q) us) (filter (is_named f q) us)) named ∙ ap (λ (l : List Update). u ∷ l) (filtered_none f q u us named parts.0)
        ∙ written_is f q u u.value refl (All-head (λ u. IsSome u.value) u us given) names.0 names.1
        ∙ sym (ap (λ (b : Bool). at_most_one f q (option_flatten (cond b (Some u.value) (update_at us f q)))) named)
    at false other rest =
        ap (λ (b : Bool). cond b (u ∷ filter (is_named f q) us) (filter (is_named f q) us)) other ∙ rest
        ∙ sym (ap (λ (b : Bool). at_most_one f q (option_flatten (cond b (Some u.value) (update_at us f q)))) other)

-- ---- the table

abbrev pub table : List Name
table =
    (codes "chopped", Some (codes "chopped")) ∷ (codes "file", None) ∷ (codes "future", None) ∷ (codes "loaded", None) ∷ (codes "loc", None) ∷ (codes "log", None)
    ∷ (codes "srv", Some (codes "dir")) ∷ (codes "srv", Some (codes "time"))
    ∷ (codes "~tab", Some (codes "merged")) ∷ (codes "~tab", Some (codes "oldprevrow")) ∷ (codes "~tab", Some (codes "~pr")) ∷ []

pub table_in_order : are_in_order table ≡ true
table_in_order = refl
