-- What the readers of one column, and the loops over columns, say.
use Rattle.std.proofs.Common.{◌≡◌, ℕ, ◌+◌, ◌<◌, ◌≤◌, Bool, true, false, cond, List, [], ◌∷◌, ◌++◌, length, take, drop, get_or, map, Option, Some, None, Result, Ok, Err, refl, sym, ap, ◌∙◌, subst, arith, take-append-drop, drop-cons, add-one}
use Rattle.std.specs.Prelude.{MatchOption, MatchResult}
use Rattle.std.specs.List.{All, filter}
use Rattle.std.specs.Option.{option_flatten}
use Rattle.std.specs.Cmp.Lexicographic.{same_text}
use Rattle.std.proofs.lemmas.List.{nil_from_length, take_more}
use Rattle.std.proofs.lemmas.List.Elements.{All-head, All-get_or, All-filter, filter-append, filter_more, filter_passes}
use Rattle.metadata_schema.specs.declared.mutation.Update.{Update}
use Rattle.metadata_schema.specs.declared.fault.SchemaFault.{SchemaFault}
use Rattle.metadata_schema.specs.declared.fault.SchemaFault.TheVariants.{NoPrev, BadColumn, BadValue, NoMemory}
use Rattle.metadata_schema.specs.declared.kind.Kind.{Kind}
use Rattle.metadata_schema.specs.Bytes.{same}
use Rattle.metadata_schema.specs.Kinds.{kind_of, IsValue, IsColumn, IsValued}
use Rattle.metadata_schema.specs.Columns.{is_named, update_at, column_at}
use Rattle.metadata_schema.specs.Refusals.{Refuses, of_family}

-- what refuses a weaker form refuses a stronger one
pub refuses_more : (Form Stronger : Type 0) (fault : SchemaFault) → (Stronger → Form) → Refuses Form fault → Refuses Stronger fault
refuses_more Form Stronger NoPrev weaker refused = refused
refuses_more Form Stronger BadColumn weaker refused = refused
refuses_more Form Stronger BadValue weaker refused = λ is. refused (weaker is)
refuses_more Form Stronger NoMemory weaker refused = tt

-- ---- one column

pub column_as : (u : Update) (family : List ℕ) → u.family ≡ family → IsColumn u.family u.qualifier → IsColumn family u.qualifier
column_as u family is column = subst (λ (f : List ℕ). IsColumn f u.qualifier) is column

-- the value is of the form of its kind
abbrev pub HasForm : List ℕ → List ℕ → List ℕ → Type 0
HasForm family qualifier value = MatchOption (kind_of family qualifier) ⊥ (λ kind. IsValue kind qualifier value)

valued_at : (u : Update) (family : List ℕ) (o : Option (List ℕ)) → Type 0
valued_at u family o = MatchOption (kind_of family u.qualifier) ⊥ (λ kind. MatchOption o ⊥ (IsValue kind u.qualifier))

pub valued_as : (u : Update) (family value : List ℕ) → u.family ≡ family → u.value ≡ Some value → IsValued u → HasForm family u.qualifier value
unfolding valued_at
valued_as u family value is some valued =
    subst (λ (o : Option (List ℕ)). valued_at u family o) some (subst (λ (f : List ℕ). valued_at u f u.value) is valued)

pub no_value : (u : Update) → u.value ≡ None → IsValued u → ⊥
no_value u none valued = at (kind_of u.family u.qualifier) (subst (λ (o : Option (List ℕ)). MatchOption (kind_of u.family u.qualifier) ⊥ (λ kind. MatchOption o ⊥ (IsValue kind u.qualifier))) none valued)
  where
    at : (k : Option Kind) → MatchOption k ⊥ (λ kind. MatchOption None ⊥ (IsValue kind u.qualifier)) → ⊥
    at None h = h
    at (Some kind) h = h

-- ---- columns of one family

-- the first of the family is the only one
pub only_there : (family : List ℕ) (us : List Update) (i : ℕ) (u : Update) → i < length us → u ≡ get_or us i u → of_family family (take i us) ≡ [] → same u.family family ≡ true → length (of_family family us) ≤ 1
    → of_family family us ≡ u ∷ []
only_there family us i u within is none named one =
    let test : Update → Bool = λ v. same v.family family in
    let more : filter test (take (i + 1) us) ≡ u ∷ [] =
    filter_more test us i u within ∙ ap (λ (v : Update). filter test (take i us) ++ cond (test v) (v ∷ []) []) (sym is)
    ∙ ap (λ (l : List Update). l ++ cond (test u) (u ∷ []) []) none ∙ ap (λ (b : Bool). cond b (u ∷ []) []) named in
    let all : filter test us ≡ u ∷ filter test (drop (i + 1) us) =
    ap (filter test) (sym (take-append-drop (i + 1) us)) ∙ filter-append test (take (i + 1) us) (drop (i + 1) us) ∙ ap (λ (l : List Update). l ++ filter test (drop (i + 1) us)) more in
    let long : length (filter test us) ≡ length (u ∷ filter test (drop (i + 1) us)) = ap length all in
    let empty : length (filter test (drop (i + 1) us)) ≡ 0 = omega (arith, long, one) in
    all ∙ ap (λ (l : List Update). u ∷ l) (nil_from_length (filter test (drop (i + 1) us)) empty)

-- one more column is of the family
pub read_more : {X : Type 0} (column : X → Update) (family : List ℕ) (us : List Update) (i : ℕ) (u : Update) (xs : List X) (x : X) → i < length us → u ≡ get_or us i u → same u.family family ≡ true → column x ≡ u
    → map column xs ≡ of_family family (take i us) → map column (xs ++ x ∷ []) ≡ of_family family (take (i + 1) us)
read_more {X = X} column family us i u xs x within is named read so_far =
    let test : Update → Bool = λ v. same v.family family in
    let more : filter test (take (i + 1) us) ≡ filter test (take i us) ++ u ∷ [] =
    filter_more test us i u within ∙ ap (λ (v : Update). filter test (take i us) ++ cond (test v) (v ∷ []) []) (sym is)
    ∙ ap (λ (b : Bool). filter test (take i us) ++ cond b (u ∷ []) []) named in
    pushed xs ∙ ap (λ (l : List Update). l ++ column x ∷ []) so_far ∙ ap (λ (v : Update). filter test (take i us) ++ v ∷ []) read ∙ sym more
  where
    pushed : (l : List X) → map column (l ++ x ∷ []) ≡ map column l ++ column x ∷ []
    pushed [] = refl
    pushed (y ∷ l) = ap (λ (m : List Update). column y ∷ m) (pushed l)

-- one more column is of another
pub left_out : (family : List ℕ) (us : List Update) (i : ℕ) (u : Update) → i < length us → u ≡ get_or us i u → same u.family family ≡ false → of_family family (take (i + 1) us) ≡ of_family family (take i us)
left_out family us i u within is other =
    let test : Update → Bool = λ v. same v.family family in
    filter_more test us i u within ∙ ap (λ (v : Update). filter test (take i us) ++ cond (test v) (v ∷ []) []) (sym is)
    ∙ ap (λ (b : Bool). filter test (take i us) ++ cond b (u ∷ []) []) other ∙ nothing (filter test (take i us))
  where
    nothing : (l : List Update) → l ++ [] ≡ l
    nothing [] = refl
    nothing (x ∷ l) = ap (λ (m : List Update). x ∷ m) (nothing l)

pub one_is : (P : Update → Type 0) (us : List Update) (i : ℕ) (u : Update) → i < length us → u ≡ get_or us i u → All P us → P u
one_is P us i u within is all = subst P (sym is) (All-get_or P us i u within all)

-- ---- a column of one name

update_at-append : (xs ys : List Update) (f q : List ℕ) → update_at xs f q ≡ None → update_at (xs ++ ys) f q ≡ update_at ys f q
update_at-append [] ys f q none = refl
update_at-append (x ∷ xs) ys f q none = at (is_named f q x) refl (update_at-append xs ys f q)
  where
    at : (b : Bool) → is_named f q x ≡ b → (update_at xs f q ≡ None → update_at (xs ++ ys) f q ≡ update_at ys f q) → update_at ((x ∷ xs) ++ ys) f q ≡ update_at ys f q
    at true named rest = absurd (let wrong : Some x.value ≡ None = sym (ap (λ (b : Bool). cond b (Some x.value) (update_at xs f q)) named) ∙ none in cc)
    at false other rest =
        ap (λ (b : Bool). cond b (Some x.value) (update_at (xs ++ ys) f q)) other
        ∙ rest (sym (ap (λ (b : Bool). cond b (Some x.value) (update_at xs f q)) other) ∙ none)

split_here : (us : List Update) (i : ℕ) (u : Update) → i < length us → u ≡ get_or us i u → us ≡ take i us ++ u ∷ drop (i + 1) us
split_here us i u within is =
    sym (take-append-drop i us) ∙ ap (λ (l : List Update). take i us ++ l) (drop-cons us i u within)
    ∙ ap (λ (n : ℕ). take i us ++ get_or us i u ∷ drop n us) (sym (add-one i)) ∙ ap (λ (v : Update). take i us ++ v ∷ drop (i + 1) us) (sym is)

pub found_here : (us : List Update) (i : ℕ) (u : Update) (f q : List ℕ) → i < length us → u ≡ get_or us i u → update_at (take i us) f q ≡ None → is_named f q u ≡ true → column_at us f q ≡ u.value
found_here us i u f q within is none named =
    ap option_flatten (ap (λ (l : List Update). update_at l f q) (split_here us i u within is) ∙ update_at-append (take i us) (u ∷ drop (i + 1) us) f q none
    ∙ ap (λ (b : Bool). cond b (Some u.value) (update_at (drop (i + 1) us) f q)) named)

pub not_found : (us : List Update) (i : ℕ) (u : Update) (f q : List ℕ) → i < length us → u ≡ get_or us i u → update_at (take i us) f q ≡ None → is_named f q u ≡ false → update_at (take (i + 1) us) f q ≡ None
not_found us i u f q within is none other =
    ap (λ (l : List Update). update_at l f q) (take_more us i u within ∙ ap (λ (v : Update). take i us ++ v ∷ []) (sym is))
    ∙ update_at-append (take i us) (u ∷ []) f q none ∙ ap (λ (b : Bool). cond b (Some u.value) None) other

-- ---- errors handed on

pub match_more : {T : Type 0} (P : T → Type 0) (Form Stronger : Type 0) (r : Result T SchemaFault) → (Stronger → Form) → MatchResult r P (Refuses Form) → MatchResult r P (Refuses Stronger)
match_more P Form Stronger (Ok x) weaker is = is
match_more P Form Stronger (Err fault) weaker is = refuses_more Form Stronger fault weaker is

-- ---- the only column of a family

pub only_one : (P : Update → Type 0) (family : List ℕ) (us : List Update) (u : Update) → of_family family us ≡ u ∷ [] → All P us → P u
only_one P family us u only all = All-head P u [] (subst (All P) only (All-filter (λ v. same v.family family) P us all))

pub only_family : (family : List ℕ) (us : List Update) (u : Update) → of_family family us ≡ u ∷ [] → u.family ≡ family
only_family family us u only =
    let passes = subst (All (λ (v : Update). same v.family family ≡ true)) only (filter_passes (λ (v : Update). same v.family family) us) in
    same_text u.family family (sym (All-head (λ (v : Update). same v.family family ≡ true) u [] passes))
