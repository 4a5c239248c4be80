-- Lists that are compared item by item.
use Rattle.std.proofs.Common.{◌≡◌, ℕ, zero, suc, ◌+◌, ◌≤◌, ◌<◌, List, [], ◌∷◌, ◌++◌, length, take, get_or, map, refl, sym, ◌∙◌, ap, arith}
use Rattle.std.proofs.lemmas.List.{take_all, take_more}
use Rattle.metadata_schema.specs.declared.mutation.Mutation.{Mutation}
use Rattle.metadata_schema.specs.declared.mutation.Update.{Update}
use Rattle.state_reader.proofs.RowLists.{one_more}

-- one item more that is the same
pub same_more : {X : Type 0} (one other : List X) (i : ℕ) (x y : X) → take i one ≡ take i other → i < length one → i < length other → x ≡ get_or one i x → y ≡ get_or other i y → x ≡ y → take (i + 1) one ≡ take (i + 1) other
same_more one other i x y front below within at there is =
    one_more one i x below at ∙ (λ j. front j ++ is j ∷ []) ∙ sym (one_more other i y within there)

pub same_all : {X : Type 0} (one other : List X) (i : ℕ) → take i one ≡ take i other → length one ≤ i → length other ≤ i → one ≡ other
same_all one other i front below within = sym (take_all i one below) ∙ front ∙ take_all i other within

-- what stands in a list whatever the default
read_once : {X : Type 0} (xs : List X) (i : ℕ) (a b : X) → i < length xs → get_or xs i a ≡ get_or xs i b
read_once [] i a b lt = absurd (omega (arith, lt))
read_once (x ∷ xs) zero a b lt = refl
read_once (x ∷ xs) (suc i) a b lt = read_once xs i a b (omega (arith, lt))

pub differ_at : {X : Type 0} (one other : List X) (i : ℕ) (x y : X) → x ≡ get_or one i x → y ≡ get_or other i y → i < length other → (x ≡ y → ⊥) → one ≡ other → ⊥
differ_at one other i x y at there within apart is = apart (at ∙ ap (λ l. get_or l i x) is ∙ read_once other i x y within ∙ sym there)

-- ---- mutations

pub same_update : (one other : Update) → one.family ≡ other.family → one.qualifier ≡ other.qualifier → one.value ≡ other.value → one ≡ other
same_update one other f q v = λ i. record { family = f i; qualifier = q i; value = v i }

pub same_mutation : (one other : Mutation) → one.table ≡ other.table → one.row ≡ other.row → one.time ≡ other.time → one.updates ≡ other.updates → one ≡ other
same_mutation one other t r m u = λ i. record { table = t i; row = r i; time = m i; updates = u i }
