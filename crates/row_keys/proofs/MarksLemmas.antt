-- A metadata row is one table's id and one end row.
use Rattle.std.proofs.Common.{◌≡◌, ◌↔◌, inl, inr, ℕ, zero, suc, ◌<◌, ◌≤◌, Bool, true, false, not, ltb, cond, List, [], ◌∷◌, ◌++◌, length, take, drop, get_or, Option, None, Some, IsTrue, IfNone, position, refl, sym, ap, ◌∙◌, subst, arith, take-append-drop, drop-cons}
use Rattle.std.proofs.lemmas.List.{take_all}
use Rattle.std.specs.List.{list_all, position_or_len}
use Rattle.std.proofs.lemmas.Bool.{and_parts, and_from}
use Rattle.std.proofs.lemmas.Bool.Decides.{nat_tests}
use Rattle.std.proofs.lemmas.List.{nil_from_length}
use Rattle.std.proofs.lemmas.List.Quantifiers.{position-Some}
use Rattle.std.proofs.lemmas.List.Sums.{fails_before_first}
use Rattle.row_keys.specs.Forms.{IsTableId, is_lower_or_digit}
use Rattle.row_keys.specs.Marks.{is_mark, is_unmarked, IsSplit}
use Rattle.row_keys.specs.MetadataRow.{metadata_row, IsMetadataRow}

not_true : (b : Bool) → b ≡ true → not b ≡ true → ⊥
not_true true is isnt = cc
not_true false is isnt = cc

not_false : (b : Bool) → b ≡ false → not b ≡ true
not_false true is = cc
not_false false is = refl

-- the first mark parts a list in one way
pub parted_once : (a b : List ℕ) (m n : ℕ) (x y : List ℕ) → IsTrue (is_unmarked a) → IsTrue (is_unmarked b) → is_mark m ≡ true → is_mark n ≡ true → a ++ m ∷ x ≡ b ++ n ∷ y → (a ≡ b) × (m ≡ n) × (x ≡ y)
parted_once [] [] m n x y free_a free_b mark_m mark_n e = (refl, cc, cc)
parted_once [] (c ∷ b) m n x y free_a free_b mark_m mark_n e =
    let same : m ≡ c = cc in
    absurd (not_true (is_mark c) (subst (λ (k : ℕ). is_mark k ≡ true) same mark_m) (and_parts (not (is_mark c)) (is_unmarked b) free_b).0)
parted_once (c ∷ a) [] m n x y free_a free_b mark_m mark_n e =
    let same : n ≡ c = cc in
    absurd (not_true (is_mark c) (subst (λ (k : ℕ). is_mark k ≡ true) same mark_n) (and_parts (not (is_mark c)) (is_unmarked a) free_a).0)
parted_once (c ∷ a) (d ∷ b) m n x y free_a free_b mark_m mark_n e =
    let heads : c ≡ d = cc in
    let tails : a ++ m ∷ x ≡ b ++ n ∷ y = cc in
    let rest = parted_once a b m n x y (and_parts (not (is_mark c)) (is_unmarked a) free_a).1 (and_parts (not (is_mark d)) (is_unmarked b) free_b).1 mark_m mark_n tails in
    let same : a ≡ b = rest.0 in
    (cc, rest.1, rest.2)

-- a list with a mark is not unmarked
pub marked : (a : List ℕ) (m : ℕ) (x : List ℕ) → is_mark m ≡ true → IsTrue (is_unmarked (a ++ m ∷ x)) → ⊥
marked [] m x mark free = not_true (is_mark m) mark (and_parts (not (is_mark m)) (is_unmarked x) free).0
marked (c ∷ a) m x mark free = marked a m x mark (and_parts (not (is_mark c)) (is_unmarked (a ++ m ∷ x)) free).1

lower_or_digit_is_no_mark : (b : ℕ) → is_lower_or_digit b ≡ true → not (is_mark b) ≡ true
lower_or_digit_is_no_mark b is = grind (arith, nat_tests)

user_id_is_unmarked : (id : List ℕ) → IsTrue (list_all is_lower_or_digit id) → IsTrue (is_unmarked id)
user_id_is_unmarked [] each = refl
user_id_is_unmarked (b ∷ id) each =
    let parts = and_parts (is_lower_or_digit b) (list_all is_lower_or_digit id) each in
    and_from (not (is_mark b)) (is_unmarked id) (lower_or_digit_is_no_mark b parts.0) (user_id_is_unmarked id parts.1)

-- no table's id has a mark
pub id_is_unmarked : (id : List ℕ) → IsTableId id → IsTrue (is_unmarked id)
id_is_unmarked id (inl root) = ap is_unmarked root
id_is_unmarked id (inr (inl metadata)) = ap is_unmarked metadata
id_is_unmarked id (inr (inr user)) = user_id_is_unmarked id user.each

-- no mark among the first ones
unmarked_below : (xs : List ℕ) (i : ℕ) → i ≤ length xs → ((k : ℕ) → k < i → is_mark (get_or xs k 0) ≡ false) → IsTrue (is_unmarked (take i xs))
unmarked_below xs zero within each = refl
unmarked_below [] (suc i) within each = absurd (omega arith)
unmarked_below (x ∷ xs) (suc i) within each =
    and_from (not (is_mark x)) (is_unmarked (take i xs)) (not_false (is_mark x) (each 0 (omega arith)))
    (unmarked_below xs i (omega arith) (λ k h. each (suc k) (omega arith)))

nowhere : (n m : ℕ) (b : Bool) → ltb n m ≡ b → None ≡ cond b (Some n) None → m ≤ n
nowhere n m true is none = absurd cc
nowhere n m false is none = search (arith, nat_tests)

-- what the place of the first mark says
pub front_is_unmarked : (bytes : List ℕ) (at : ℕ) → Some at ≡ position is_mark bytes → IsTrue (is_unmarked (take at bytes))
front_is_unmarked bytes at is =
    let found = position-Some is_mark bytes at 0 (sym is) in
    unmarked_below bytes at (omega (arith, found.0)) found.2

pub mark_there : (bytes back : List ℕ) (at mark : ℕ) → Some at ≡ position is_mark bytes → drop at bytes ≡ mark ∷ back → is_mark mark ≡ true
mark_there bytes back at mark is behind =
    let found = position-Some is_mark bytes at 0 (sym is) in
    let within : at < length bytes = found.0 in
    let here = drop-cons bytes at 0 within in
    let same : get_or bytes at 0 ≡ mark = cc (here, behind) in
    subst (λ (b : ℕ). is_mark b ≡ true) same found.1

pub joined : (bytes front back rest : List ℕ) (at mark : ℕ) → front ≡ take at bytes → back ≡ drop at bytes → back ≡ mark ∷ rest → bytes ≡ front ++ mark ∷ rest
joined bytes front back rest at mark first behind is =
    sym (take-append-drop at bytes) ∙ ap (λ (l : List ℕ). take at bytes ++ l) (sym behind ∙ is) ∙ ap (λ (l : List ℕ). l ++ mark ∷ rest) (sym first)

pub all_unmarked : (bytes : List ℕ) → None ≡ position is_mark bytes → IsTrue (is_unmarked bytes)
all_unmarked bytes none =
    let n = position_or_len is_mark bytes in
    let past : length bytes ≤ n = nowhere n (length bytes) (ltb n (length bytes)) refl none in
    subst (λ (l : List ℕ). IsTrue (is_unmarked l)) (take_all (length bytes) bytes (omega arith))
    (unmarked_below bytes (length bytes) (omega arith) (λ k h. fails_before_first is_mark bytes k 0 (omega arith)))

-- no metadata row without a mark
pub no_metadata_row : (bytes : List ℕ) → IsTrue (is_unmarked bytes) → (table : List ℕ) (end : Option (List ℕ)) → IsMetadataRow table end bytes → ⊥
no_metadata_row bytes free table (Some end) row = marked table 59 end refl (subst (λ (l : List ℕ). IsTrue (is_unmarked l)) row.is free)
no_metadata_row bytes free table None row = marked table 60 [] refl (subst (λ (l : List ℕ). IsTrue (is_unmarked l)) row.is free)

-- a metadata row's id is what stands before the first mark
pub id_before_mark : (bytes front back : List ℕ) (mark : ℕ) → IsTrue (is_unmarked front) → is_mark mark ≡ true → bytes ≡ front ++ mark ∷ back → (table : List ℕ) (end : Option (List ℕ)) → IsMetadataRow table end bytes → (front ≡ table) × (mark ∷ back ≡ metadata_row [] end)
id_before_mark bytes front back mark free is_one is table (Some end) row =
    let same = parted_once front table mark 59 back end free (id_is_unmarked table row.name.id) is_one refl (sym is ∙ row.is) in
    let marks : mark ≡ 59 = same.1 in
    let backs : back ≡ end = same.2 in
    (same.0, cc)
id_before_mark bytes front back mark free is_one is table None row =
    let same = parted_once front table mark 60 back [] free (id_is_unmarked table row.name.id) is_one refl (sym is ∙ row.is) in
    let marks : mark ≡ 60 = same.1 in
    let backs : back ≡ [] = same.2 in
    (same.0, cc)

-- what is behind the first mark is neither a short end row's nor the last tablet's
pub none_behind_mark : (bytes front back : List ℕ) (mark : ℕ) → IsTrue (is_unmarked front) → is_mark mark ≡ true → bytes ≡ front ++ mark ∷ back → (mark ≡ 60 → length back ≡ 0 → ⊥) → (mark ≡ 59 → length back ≤ 256 → ⊥) → (table : List ℕ) (end : Option (List ℕ)) → IsMetadataRow table end bytes → ⊥
none_behind_mark bytes front back mark free is_one is no_last no_end table (Some end) row =
    let same = (id_before_mark bytes front back mark free is_one is table (Some end) row).1 in
    let marks : mark ≡ 59 = cc same in
    let backs : back ≡ end = cc same in
    no_end marks (subst (λ (l : List ℕ). length l ≤ 256) (sym backs) row.name.short)
none_behind_mark bytes front back mark free is_one is no_last no_end table None row =
    let same = (id_before_mark bytes front back mark free is_one is table None row).1 in
    let marks : mark ≡ 60 = cc same in
    let backs : back ≡ [] = cc same in
    no_last marks (ap (length {A = ℕ}) backs)

-- parts whose first isn't an id
pub none_without_id : (bytes front : List ℕ) (end : Option (List ℕ)) → IsSplit front end bytes → (IsTableId front → ⊥) → (table : List ℕ) (other : Option (List ℕ)) → IsMetadataRow table other bytes → ⊥
none_without_id bytes front (Some end) split no_id table other row =
    let same = (id_before_mark bytes front end 59 split.unmarked refl split.is table other row).0 in
    no_id (subst IsTableId (sym same) row.name.id)
none_without_id bytes front None split no_id table other row =
    let same = (id_before_mark bytes front [] 60 split.unmarked refl split.is table other row).0 in
    no_id (subst IsTableId (sym same) row.name.id)

pub split_last : (bytes front back : List ℕ) (mark : ℕ) → IsTrue (is_unmarked front) → bytes ≡ front ++ mark ∷ back → mark ≡ 60 → length back ≡ 0 → IsSplit front None bytes
split_last bytes front back mark free is marks none =
    let backs = nil_from_length back none in
    record { unmarked = free; short = tt; is = is ∙ ap (λ (l : List ℕ). front ++ mark ∷ l) backs ∙ ap (λ (m : ℕ). front ++ m ∷ []) marks }

pub split_end : (bytes front back : List ℕ) (mark : ℕ) → IsTrue (is_unmarked front) → bytes ≡ front ++ mark ∷ back → mark ≡ 59 → length back ≤ 256 → IsSplit front (Some back) bytes
split_end bytes front back mark free is marks short =
    record { unmarked = free; short = short; is = is ∙ ap (λ (m : ℕ). front ++ m ∷ back) marks }

-- what holds whatever is there
pub if_none : {T P : Type 0} (o : Option T) → P → IfNone o P
if_none None p = p
if_none (Some x) p = tt

-- parts whose first is an id are a metadata row's, and others are none's
pub is_a_row : {P : Type 0} (bytes front : List ℕ) (end : Option (List ℕ)) → (P → ⊥) → IsSplit front end bytes → IsTableId front → P ↔ ((table : List ℕ) (end : Option (List ℕ)) → IsMetadataRow table end bytes → ⊥)
is_a_row bytes front end never split id =
    (λ p. absurd (never p), λ none. absurd (none front end (record { name = record { id = id; short = split.short }; is = split.is })))

pub is_no_row : {P : Type 0} (bytes front : List ℕ) (end : Option (List ℕ)) → P → IsSplit front end bytes → (IsTableId front → ⊥) → P ↔ ((table : List ℕ) (end : Option (List ℕ)) → IsMetadataRow table end bytes → ⊥)
is_no_row bytes front end p split no_id = (λ _. none_without_id bytes front end split no_id, λ _. p)
