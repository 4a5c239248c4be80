-- The rows of pairs, one pair after another.
use Rattle.std.proofs.Common.{◌≡◌, inl, inr, ℕ, ◌+◌, ◌<◌, List, [], ◌∷◌, ◌++◌, length, take, get_or, Contains, refl, sym, ◌∙◌, ap, subst}
use Rattle.std.proofs.lemmas.List.{take_more}
use Rattle.std.proofs.lemmas.List.Elements.{Contains-append_left, Contains-append_right, Contains-append_cases}
use Rattle.cell_merge.specs.declared.cell.Pair.{Pair}
use Rattle.level_rows.proofs.Membership.{Contains-nil, Contains-here, Contains-cons_cases}
use Rattle.state_reader.specs.Columns.{HasPair, AreRowsOf}

-- ---- one element more

pub last_is : {X : Type 0} (x y : X) → Contains (x ∷ []) y → x ≡ y
last_is x y there = elim (Contains-cons_cases x y [] there) [ inl is ↦ is | inr none ↦ absurd (Contains-nil y none) ]

pub one_more : {X : Type 0} (xs : List X) (i : ℕ) (x : X) → i < length xs → x ≡ get_or xs i x → take (i + 1) xs ≡ take i xs ++ x ∷ []
one_more xs i x lt at = take_more xs i x lt ∙ ap (λ y. take i xs ++ y ∷ []) (sym at)

-- ---- rows

has_more : (pairs : List Pair) (pair : Pair) (row : List ℕ) → HasPair pairs row → HasPair (pairs ++ pair ∷ []) row
has_more pairs pair row has = record { pair = has.pair; there = Contains-append_left pairs (pair ∷ []) has.pair has.there; at = has.at }

has_last : (pairs : List Pair) (pair : Pair) → HasPair (pairs ++ pair ∷ []) pair.key.row
has_last pairs pair = record { pair = pair; there = Contains-append_right pairs (pair ∷ []) pair (Contains-here pair []); at = refl }

-- a row that comes
pub rows_push : (pairs : List Pair) (pair : Pair) (rows : List (List ℕ)) → AreRowsOf pairs rows → AreRowsOf (pairs ++ pair ∷ []) (rows ++ pair.key.row ∷ [])
rows_push pairs pair rows are = record { each = λ row. (to row, back row) }
  where
    to : (row : List ℕ) → Contains (rows ++ pair.key.row ∷ []) row → HasPair (pairs ++ pair ∷ []) row
    to row there = elim (Contains-append_cases rows (pair.key.row ∷ []) row there) [
      | inl front ↦ has_more pairs pair row ((are.each row).0 front)
      | inr last ↦ subst (HasPair (pairs ++ pair ∷ [])) (last_is pair.key.row row last) (has_last pairs pair)
    ]

    back : (row : List ℕ) → HasPair (pairs ++ pair ∷ []) row → Contains (rows ++ pair.key.row ∷ []) row
    back row has = elim (Contains-append_cases pairs (pair ∷ []) has.pair has.there) [
      | inl front ↦ Contains-append_left rows (pair.key.row ∷ []) row ((are.each row).1 (record { pair = has.pair; there = front; at = has.at }))
      | inr last ↦ Contains-append_right rows (pair.key.row ∷ []) row (subst (Contains (pair.key.row ∷ [])) (ap (λ (p : Pair). p.key.row) (last_is pair has.pair last) ∙ has.at) (Contains-here pair.key.row []))
    ]

-- a row that was there
pub rows_keep : (pairs : List Pair) (pair : Pair) (rows : List (List ℕ)) → AreRowsOf pairs rows → Contains rows pair.key.row → AreRowsOf (pairs ++ pair ∷ []) rows
rows_keep pairs pair rows are known = record { each = λ row. (λ there. has_more pairs pair row ((are.each row).0 there), back row) }
  where
    back : (row : List ℕ) → HasPair (pairs ++ pair ∷ []) row → Contains rows row
    back row has = elim (Contains-append_cases pairs (pair ∷ []) has.pair has.there) [
      | inl front ↦ (are.each row).1 (record { pair = has.pair; there = front; at = has.at })
      | inr last ↦ subst (Contains rows) (ap (λ (p : Pair). p.key.row) (last_is pair has.pair last) ∙ has.at) known
    ]
