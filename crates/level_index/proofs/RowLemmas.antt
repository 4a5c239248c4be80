-- Which rows are of a level, and the pairs of one row.
use Rattle.std.proofs.Common.{◌≡◌, ◌≢◌, inl, inr, ℕ, ◌+◌, ◌<◌, Bool, true, false, List, [], ◌∷◌, ◌++◌, length, take, drop, get_or, Contains, Option, None, MatchBool, nat_eq, refl, sym, ◌∙◌, ap, subst, add-one}
use Rattle.std.specs.Cmp.Lexicographic.{pointwise}
use Rattle.std.proofs.Math.Seq.{take-append_seam, drop-cons}
use Rattle.std.proofs.lemmas.Bool.{false≢true}
use Rattle.std.proofs.lemmas.List.{take-append-drop}
use Rattle.std.proofs.lemmas.List.Elements.{Contains-append_cases}
use Rattle.row_keys.specs.MetadataRow.{IsMetadataRow}
use Rattle.row_keys.proofs.MetadataRowsLemmas.{one_to_one}
use Rattle.cell_merge.specs.declared.cell.Pair.{Pair}
use Rattle.cell_merge.proofs.Membership.{Contains-nil}
use Rattle.level_rows.proofs.EndLemmas.{same-true, same-itself}
use Rattle.store_meaning.specs.RowWrites.{LevelRow, RecordRow, CandidateRow, FlagRow, MayStand, place_of}
use Rattle.state_reader.specs.declared.level.LevelKind.{LevelKind}
use Rattle.state_reader.specs.LevelRows.{IsOfKind}
use Rattle.state_reader.proofs.RowLists.{one_more, last_is}
use Rattle.level_index.specs.Entries.{IsRowOf}
use Rattle.level_index.specs.RowReads.{BeginWith, IsMarked, IsFirstRow}
use Rattle.level_index.proofs.RowsApart.{tablet_no_candidate, tablet_no_flag}

-- ---- bytes in front

pub begins : (front bytes : List ℕ) (b : Bool) → b ≡ pointwise nat_eq front (take (length front) bytes) → MatchBool b (BeginWith front bytes) (BeginWith front bytes → ⊥)
begins front bytes true e = (drop (length front) bytes, sym (take-append-drop (length front) bytes) ∙ ap (λ l. l ++ drop (length front) bytes) (sym (same-true front (take (length front) bytes) (sym e))))
begins front bytes false e = λ with.
    let whole : take (length front) bytes ≡ front = ap (take (length front)) with.1 ∙ take-append_seam front with.0 in
    false≢true (e ∙ same-itself front (take (length front) bytes) (sym whole))

-- ---- rows of a level

pub tablet_row_of : (kind : LevelKind) (row table : List ℕ) (end : Option (List ℕ)) → IsMetadataRow table end row → (b : Bool) → MatchBool b (IsOfKind kind table) (IsOfKind kind table → ⊥) → MatchBool b (IsRowOf kind row) (IsRowOf kind row → ⊥)
tablet_row_of kind row table end named true of = record { to = RecordRow table end None; place = named.is; may = (of, named.name, tt) }
tablet_row_of kind row table end named false other = λ is. by is.to is.place is.may
  where
    by : (to : LevelRow) → row ≡ place_of to → MayStand (IsOfKind kind) to → ⊥
    by (RecordRow t e x) place may = other (subst (IsOfKind kind) (one_to_one t table e end may.1 named.name (sym place ∙ named.is)).0 may.0)
    by (CandidateRow path b) place may = tablet_no_candidate table end path named.name (sym named.is ∙ place)
    by (FlagRow path f) place may = tablet_no_flag table end path named.name (sym named.is ∙ place)

pub marked_row_of : (kind : LevelKind) (row : List ℕ) → ((table : List ℕ) (end : Option (List ℕ)) → IsMetadataRow table end row → ⊥) → (b : Bool) → MatchBool b (IsMarked row) (IsMarked row → ⊥) → MatchBool b (IsRowOf kind row) (IsRowOf kind row → ⊥)
marked_row_of kind row none true (inl with) = record { to = CandidateRow with.0 false; place = with.1; may = λ (e : false ≡ true). cc }
marked_row_of kind row none true (inr with) = record { to = FlagRow with.0 None; place = with.1; may = tt }
marked_row_of kind row none false unmarked = λ is. by is.to is.place is.may
  where
    by : (to : LevelRow) → row ≡ place_of to → MayStand (IsOfKind kind) to → ⊥
    by (RecordRow t e x) place may = none t e (record { name = may.1; is = place })
    by (CandidateRow path b) place may = unmarked (inl (path, place))
    by (FlagRow path f) place may = unmarked (inr (path, place))

-- ---- the pairs of the first row

-- each of these pairs is of the row
pub record AreOfRow (row : List ℕ) (pairs : List Pair) : Type 0 where
  pub each : (pair : Pair) → Contains pairs pair → pair.key.row ≡ row

pub of_row_none : (row : List ℕ) → AreOfRow row []
of_row_none row = record { each = λ pair there. absurd (Contains-nil pair there) }

pub of_row_more : (row : List ℕ) (pairs : List Pair) (i : ℕ) (pair : Pair) → i < length pairs → pair ≡ get_or pairs i pair → pair.key.row ≡ row → AreOfRow row (take i pairs) → AreOfRow row (take (i + 1) pairs)
of_row_more row pairs i pair lt at is are = subst (AreOfRow row) (sym (one_more pairs i pair lt at)) (record {
  each = λ other there. elim (Contains-append_cases (take i pairs) (pair ∷ []) other there) [
    | inl front ↦ are.each other front
    | inr last ↦ subst (λ (p : Pair). p.key.row ≡ row) (last_is pair other last) is
  ];
})

head_of : Pair → List Pair → Pair
head_of d [] = d
head_of d (p ∷ ps) = p

same_head : (p q : Pair) (ps qs : List Pair) → p ∷ ps ≡ q ∷ qs → p ≡ q
unfolding head_of
same_head p q ps qs e = ap (head_of p) e

-- the row ends before this pair
pub first_ends : (row : List ℕ) (pairs : List Pair) (i : ℕ) (pair : Pair) → i < length pairs → pair ≡ get_or pairs i pair → pair.key.row ≢ row → AreOfRow row (take i pairs) → (front back : List Pair) → front ≡ take i pairs → back ≡ drop i pairs → IsFirstRow row pairs front back
first_ends row pairs i pair lt at other are front back is behind = record {
  parts = sym (take-append-drop i pairs) ∙ (λ j. sym is j ++ sym behind j);
  each = λ p there. are.each p (subst (λ (l : List Pair). Contains l p) is there);
  next = λ p rest e at_row.
      let cons : back ≡ pair ∷ drop (i + 1) pairs = behind ∙ drop-cons pairs i pair lt ∙ (λ j. sym at j ∷ drop (sym (add-one i) j) pairs) in
      let same : p ≡ pair = same_head p pair rest (drop (i + 1) pairs) (sym e ∙ cons) in
      other (ap (λ (x : Pair). x.key.row) (sym same) ∙ at_row);
}

-- all are of the row
pub first_whole : (row : List ℕ) (pairs : List Pair) → AreOfRow row (take (length pairs) pairs) → (front back : List Pair) → front ≡ take (length pairs) pairs → back ≡ drop (length pairs) pairs → IsFirstRow row pairs front back
first_whole row pairs are front back is behind = record {
  parts = sym (take-append-drop (length pairs) pairs) ∙ (λ j. sym is j ++ sym behind j);
  each = λ p there. are.each p (subst (λ (l : List Pair). Contains l p) is there);
  next = λ p rest e. absurd (none_behind p rest (sym (behind ∙ nothing_behind pairs) ∙ e));
}
  where
    nothing_behind : (ps : List Pair) → drop (length ps) ps ≡ []
    nothing_behind [] = refl
    nothing_behind (q ∷ qs) = nothing_behind qs

    none_behind : (p : Pair) (rest : List Pair) → [] ≡ p ∷ rest → ⊥
    none_behind p rest e = cc
