-- The order of metadata rows, and that each is of one tablet.
use Rattle.std.proofs.Common.{◌≡◌, ◌⊎◌, inl, inr, ℕ, ◌<◌, ◌≤◌, true, not, List, [], ◌∷◌, ◌++◌, Option, None, Some, IsTrue, Ordering, Less, Equal, Greater, refl, sym, ap, ◌∙◌, arith}
use Rattle.std.specs.Ordering.{ordering_then, nat_cmp}
use Rattle.std.specs.Cmp.{nat_cmp_is}
use Rattle.std.specs.FinMap.{nat_cmp-IsAntisymmetric}
use Rattle.std.proofs.lemmas.Bool.{and_parts}
use Rattle.std.proofs.lemmas.Bool.Decides.{nat_tests}
use Rattle.std.proofs.lemmas.Cmp.{nat_cmp_total, tied_itself}
use Rattle.row_keys.specs.Forms.{IsTableId}
use Rattle.row_keys.specs.Marks.{is_mark, is_unmarked}
use Rattle.row_keys.specs.MetadataRow.{metadata_row, IsTabletName, end_cmp}
use Rattle.row_keys.specs.RowOrder.{bytes_cmp}
use Rattle.row_keys.proofs.MarksLemmas.{parted_once, id_is_unmarked}

pub one_to_one : (table other : List ℕ) (end last : Option (List ℕ)) → IsTabletName table end → IsTabletName other last → metadata_row table end ≡ metadata_row other last → (table ≡ other) × (end ≡ last)
one_to_one table other (Some end) (Some last) name named e =
    let same = parted_once table other 59 59 end last (id_is_unmarked table name.id) (id_is_unmarked other named.id) refl refl e in
    (same.0, ap Some same.2)
one_to_one table other (Some end) None name named e =
    let same = parted_once table other 59 60 end [] (id_is_unmarked table name.id) (id_is_unmarked other named.id) refl refl e in
    let marks : ◌≡◌ {A = ℕ} 59 60 = same.1 in
    absurd (omega arith)
one_to_one table other None (Some last) name named e =
    let same = parted_once table other 60 59 [] last (id_is_unmarked table name.id) (id_is_unmarked other named.id) refl refl e in
    let marks : ◌≡◌ {A = ℕ} 60 59 = same.1 in
    absurd (omega arith)
one_to_one table other None None name named e =
    let same = parted_once table other 60 60 [] [] (id_is_unmarked table name.id) (id_is_unmarked other named.id) refl refl e in
    (same.0, refl)

-- a common front does not tell two lists apart
bytes_cmp-append : (front x y : List ℕ) → bytes_cmp (front ++ x) (front ++ y) ≡ bytes_cmp x y
bytes_cmp-append [] x y = refl
bytes_cmp-append (c ∷ front) x y =
    ap (λ o. ordering_then o (bytes_cmp (front ++ x) (front ++ y))) (tied_itself nat_cmp_total c) ∙ bytes_cmp-append front x y

pub by_end_row : (table : List ℕ) (end last : Option (List ℕ)) → bytes_cmp (metadata_row table end) (metadata_row table last) ≡ end_cmp end last
by_end_row table (Some end) (Some last) = bytes_cmp-append table (59 ∷ end) (59 ∷ last)
by_end_row table (Some end) None = bytes_cmp-append table (59 ∷ end) (60 ∷ [])
by_end_row table None (Some last) = bytes_cmp-append table (60 ∷ []) (59 ∷ last)
by_end_row table None None = bytes_cmp-append table (60 ∷ []) (60 ∷ [])

-- a byte that is no mark stands below both marks or above both
mark_range : (m : ℕ) → is_mark m ≡ true → (59 ≤ m) × (m ≤ 60)
mark_range m is = (grind (arith, nat_tests), grind (arith, nat_tests))

off_marks : (c : ℕ) → not (is_mark c) ≡ true → (c < 59) ⊎ (60 < c)
off_marks c is = grind (arith, nat_tests)

nat_cmp-marks : (m p c : ℕ) → is_mark m ≡ true → is_mark p ≡ true → not (is_mark c) ≡ true → (r s : Ordering) → ordering_then (nat_cmp m c) r ≡ ordering_then (nat_cmp p c) s
nat_cmp-marks m p c mark_m mark_p off r s =
    let of_m = mark_range m mark_m in
    let of_p = mark_range p mark_p in
    elim (off_marks c off) [
      | inl low ↦ sym (ap (λ o. ordering_then o r) (nat_cmp_is m c Greater (omega (arith, of_m.0, low)))) ∙ ap (λ o. ordering_then o s) (nat_cmp_is p c Greater (omega (arith, of_p.0, low)))
      | inr high ↦ sym (ap (λ o. ordering_then o r) (nat_cmp_is m c Less (omega (arith, of_m.1, high)))) ∙ ap (λ o. ordering_then o s) (nat_cmp_is p c Less (omega (arith, of_p.1, high)))
    ]

nat_cmp-marks_back : (m p c : ℕ) → is_mark m ≡ true → is_mark p ≡ true → not (is_mark c) ≡ true → (r s : Ordering) → ordering_then (nat_cmp c m) r ≡ ordering_then (nat_cmp c p) s
nat_cmp-marks_back m p c mark_m mark_p off r s =
    let of_m = mark_range m mark_m in
    let of_p = mark_range p mark_p in
    elim (off_marks c off) [
      | inl low ↦ sym (ap (λ o. ordering_then o r) (nat_cmp_is c m Less (omega (arith, of_m.0, low)))) ∙ ap (λ o. ordering_then o s) (nat_cmp_is c p Less (omega (arith, of_p.0, low)))
      | inr high ↦ sym (ap (λ o. ordering_then o r) (nat_cmp_is c m Greater (omega (arith, of_m.1, high)))) ∙ ap (λ o. ordering_then o s) (nat_cmp_is c p Greater (omega (arith, of_p.1, high)))
    ]

-- behind two different ids what follows does not matter
apart : (t u : List ℕ) (m n p q : ℕ) (x y z w : List ℕ) → IsTrue (is_unmarked t) → IsTrue (is_unmarked u) → (t ≡ u → ⊥) → is_mark m ≡ true → is_mark n ≡ true → is_mark p ≡ true → is_mark q ≡ true
    → bytes_cmp (t ++ m ∷ x) (u ++ n ∷ y) ≡ bytes_cmp (t ++ p ∷ z) (u ++ q ∷ w)
apart [] [] m n p q x y z w free_t free_u other mark_m mark_n mark_p mark_q = absurd (other refl)
apart [] (c ∷ u) m n p q x y z w free_t free_u other mark_m mark_n mark_p mark_q =
    nat_cmp-marks m p c mark_m mark_p (and_parts (not (is_mark c)) (is_unmarked u) free_u).0 _ _
apart (c ∷ t) [] m n p q x y z w free_t free_u other mark_m mark_n mark_p mark_q =
    nat_cmp-marks_back n q c mark_n mark_q (and_parts (not (is_mark c)) (is_unmarked t) free_t).0 _ _
apart (c ∷ t) (d ∷ u) m n p q x y z w free_t free_u other mark_m mark_n mark_p mark_q =
    elim (nat_cmp c d) as (λ o. nat_cmp c d ≡ o → ordering_then o (bytes_cmp (t ++ m ∷ x) (u ++ n ∷ y)) ≡ ordering_then o (bytes_cmp (t ++ p ∷ z) (u ++ q ∷ w))) [
      | Less ↦ λ is. refl
      | Equal ↦ λ is.
          let heads : c ≡ d = nat_cmp-IsAntisymmetric c d is in
          apart t u m n p q x y z w (and_parts (not (is_mark c)) (is_unmarked t) free_t).1 (and_parts (not (is_mark d)) (is_unmarked u) free_u).1
          (λ tails. other cc) mark_m mark_n mark_p mark_q
      | Greater ↦ λ is. refl
    ] refl

pub tables_apart : (table other : List ℕ) (end last : Option (List ℕ)) → IsTableId table → IsTableId other → (table ≡ other → ⊥) → bytes_cmp (metadata_row table end) (metadata_row other last) ≡ bytes_cmp (metadata_row table None) (metadata_row other None)
tables_apart table other (Some end) (Some last) id other_id ne = apart table other 59 59 60 60 end last [] [] (id_is_unmarked table id) (id_is_unmarked other other_id) ne refl refl refl refl
tables_apart table other (Some end) None id other_id ne = apart table other 59 60 60 60 end [] [] [] (id_is_unmarked table id) (id_is_unmarked other other_id) ne refl refl refl refl
tables_apart table other None (Some last) id other_id ne = apart table other 60 59 60 60 [] last [] [] (id_is_unmarked table id) (id_is_unmarked other other_id) ne refl refl refl refl
tables_apart table other None None id other_id ne = refl
