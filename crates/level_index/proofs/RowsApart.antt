-- Rows of tablets, of paths to be deleted and of paths that are loaded are apart.
use Rattle.std.proofs.Common.{◌≡◌, inl, inr, ℕ, true, List, [], ◌∷◌, ◌++◌, drop, codes, Option, Some, None, sym, ◌∙◌, ap, subst, arith}
use Rattle.std.specs.List.{list_all}
use Rattle.std.proofs.lemmas.Bool.{and_parts}
use Rattle.row_keys.specs.Forms.{IsTableId, is_lower_or_digit}
use Rattle.row_keys.specs.MetadataRow.{metadata_row, IsTabletName}
use Rattle.store_meaning.specs.Levels.{candidate_row, flag_row}

-- a table's id doesn't begin with `~`
id_is_no_mark : (table more rest : List ℕ) → IsTableId table → table ++ more ≡ 126 ∷ rest → ⊥
id_is_no_mark table more rest (inl is) e = first_two (sym (ap (λ t. t ++ more) is) ∙ e)
  where
    first_two : 43 ∷ 114 ∷ more ≡ 126 ∷ rest → ⊥
    first_two e = (let at : ◌≡◌ {A = ℕ} 43 126 = cc e in omega (arith, at))
id_is_no_mark table more rest (inr (inl is)) e = first_two (sym (ap (λ t. t ++ more) is) ∙ e)
  where
    first_two : 33 ∷ 48 ∷ more ≡ 126 ∷ rest → ⊥
    first_two e = (let at : ◌≡◌ {A = ℕ} 33 126 = cc e in omega (arith, at))
id_is_no_mark [] more rest (inr (inr form)) e = let least = form.least in omega (arith, least)
id_is_no_mark (b ∷ bs) more rest (inr (inr form)) e =
    let at : b ≡ 126 = cc e in
    let is = (and_parts (is_lower_or_digit b) (list_all is_lower_or_digit bs) form.each).0 in
    let wrong : is_lower_or_digit 126 ≡ true = subst (λ x. is_lower_or_digit x ≡ true) at is in
    cc wrong

tablet_is_no_mark : (table : List ℕ) (end : Option (List ℕ)) (rest : List ℕ) → IsTabletName table end → metadata_row table end ≡ 126 ∷ rest → ⊥
tablet_is_no_mark table None rest name e = id_is_no_mark table (60 ∷ []) rest name.id e
tablet_is_no_mark table (Some end) rest name e = id_is_no_mark table (59 ∷ end) rest name.id e

pub tablet_no_candidate : (table : List ℕ) (end : Option (List ℕ)) (path : List ℕ) → IsTabletName table end → metadata_row table end ≡ candidate_row path → ⊥
tablet_no_candidate table end path name e = tablet_is_no_mark table end (codes "del" ++ path) name e

pub tablet_no_flag : (table : List ℕ) (end : Option (List ℕ)) (path : List ℕ) → IsTabletName table end → metadata_row table end ≡ flag_row path → ⊥
tablet_no_flag table end path name e = tablet_is_no_mark table end (codes "blip" ++ path) name e

pub candidate_no_flag : (path other : List ℕ) → candidate_row path ≡ flag_row other → ⊥
candidate_no_flag path other e = (let at : ◌≡◌ {A = ℕ} 100 98 = cc e in omega (arith, at))

pub same_candidate : (path other : List ℕ) → candidate_row path ≡ candidate_row other → path ≡ other
same_candidate path other e = ap (drop 4) e

pub same_flag : (path other : List ℕ) → flag_row path ≡ flag_row other → path ≡ other
same_flag path other e = ap (drop 5) e
