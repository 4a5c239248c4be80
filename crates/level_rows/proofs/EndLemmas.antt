-- Tests of end rows and of names.
use Rattle.std.proofs.Common.{◌≡◌, ◌≢◌, inl, inr, ℕ, List, true, false, Option, Some, None, refl, sym, ◌∙◌, ap}
use Rattle.std.proofs.lemmas.Bool.{cases_Bool, and_parts, and_from}
use Rattle.std.proofs.lemmas.Map.Lookups.{exact_bytes}
use Rattle.std.proofs.lemmas.Slice.Eq.{bytes_eq-Decides}
use Rattle.std.specs.Option.{option_cmp}
use Rattle.std.specs.declared.cmp.Ordering.TheVariants.{Equal}
use Rattle.row_keys.specs.RowOrder.{bytes_cmp}
use Rattle.metadata_schema.specs.declared.tablet.TabletRecord.{TabletRecord}
use Rattle.metadata_schema.specs.Bytes.{same}
use Rattle.level_rows.specs.Chain.{same_end, is_named}

pub same-true : (a b : List ℕ) → same a b ≡ true → a ≡ b
same-true a b = (bytes_eq-Decides a b).0

pub same-refl : (a : List ℕ) → same a a ≡ true
same-refl a = (bytes_eq-Decides a a).1 refl

pub same-itself : (a b : List ℕ) → a ≡ b → same a b ≡ true
same-itself a b is = ap (same a) (sym is) ∙ same-refl a

pub same_end-true : (a b : Option (List ℕ)) → same_end a b ≡ true → a ≡ b
same_end-true None None e = refl
same_end-true None (Some b) e = cc
same_end-true (Some a) None e = cc
same_end-true (Some a) (Some b) e = ap Some (same-true a b e)

pub same_end-refl : (a : Option (List ℕ)) → same_end a a ≡ true
same_end-refl None = refl
same_end-refl (Some a) = same-refl a

pub same_end-apart : (a b : Option (List ℕ)) → a ≢ b → same_end a b ≡ false
same_end-apart a b other = elim (cases_Bool (same_end a b)) [ inl is ↦ absurd (other (same_end-true a b is)) | inr is ↦ is ]

-- a record is named by its own table and end row, and by no others
pub named-parts : (table : List ℕ) (end : Option (List ℕ)) (t : TabletRecord) → is_named table end t ≡ true → (t.table ≡ table) × (t.end ≡ end)
named-parts table end t e =
    let parts = and_parts (same t.table table) (same_end t.end end) e in
    (same-true t.table table parts.0, same_end-true t.end end parts.1)

pub named-from : (table : List ℕ) (end : Option (List ℕ)) (t : TabletRecord) → t.table ≡ table → t.end ≡ end → is_named table end t ≡ true
named-from table end t at ends =
    and_from (same t.table table) (same_end t.end end) (ap (same t.table) (sym at) ∙ same-refl t.table) (ap (same_end t.end) (sym ends) ∙ same_end-refl t.end)

pub end_cmp-equal : (a b : Option (List ℕ)) → option_cmp bytes_cmp a b ≡ Equal → a ≡ b
end_cmp-equal None None e = refl
end_cmp-equal None (Some b) e = cc
end_cmp-equal (Some a) None e = cc
end_cmp-equal (Some a) (Some b) e = ap Some (exact_bytes a b e)
