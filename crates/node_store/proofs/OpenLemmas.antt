-- What an opening finds.
use Rattle.std.proofs.lemmas.Bool.{cases_Bool, eqb-true}
use Rattle.std.proofs.Common.{◌≡◌, inl, inr, ℕ, ◌≤◌, false, List, [], ◌∷◌, length, take, slice_index_or, nat_eq, Option, Some, None, Result, Err, IfErr, MatchBool, refl, sym, ◌∙◌, ap, subst, arith}
use Rattle.std.specs.Option.{option_map}
use Rattle.std.proofs.lemmas.Option.{same_Some}
use Rattle.host_model.specs.Picture.{Image, file_at}
use Rattle.host_model.specs.State.{HostState}
use Rattle.host_model.specs.Calls.{IsPart}
use Rattle.host_model.specs.declared.fault.Stop.{Stop}
use Rattle.host_model.specs.declared.fault.Stop.TheVariants.{Host, Damaged, Full, NoMemory}
use Rattle.journal_core.specs.Records.{HasRecords}
use Rattle.journal_core.specs.Journal as journal
use Rattle.journal_core.specs.Journal.{Holds, IsDamaged}
use Rattle.journal_core.proofs.ReadingLemmas.{one_list}
use Rattle.node_store.specs.Image.{FoldTo, HasNoNodes, IsBorn, IsUnborn}
use Rattle.node_store.specs.Reading.{FoldsNone}
use Rattle.node_store.specs.Answers.{OpenCause}

-- a file with no records has no nodes
damaged_none : (name : List ℕ) (image : Image) → IsDamaged name image → HasNoNodes name image
damaged_none name image damaged = record {
  none = λ nodes has. damaged.none _ has.records (record { file = has.there.file; is = has.there.is; ends = record { has = has.there.has; counts = refl } });
}

pub open_cause : (name : List ℕ) (stop : Stop) (old new : HostState) → journal.OpenCause name stop old new → OpenCause name stop old new
open_cause name (Host fault) old new cause = cause
open_cause name (Damaged damaged) old new cause = (cause.0, λ faithful. damaged_none name old.files (cause.1 faithful), cause.2)
open_cause name Full old new cause = cause
open_cause name NoMemory old new cause = cause

pub open_causes : (name : List ℕ) {T : Type 0} (result : Result T Stop) (stop : Stop) (old new : HostState) → result ≡ Err stop → journal.OpenCause name stop old new → IfErr result (λ s. OpenCause name s old new)
open_causes name result stop old new is cause = rw is (open_cause name stop old new cause)

-- records that make no nodes
pub no_nodes : {name : List ℕ} {end : ℕ} {records : List (List ℕ)} {image : Image} → Holds name end records image → FoldsNone records → HasNoNodes name image
no_nodes {name} {end} {records} {image} holds none = record {
  none = λ nodes has.
      let file = same_Some _ _ (sym has.there.is ∙ holds.is) in
      let same = one_list holds.file has.records records (subst (λ f. HasRecords f has.records) file has.there.has) holds.ends.has in
      none.none nodes (subst (λ r. FoldTo r _ nodes) same has.folds);
}

-- ---- whether a file is born

-- the first byte of a file of two bytes or more
pub born_by_byte : (name : List ℕ) (image : Image) (n : ℕ) (into : List ℕ) → Some n ≡ option_map length (file_at image name) → 2 ≤ n → length into ≡ 1
    → ((file : List ℕ) → file_at image name ≡ Some file → IsPart file 0 into) → MatchBool (nat_eq (slice_index_or into 0 0) 1) (IsBorn name image) (IsUnborn name image)
born_by_byte name image n into size long one part = at (file_at image name) refl
  where
    of_file : (file : List ℕ) → file_at image name ≡ Some file → MatchBool (nat_eq (slice_index_or into 0 0) 1) (IsBorn name image) (IsUnborn name image)
    of_file [] is = absurd (omega (arith, same_Some _ _ (size ∙ ap (option_map length) is), long))
    of_file (a ∷ []) is = absurd (omega (arith, same_Some _ _ (size ∙ ap (option_map length) is), long))
    of_file (a ∷ b ∷ rest) is =
        let read : a ∷ [] ≡ into = ap (λ k. take k (a ∷ b ∷ rest)) (sym one) ∙ part (a ∷ b ∷ rest) is in
        let first : slice_index_or into 0 0 ≡ a = ap (λ l. slice_index_or l 0 0) (sym read) in
        subst (λ x. MatchBool (nat_eq x 1) (IsBorn name image) (IsUnborn name image)) (sym first)
        (elim (cases_Bool (nat_eq a 1)) [
          | inl one_is ↦ rw one_is (record { second = b; rest = rest; is = is ∙ ap (λ x. Some (x ∷ b ∷ rest)) (eqb-true a 1 one_is) })
          | inr other ↦ rw other (record { none = λ born. absurd (differs a born.second born.rest b rest (same_Some _ _ (sym is ∙ born.is)) other) })
        ])
      where
        differs : (a s : ℕ) (r : List ℕ) (b : ℕ) (rest : List ℕ) → a ∷ b ∷ rest ≡ 1 ∷ s ∷ r → nat_eq a 1 ≡ false → ⊥
        differs a s r b rest e other = let one : a ≡ 1 = cc e in cc (subst (λ x. nat_eq x 1 ≡ false) one other)

    at : (o : Option (List ℕ)) → file_at image name ≡ o → MatchBool (nat_eq (slice_index_or into 0 0) 1) (IsBorn name image) (IsUnborn name image)
    at None is = let e = size ∙ ap (option_map length) is in cc e
    at (Some file) is = of_file file is
