-- Files in an image.
use Rattle.std.proofs.Common.{◌≡◌, ◌≢◌, ◌⊎◌, inl, inr, ℕ, List, Option, Some, None, Bool, true, false, cond, refl, sym, ◌∙◌, ap, subst}
use Rattle.std.specs.Ordering.{nat_cmp, eq_by_cmp, is_eq}
use Rattle.std.specs.declared.cmp.Ordering.{Ordering}
use Rattle.std.specs.declared.cmp.Ordering.TheVariants.{Less, Equal, Greater}
use Rattle.std.specs.Cmp.{eq_by_cmp_equiv}
use Rattle.std.specs.Cmp.Lexicographic.{slice_cmp, nat_list_cmp_total}
use Rattle.std.specs.FinMap.{get-insert, get-remove, same_map, slice_cmp-IsAntisymmetric, nat_cmp-IsAntisymmetric}
use Rattle.std.proofs.lemmas.Bool.{cases_Bool}
use Rattle.std.proofs.lemmas.Option.{same_Some}
use Rattle.host_model.specs.Picture.{Image, Picture, file_at, set_file, ChangesFile, OnBytes, FileStep}

abbrev same_name : List ℕ → List ℕ → Bool
same_name a b = eq_by_cmp (slice_cmp nat_cmp) a b

equal_names : (a b : List ℕ) → same_name a b ≡ true → a ≡ b
equal_names a b e = slice_cmp-IsAntisymmetric nat_cmp-IsAntisymmetric a b (is_equal (slice_cmp nat_cmp a b) e)
  where
    is_equal : (o : Ordering) → is_eq o ≡ true → o ≡ Equal
    is_equal Less e = cc
    is_equal Equal e = refl
    is_equal Greater e = cc

apart : (a b : List ℕ) → a ≢ b → same_name a b ≡ false
apart a b other = elim (cases_Bool (same_name a b)) [ inl is ↦ absurd (other (equal_names a b is)) | inr is ↦ is ]

-- a name is this one, or not
pub cases_name : (a b : List ℕ) → (a ≡ b) ⊎ (a ≢ b)
cases_name a b = elim (cases_Bool (same_name a b)) [
  | inl is ↦ inl (equal_names a b is)
  | inr is ↦ inr (λ e. let wrong : same_name b b ≡ false = subst (λ n. same_name n b ≡ false) e is in let right : same_name b b ≡ true = (eq_by_cmp_equiv nat_list_cmp_total).refl b in cc)
]

pub file_at-set_file_same : (image : Image) (name : List ℕ) (file : Option (List ℕ)) → file_at (set_file image name file) name ≡ file
file_at-set_file_same image name None = get-remove nat_list_cmp_total image name name ∙ ap (λ b. cond b None (file_at image name)) ((eq_by_cmp_equiv nat_list_cmp_total).refl name)
file_at-set_file_same image name (Some bytes) = get-insert nat_list_cmp_total image name bytes name ∙ ap (λ b. cond b (Some bytes) (file_at image name)) ((eq_by_cmp_equiv nat_list_cmp_total).refl name)

pub file_at-set_file_other : (image : Image) (name : List ℕ) (file : Option (List ℕ)) (q : List ℕ) → q ≢ name → file_at (set_file image name file) q ≡ file_at image q
file_at-set_file_other image name None q other = get-remove nat_list_cmp_total image name q ∙ ap (λ b. cond b None (file_at image q)) (apart q name other)
file_at-set_file_other image name (Some bytes) q other = get-insert nat_list_cmp_total image name bytes q ∙ ap (λ b. cond b (Some bytes) (file_at image q)) (apart q name other)

pub same_image : (a b : Image) → ((q : List ℕ) → file_at a q ≡ file_at b q) → a ≡ b
same_image a b is = same_map nat_list_cmp_total (slice_cmp-IsAntisymmetric nat_cmp-IsAntisymmetric) a b is

-- the last change counts
pub set_file-set_file : (image : Image) (name : List ℕ) (first second : Option (List ℕ)) → set_file (set_file image name first) name second ≡ set_file image name second
set_file-set_file image name first second = same_image _ _ (λ q.
    elim (cases_name q name) [
      | inl same ↦ subst (λ r. file_at (set_file (set_file image name first) name second) r ≡ file_at (set_file image name second) r) (sym same) (file_at-set_file_same _ name second ∙ sym (file_at-set_file_same _ name second))
      | inr other ↦ file_at-set_file_other _ name second q other ∙ file_at-set_file_other image name first q other ∙ sym (file_at-set_file_other image name second q other)
    ])

-- to set what is there changes nothing
pub set_file-own : (image : Image) (name : List ℕ) (file : Option (List ℕ)) → file_at image name ≡ file → set_file image name file ≡ image
set_file-own image name file is = same_image _ _ (λ q.
    elim (cases_name q name) [
      | inl same ↦ subst (λ r. file_at (set_file image name file) r ≡ file_at image r) (sym same) (file_at-set_file_same _ name file ∙ sym is)
      | inr other ↦ file_at-set_file_other image name file q other
    ])

-- what the file is after a change
pub after_change : {name : List ℕ} {step : Option (List ℕ) → Option (List ℕ) → Type 0} {a b : Image} (change : ChangesFile name step a b) → file_at b name ≡ change.after
after_change {name = name} {a = a} change = ap (λ i. file_at i name) change.is ∙ file_at-set_file_same a name change.after

-- the step that a change is
pub step_of : {name : List ℕ} {step : Option (List ℕ) → Option (List ℕ) → Type 0} {a b : Image} → ChangesFile name step a b → step (file_at a name) (file_at b name)
step_of {name} {step} {a} {b} change = subst (λ o. step (file_at a name) o) (sym (after_change change)) change.steps

-- the other files stay
pub others_stay : {name : List ℕ} {step : Option (List ℕ) → Option (List ℕ) → Type 0} {a b : Image} (q : List ℕ) → q ≢ name → ChangesFile name step a b → file_at b q ≡ file_at a q
others_stay {name} {a = a} q other change = ap (λ i. file_at i q) change.is ∙ file_at-set_file_other a name change.after q other

-- two changes of one file are one
pub changes_twice : {name : List ℕ} {first second : Option (List ℕ) → Option (List ℕ) → Type 0} (both : Option (List ℕ) → Option (List ℕ) → Type 0) {a b c : Image} → ChangesFile name first a b → ChangesFile name second b c
    → ((x y z : Option (List ℕ)) → first x y → second y z → both x z) → ChangesFile name both a c
changes_twice {name} {first} {second} both {a} {b} {c} one two join = record {
  after = two.after;
  steps = join (file_at a name) (file_at b name) two.after (step_of one) two.steps;
  is = two.is ∙ ap (λ i. set_file i name two.after) one.is ∙ set_file-set_file a name one.after two.after;
}

-- a change that leaves the file
pub changes_nothing : (name : List ℕ) (step : Option (List ℕ) → Option (List ℕ) → Type 0) (image : Image) → step (file_at image name) (file_at image name) → ChangesFile name step image image
changes_nothing name step image here = record { after = file_at image name; steps = here; is = sym (set_file-own image name (file_at image name) refl) }

pub change_weaker : {name : List ℕ} {first : Option (List ℕ) → Option (List ℕ) → Type 0} (second : Option (List ℕ) → Option (List ℕ) → Type 0) {a b : Image} → ChangesFile name first a b
    → ((x y : Option (List ℕ)) → first x y → second x y) → ChangesFile name second a b
change_weaker second one more = record { after = one.after; steps = more _ _ one.steps; is = one.is }

-- the same with the said bytes
pub file_then : {name : List ℕ} {first second : Option (List ℕ) → Option (List ℕ) → Type 0} (both : Option (List ℕ) → Option (List ℕ) → Type 0) {a b c : Picture} → FileStep name first a b → FileStep name second b c
    → ((x y z : Option (List ℕ)) → first x y → second y z → both x z) → FileStep name both a c
file_then both one two join = record { said = two.said ∙ one.said; steps = changes_twice both one.steps two.steps join }

pub file_weaker : {name : List ℕ} {first : Option (List ℕ) → Option (List ℕ) → Type 0} (second : Option (List ℕ) → Option (List ℕ) → Type 0) {a b : Picture} → FileStep name first a b
    → ((x y : Option (List ℕ)) → first x y → second x y) → FileStep name second a b
file_weaker second one more = record { said = one.said; steps = change_weaker second one.steps more }

pub file_nothing : (name : List ℕ) (step : Option (List ℕ) → Option (List ℕ) → Type 0) (p : Picture) → step (file_at p.image name) (file_at p.image name) → FileStep name step p p
file_nothing name step p here = record { said = refl; steps = changes_nothing name step p.image here }

-- steps of bytes
pub bytes_twice : {first second : List ℕ → List ℕ → Type 0} (both : List ℕ → List ℕ → Type 0) {x y z : Option (List ℕ)} → OnBytes first x y → OnBytes second y z → ((f g h : List ℕ) → first f g → second g h → both f h) → OnBytes both x z
bytes_twice {first} {second} both one two join =
    let mid : one.after ≡ two.before = same_Some _ _ (sym one.is ∙ two.was) in
    record { before = one.before; after = two.after; was = one.was; is = two.is; steps = join one.before one.after two.after one.steps (subst (λ f. second f two.after) (sym mid) two.steps) }

pub bytes_weaker : {first : List ℕ → List ℕ → Type 0} (second : List ℕ → List ℕ → Type 0) {x y : Option (List ℕ)} → OnBytes first x y → ((f g : List ℕ) → first f g → second f g) → OnBytes second x y
bytes_weaker second one more = record { before = one.before; after = one.after; was = one.was; is = one.is; steps = more _ _ one.steps }

-- at a file whose bytes are known
pub bytes_at : {step : List ℕ → List ℕ → Type 0} {x y : Option (List ℕ)} (file : List ℕ) (one : OnBytes step x y) → x ≡ Some file → step file one.after
bytes_at {step} file one is = subst (λ f. step f one.after) (same_Some _ _ (sym one.was ∙ is)) one.steps
