-- A map of files, seen as an image.
use Rattle.std.proofs.Common.{◌≡◌, ◌≢◌, inl, inr, ℕ, List, [], ◌∷◌, map, take, Option, Some, None, Vec, Bool, true, false, cond, Result, Ok, Err, OnOk, OnErr, IsSome, refl, sym, ◌∙◌, ap, subst}
use Rattle.std.specs.List.{AllByRecursion}
use Rattle.std.specs.Map.{keys_of}
use Rattle.std.specs.FinMap.Entries.{put, by_order}
use Rattle.host_model.specs.Calls.{overlaid}
use Rattle.host_model.proofs.Images.{set_file-own, set_file-set_file}
use Rattle.std.specs.Option.{option_map}
use Rattle.std.specs.Ordering.{nat_cmp, eq_by_cmp, is_eq}
use Rattle.std.specs.declared.cmp.Ordering.{Ordering}
use Rattle.std.specs.declared.cmp.Ordering.TheVariants.{Less, Equal, Greater}
use Rattle.std.specs.declared.alloc.Global.{Global}
use Rattle.std.specs.Cmp.{eq_by_cmp_equiv}
use Rattle.std.specs.Cmp.Lexicographic.{slice_cmp, nat_list_cmp_total}
use Rattle.std.proofs.lemmas.List.{nil_from_length}
use Rattle.std.specs.List.Sorted.{IsStrictlySortedBy}
use Rattle.host_model.specs.Picture.{file_names}
use Rattle.std.specs.FinMap.{get-insert, get-empty, entries, empty, len-entries, len-empty, entries-insert, slice_cmp-IsAntisymmetric, nat_cmp-IsAntisymmetric}
use Rattle.std.specs.Map.{lookup}
use Rattle.std.specs.BTreeMap.{is_at}
use Rattle.std.proofs.lemmas.Bool.{cases_Bool}
use Rattle.host_model.specs.Picture.{Image, file_at, set_file}
use Rattle.host_model.proofs.Images.{cases_name, file_at-set_file_same, file_at-set_file_other, same_image}
use Rattle.memory_host.specs.Files.{Changes, image_of, as_file}
use Rattle.memory_host.specs.Past.{taken_back}
use Rattle.memory_host.specs.declared.event.Written.{Written}

abbrev Entries : Type 0
Entries = List (List ℕ × Vec ℕ Global)

option_map-cond : (b : Bool) (v : Vec ℕ Global) (o : Option (Vec ℕ Global)) → cond b (Some v.items) (as_file o) ≡ as_file (cond b (Some v) o)
option_map-cond true v o = refl
option_map-cond false v o = refl

-- what the image has at a name is what the map has
pub file_at-image_of : (es : Entries) (q : List ℕ) → file_at (image_of es) q ≡ as_file (lookup (is_at (slice_cmp nat_cmp q)) es)
file_at-image_of [] q = get-empty (slice_cmp nat_cmp) q
file_at-image_of (e ∷ es) q =
    get-insert nat_list_cmp_total (image_of es) e.0 e.1.items q
    ∙ ap (λ o. cond (eq_by_cmp (slice_cmp nat_cmp) q e.0) (Some e.1.items) o) (file_at-image_of es q)
    ∙ option_map-cond (eq_by_cmp (slice_cmp nat_cmp) q e.0) e.1 (lookup (is_at (slice_cmp nat_cmp q)) es)

is_equal : (o : Ordering) → is_eq o ≡ true → o ≡ Equal
is_equal Less e = cc
is_equal Equal e = refl
is_equal Greater e = cc

pub here : (name : List ℕ) → is_at (slice_cmp nat_cmp name) name ≡ true
here name = (eq_by_cmp_equiv nat_list_cmp_total).refl name

pub there : (name q : List ℕ) → q ≢ name → is_at (slice_cmp nat_cmp name) q ≡ false
there name q other = elim (cases_Bool (is_at (slice_cmp nat_cmp name) q)) [
  | inl is ↦ absurd (other (sym (slice_cmp-IsAntisymmetric nat_cmp-IsAntisymmetric name q (is_equal (slice_cmp nat_cmp name q) is))))
  | inr is ↦ is
]

-- one entry was put or taken out
pub image_updated : (old new : Entries) (name : List ℕ) (o : Option (Vec ℕ Global))
    → ((q : List ℕ) → lookup (is_at (slice_cmp nat_cmp q)) new ≡ cond (is_at (slice_cmp nat_cmp name) q) o (lookup (is_at (slice_cmp nat_cmp q)) old))
    → image_of new ≡ set_file (image_of old) name (as_file o)
image_updated old new name o updates = same_image _ _ (λ q. file_at-image_of new q ∙ ap (λ (x : Option (Vec ℕ Global)). as_file x) (updates q) ∙ elim (cases_name q name) [
  | inl same ↦ subst (λ r. as_file (cond (is_at (slice_cmp nat_cmp name) r) o (lookup (is_at (slice_cmp nat_cmp r)) old)) ≡ file_at (set_file (image_of old) name (as_file o)) r) (sym same)
      (ap (λ b. as_file (cond b o (lookup (is_at (slice_cmp nat_cmp name)) old))) (here name) ∙ sym (file_at-set_file_same (image_of old) name (as_file o)))
  | inr other ↦ ap (λ b. as_file (cond b o (lookup (is_at (slice_cmp nat_cmp q)) old))) (there name q other) ∙ sym (file_at-image_of old q) ∙ sym (file_at-set_file_other (image_of old) name (as_file o) q other)
])

abbrev At : List ℕ → Entries → Option (Vec ℕ Global)
At name es = lookup (is_at (slice_cmp nat_cmp name)) es

pub is_there : (file : Vec ℕ Global) (o : Option (Vec ℕ Global)) → Some file ≡ o → IsSome o
is_there file o is = subst (λ (x : Option (Vec ℕ Global)). IsSome x) is refl

pub file_here : (es : Entries) (image : Image) (name : List ℕ) (o : Option (Vec ℕ Global)) → image_of es ≡ image → o ≡ At name es → file_at image name ≡ as_file o
file_here es image name o view is = sym (ap (λ (i : Image). file_at i name) view) ∙ file_at-image_of es name ∙ ap (λ (x : Option (Vec ℕ Global)). as_file x) (sym is)

-- a file's bytes changed
pub changed : (change : List ℕ → List ℕ) (old new : Entries) (image : Image) (name : List ℕ) (file w : Vec ℕ Global) → image_of old ≡ image → Some file ≡ At name old
    → ((q : List ℕ) → At q new ≡ cond (is_at (slice_cmp nat_cmp name) q) (Some w) (At q old))
    → w.items ≡ change file.items → Changes name change image (image_of new)
changed change old new image name file w view is updates written =
    image_updated old new name (Some w) updates ∙ ap (λ (i : Image). set_file i name (Some w.items)) view
    ∙ ap (λ (o : Option (List ℕ)). set_file image name o) (ap (λ (l : List ℕ). Some l) written ∙ sym (ap (λ (o : Option (List ℕ)). option_map change o) (file_here old image name (Some file) view is)))

-- a file that isn't there doesn't
pub unchanged : (change : List ℕ → List ℕ) (es : Entries) (image : Image) (name : List ℕ) → image_of es ≡ image → None ≡ At name es → Changes name change image image
unchanged change es image name view none =
    sym (ap (λ (o : Option (List ℕ)). set_file image name (option_map change o)) (file_here es image name None view none) ∙ set_file-own image name None (file_here es image name None view none))

-- a file's bytes were written, or the write failed
pub wrote : {E : Type 0} (result : Result (Unit {0}) E) (change : List ℕ → List ℕ) (old new : Entries) (image : Image) (name : List ℕ) (file w : Vec ℕ Global) → image_of old ≡ image → Some file ≡ At name old
    → ((q : List ℕ) → At q new ≡ cond (is_at (slice_cmp nat_cmp name) q) (Some w) (At q old))
    → OnOk result (w.items ≡ change file.items) → OnOk result (Changes name change image (image_of new))
wrote (Ok u) change old new image name file w view is updates written = changed change old new image name file w view is updates written
wrote (Err e) change old new image name file w view is updates written = tt

pub not_written : {E : Type 0} (result : Result (Unit {0}) E) (old new : Entries) (image : Image) (name : List ℕ) (file w : Vec ℕ Global) → image_of old ≡ image → Some file ≡ At name old
    → ((q : List ℕ) → At q new ≡ cond (is_at (slice_cmp nat_cmp name) q) (Some w) (At q old))
    → OnErr result (w.items ≡ file.items) → OnErr result (image_of new ≡ image)
not_written (Ok u) old new image name file w view is updates same = tt
not_written (Err e) old new image name file w view is updates same =
    image_updated old new name (Some w) updates ∙ ap (λ (i : Image). set_file i name (Some w.items)) view ∙ set_file-own image name (Some w.items) (file_here old image name (Some file) view is ∙ ap (λ (l : List ℕ). Some l) (sym same))

-- a write, and then the length of old
pub took_back : (old mid new : Image) (w : Written) → Changes w.name (λ file. overlaid file w.at w.overwritten.items) old mid → Changes w.name (take w.length) mid new → Changes w.name (taken_back w) old new
took_back old mid new w first second =
    let here : file_at mid w.name ≡ option_map (λ file. overlaid file w.at w.overwritten.items) (file_at old w.name) = ap (λ (i : Image). file_at i w.name) first ∙ file_at-set_file_same old w.name (option_map (λ file. overlaid file w.at w.overwritten.items) (file_at old w.name)) in
    second ∙ ap (λ (o : Option (List ℕ)). set_file mid w.name (option_map (take w.length) o)) here ∙ ap (λ (i : Image). set_file i w.name (option_map (take w.length) (option_map (λ file. overlaid file w.at w.overwritten.items) (file_at old w.name)))) first
    ∙ set_file-set_file old w.name _ _ ∙ ap (λ (o : Option (List ℕ)). set_file old w.name o) (twice w (file_at old w.name))
  where
    twice : (w : Written) (o : Option (List ℕ)) → option_map (take w.length) (option_map (λ file. overlaid file w.at w.overwritten.items) o) ≡ option_map (taken_back w) o
    twice w None = refl
    twice w (Some file) = refl

-- where the keys rise, the entries are those of the list
abbrev plain : Entries → List (List ℕ × List ℕ)
plain es = map (λ (e : List ℕ × Vec ℕ Global). (e.0, e.1.items)) es

put_front : (k : List ℕ) (v : List ℕ) (es : Entries) → AllByRecursion (λ (y : List ℕ). slice_cmp nat_cmp k y ≡ Less) (keys_of es) → put (slice_cmp nat_cmp) k v (plain es) ≡ (k, v) ∷ plain es
put_front k v [] below = refl
put_front k v (e ∷ es) below = ap (λ (o : Ordering). by_order o ((k, v) ∷ plain (e ∷ es)) ((e.0, v) ∷ plain es) ((e.0, e.1.items) ∷ put (slice_cmp nat_cmp) k v (plain es))) below.0

entries-empty : entries (empty {X = List ℕ} {R = slice_cmp nat_cmp}) ≡ []
entries-empty = nil_from_length _ (sym (len-entries (empty {X = List ℕ} {R = slice_cmp nat_cmp})) ∙ len-empty (slice_cmp nat_cmp) (List ℕ))

entries-image_of : (es : Entries) → IsStrictlySortedBy (slice_cmp nat_cmp) (keys_of es) → entries (image_of es) ≡ plain es
unfolding IsStrictlySortedBy
entries-image_of [] sorted = entries-empty
entries-image_of (e ∷ es) sorted = entries-insert nat_list_cmp_total (image_of es) e.0 e.1.items ∙ ap (λ (l : List (List ℕ × List ℕ)). put (slice_cmp nat_cmp) e.0 e.1.items l) (entries-image_of es sorted.1) ∙ put_front e.0 e.1.items es sorted.0

keys-plain : (es : Entries) → map (λ (e : List ℕ × List ℕ). e.0) (plain es) ≡ keys_of es
keys-plain [] = refl
keys-plain (e ∷ es) = ap (λ (l : List (List ℕ)). e.0 ∷ l) (keys-plain es)

-- the names of the image are the keys of the map
pub names-image_of : (es : Entries) → IsStrictlySortedBy (slice_cmp nat_cmp) (keys_of es) → file_names (image_of es) ≡ keys_of es
names-image_of es sorted = ap (λ (l : List (List ℕ × List ℕ)). map (λ (e : List ℕ × List ℕ). e.0) l) (entries-image_of es sorted) ∙ keys-plain es
