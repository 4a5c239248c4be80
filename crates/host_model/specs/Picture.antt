-- What a crash leaves: the files, and what had been said.
use Rattle.std.specs.Prelude.{◌≡◌, ◌⊎◌, ℕ, List, Option, Some, None}
use Rattle.std.specs.Ordering.{nat_cmp}
use Rattle.std.specs.Cmp.Lexicographic.{slice_cmp}
use Rattle.std.specs.FinMap as map

-- the files, by their names
abbrev pub Image : Type 0
Image = map.FinMap (slice_cmp nat_cmp) (List ℕ)

pub record Picture : Type 0 where
  pub image : Image
  pub said : List ℕ

-- the file's bytes, if it is there
abbrev pub file_at : Image → List ℕ → Option (List ℕ)
file_at image name = map.get image name

abbrev pub with_file : Image → List ℕ → List ℕ → Image
with_file image name bytes = map.insert image name bytes

abbrev pub without_file : Image → List ℕ → Image
without_file image name = map.remove image name

-- the image with this file as told: with these bytes, or not there
abbrev pub set_file : Image → List ℕ → Option (List ℕ) → Image
set_file image name None = without_file image name
set_file image name (Some bytes) = with_file image name bytes

-- this file alone changes, by this step
pub record ChangesFile (name : List ℕ) (step : Option (List ℕ) → Option (List ℕ) → Type 0) (old new : Image) : Type 0 where
  pub after : Option (List ℕ)
  pub steps : step (file_at old name) after
  pub is : new ≡ set_file old name after

-- the file is there before and after, and its bytes change by this step
pub record OnBytes (step : List ℕ → List ℕ → Type 0) (old new : Option (List ℕ)) : Type 0 where
  pub before : List ℕ
  pub after : List ℕ
  pub was : old ≡ Some before
  pub is : new ≡ Some after
  pub steps : step before after

-- the file becomes this one
abbrev pub Becomes : Option (List ℕ) → Option (List ℕ) → Option (List ℕ) → Type 0
Becomes file old new = new ≡ file

-- it stays or becomes this one
abbrev pub MayBecome : Option (List ℕ) → Option (List ℕ) → Option (List ℕ) → Type 0
MayBecome file old new = (new ≡ old) ⊎ (new ≡ file)

-- the said bytes stay, and the image changes by this step
pub record ImageStep (step : Image → Image → Type 0) (old new : Picture) : Type 0 where
  pub said : new.said ≡ old.said
  pub steps : step old.image new.image

-- the same picture
abbrev pub Same : Picture → Picture → Type 0
Same old new = new ≡ old

-- this file alone is another, by a step of its bytes
abbrev pub FileStep : List ℕ → (Option (List ℕ) → Option (List ℕ) → Type 0) → Picture → Picture → Type 0
FileStep name step = ImageStep (ChangesFile name step)

-- the names of the files, in byte order
abbrev pub file_names : Image → List (List ℕ)
file_names image = map.keys image
