-- The files of a map.
use Rattle.std.specs.Prelude.{◌≡◌, ℕ, List, [], ◌∷◌, Vec, Option}
use Rattle.std.specs.Coded.{Coded, coded_ℕ, coded_list}
use Rattle.std.specs.FinMap as files
use Rattle.std.specs.declared.alloc.Global.{Global}
use Rattle.std.specs.Option.{option_map}
use Rattle.host_model.specs.Picture.{Image, file_at, set_file}

-- the files are stored as their entries
abbrev pub image_code : Coded Image
image_code = files.code (coded_list coded_ℕ) (coded_list coded_ℕ)

-- the image with these files
abbrev pub image_of : List (List ℕ × Vec ℕ Global) → Image
image_of [] = files.empty
image_of (e ∷ es) = files.insert (image_of es) e.0 e.1.items

-- a vector's file
abbrev pub as_file : Option (Vec ℕ Global) → Option (List ℕ)
as_file file = option_map (λ bytes. bytes.items) file

-- the file, if it is there, changes so
abbrev pub Changes : List ℕ → (List ℕ → List ℕ) → Image → Image → Type 0
Changes name change old new = new ≡ set_file old name (option_map change (file_at old name))
