-- The words of the command line.
use Rattle.std.specs.Prelude.{◌≡◌, ◌≢◌, ◌⊎◌, ℕ, ◌<◌, true, false, List, [], ◌∷◌, length, slice_index, codes}
use Rattle.std.specs.Str.{IsUtf8}
use Rattle.script_words.specs.declared.command_line.StoreForm.{StoreForm}

pub record IsDirectory (word : List ℕ) : Type 0 where
  pub some : 0 < length word
  pub plain : slice_index word 0 ≢ 45
  pub text : IsUtf8 word

-- DIR, or DIR and --init in any order
abbrev pub AreStoreWords : List (List ℕ) → StoreForm → Type 0
AreStoreWords words form =
    ((form.init ≡ false) × (words ≡ form.dir ∷ [])) ⊎ ((form.init ≡ true) × (words ≡ codes "--init" ∷ form.dir ∷ [])) ⊎ ((form.init ≡ true) × (words ≡ form.dir ∷ codes "--init" ∷ []))

pub record IsStoreForm (words : List (List ℕ)) (form : StoreForm) : Type 0 where
  pub words_are : AreStoreWords words form
  pub dir : IsDirectory form.dir

-- the words are of no form
pub record IsUsage (words : List (List ℕ)) : Type 0 where
  pub none : (form : StoreForm) → IsStoreForm words form → ⊥
