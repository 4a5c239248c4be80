-- Words of a value, and the texts that they spell.
use Rattle.std.specs.Prelude.{◌≡◌, ℕ, ◌<◌, ◌≤◌, ◌^◌, List, ◌∷◌, length, Option, IfSome, IsTrue}
use Rattle.std.specs.Fmt.{decimal}
use Rattle.std.specs.List.{All}
use Rattle.metadata_schema.specs.Bytes.{is_free}
use Rattle.store_layout.specs.Words.{bound_word, spaced}

-- each is a byte
abbrev pub AreBytes : List ℕ → Type 0
AreBytes text = All (λ byte. byte < 2 ^ 8) text

-- the text is these words, parted by one space, and none of them has one
pub record IsSplit (text : List ℕ) (words : List (List ℕ)) : Type 0 where
  pub first : List ℕ
  pub others : List (List ℕ)
  pub are : words ≡ first ∷ others
  pub is : text ≡ spaced first others
  pub free : All (λ word. IsTrue (is_free 32 word)) words

-- the word is no number's
pub record IsNoNumber (word : List ℕ) : Type 0 where
  pub none : (number : ℕ) → number < 2 ^ 64 → word ≡ decimal number → ⊥

-- the word is this bound's: a row of at most 300 bytes, or none
pub record IsBound (word : List ℕ) (bound : Option (List ℕ)) : Type 0 where
  pub is : word ≡ bound_word bound
  pub short : IfSome bound (λ row. length row ≤ 300)
  pub bytes : IfSome bound AreBytes

-- the word is no bound's
pub record IsNoBound (word : List ℕ) : Type 0 where
  pub none : (bound : Option (List ℕ)) → IsBound word bound → ⊥
