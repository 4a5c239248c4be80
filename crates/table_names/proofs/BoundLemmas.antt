-- Bounds, and the words that spell them.
use Rattle.std.proofs.Common.{◌≡◌, ℕ, ◌<◌, ◌≤◌, List, [], ◌∷◌, Option, Some, None, length, refl, sym, ◌∙◌, ap, subst, arith}
use Rattle.std.specs.Prelude.{codes}
use Rattle.std.proofs.lemmas.Option.{none-some}
use Rattle.store_layout.specs.Words.{word_of, bound_word}
use Rattle.store_layout.proofs.WordLemmas.{one_word, one_bound}
use Rattle.table_names.specs.Words.{AreBytes, IsBound, IsNoBound}

too_long_by : (word text : List ℕ) → word ≡ word_of text → 300 < length text → (bound : Option (List ℕ)) → IsBound word bound → ⊥
too_long_by word text is long None bound = none-some text (one_bound None (Some text) (sym bound.is ∙ is))
too_long_by word text is long (Some row) bound =
    let alike : row ≡ text = one_word row text (sym bound.is ∙ is) in
    omega (arith, ap (length {A = ℕ}) alike, bound.short, long)

pub too_long : (word text : List ℕ) → word ≡ word_of text → 300 < length text → IsNoBound word
too_long word text is long = record { none = too_long_by word text is long }
