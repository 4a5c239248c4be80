use Rattle.std.proofs.Common.{◌≡◌, ◌⊎◌, inl, inr, true, codes, subst, ℕ, List, [], ◌∷◌, length, get_or, refl, sym, ◌∙◌, arith}
use Rattle.script_words.specs.CommandLine.{IsDirectory, IsStoreForm}
use Rattle.script_words.proofs.command_line.chosen.Goals as goal

-- a list of these two items
two : (words : List (List ℕ)) (a b : List ℕ) → length words ≡ 2 → a ≡ get_or words 0 a → b ≡ get_or words 1 b → words ≡ a ∷ b ∷ []
two [] a b long first second = absurd (omega arith)
two (x ∷ []) a b long first second = absurd (omega arith)
two (x ∷ y ∷ []) a b long first second = λ i. sym first i ∷ sym second i ∷ []
two (x ∷ y ∷ z ∷ words) a b long first second = absurd (omega arith)

-- a form whose words are these two
form_of : (words : List (List ℕ)) (a b dir : List ℕ) → words ≡ a ∷ b ∷ [] → (a ≡ codes "--init") × (b ≡ dir) ⊎ (a ≡ dir) × (b ≡ codes "--init") → IsDirectory dir → IsStoreForm words (record { init = true; dir = dir })
form_of words a b dir is (inl (first, second)) at = record { words_are = inr (inl (refl, is ∙ (λ i. first i ∷ second i ∷ []))); dir = at }
form_of words a b dir is (inr (first, second)) at = record { words_are = inr (inr (refl, is ∙ (λ i. first i ∷ second i ∷ []))); dir = at }

pub returns-in-len2 : goal.returns-in-len2
returns-in-len2 c =
    let words = two c.args.words.now _ _ (omega arith) c.init-item.is c.dir-item-then-words-lt3.is in
    let init = sym c.as_bytes-then-words-lt3.ensures ∙ c.if-is_init.ensures in
    form_of _ _ _ _ words (inl (init, refl)) (subst IsDirectory c.as_bytes-then-is_init.ensures c.if-is_directory-2.ensures)

pub returns-in-len2-2 : goal.returns-in-len2-2
returns-in-len2-2 c =
    let words = two c.args.words.now _ _ (omega arith) c.dir-item-then-words-lt3-2.is c.init-item-then-words-lt3.is in
    let init = sym c.as_bytes-then-words-lt3-2.ensures ∙ c.if-is_init-2.ensures in
    form_of _ _ _ _ words (inr (refl, init)) (subst IsDirectory c.as_bytes-then-is_init-2.ensures c.if-is_directory-3.ensures)
