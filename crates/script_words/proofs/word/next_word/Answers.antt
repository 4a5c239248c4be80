use Rattle.std.proofs.Common.{◌≡◌, ℕ, ◌<◌, true, false, List, ◌∷◌, length, take, drop, sym, ◌∙◌, ap, subst, arith}
use Rattle.std.proofs.lemmas.Bool.Decides.{nat_tests}
use Rattle.std.proofs.lemmas.List.{nil_from_length}
use Rattle.script_words.specs.Words.{words_of, leading}
use Rattle.script_words.proofs.WordLemmas.{words_of-leading, word_at, words_first}
use Rattle.script_words.proofs.word.next_word.Goals as goal

-- behind the blanks stands this text
behind : (bytes text : List ℕ) (k : ℕ) → k ≡ leading true bytes → text ≡ drop k bytes → words_of bytes ≡ words_of text
behind bytes text k is back = sym (words_of-leading bytes) ∙ ap (λ (n : ℕ). words_of (drop n bytes)) (sym is) ∙ ap words_of (sym back)

begins : (bytes text : List ℕ) (k : ℕ) → k ≡ leading true bytes → text ≡ drop k bytes → 0 < length text → 0 < leading false text
begins bytes text k is back some =
    let at : text ≡ drop (leading true bytes) bytes = back ∙ ap (λ (n : ℕ). drop n bytes) is in
    subst (λ (l : List ℕ). 0 < leading false l) (sym at) (word_at bytes (subst (λ (l : List ℕ). 0 < length l) at some))

pub returns-then-is_empty-clause-is : goal.returns-then-is_empty-clause-is
returns-then-is_empty-clause-is c =
    let none : length c.split_at.result.1.now ≡ 0 = grind (arith, nat_tests) in
    behind _ _ _ c.leading.ensures.is c.split_at.ensures.back ∙ ap words_of (nil_from_length c.split_at.result.1.now none)

pub returns-clause-is : goal.returns-clause-is
returns-clause-is c =
    let some : 0 < length c.split_at.result.1.now = grind (arith, nat_tests) in
    let word = begins _ _ _ c.leading.ensures.is c.split_at.ensures.back some in
    let n = c.leading-2.ensures.is in
    behind _ _ _ c.leading.ensures.is c.split_at.ensures.back ∙ words_first c.split_at.result.1.now some word
    ∙ ap (λ (k : ℕ). take k c.split_at.result.1.now ∷ words_of (drop k c.split_at.result.1.now)) (sym n)
    ∙ ap (λ (l : List ℕ). l ∷ words_of (drop c.leading-2.result c.split_at.result.1.now)) (sym c.split_at-2.ensures.front)
    ∙ ap (λ (l : List ℕ). c.split_at-2.result.0.now ∷ words_of l) (sym c.split_at-2.ensures.back)

pub returns-clause-some : goal.returns-clause-some
returns-clause-some c =
    let some : 0 < length c.split_at.result.1.now = grind (arith, nat_tests) in
    let word = begins _ _ _ c.leading.ensures.is c.split_at.ensures.back some in
    omega (arith, word, c.leading-2.ensures.is, c.split_at-2.ensures.front_len)
