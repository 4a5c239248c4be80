-- Words and the blanks between them.
use Rattle.std.proofs.Common.{◌≡◌, inl, inr, ℕ, suc, ◌<◌, Bool, true, false, not, if◌then◌else◌, List, [], ◌∷◌, length, take, drop, refl, sym, ◌∙◌, ap, subst, arith, length-take}
use Rattle.std.proofs.lemmas.Bool.{cases_Bool}
use Rattle.script_words.specs.Words.{is_blank, leading, Parted, parted, words_of, all_of}

parted_cons : (byte : ℕ) (bytes : List ℕ) (b : Bool) → is_blank byte ≡ b → parted (byte ∷ bytes) ≡ (if b then record { first = []; more = all_of (parted bytes) } else record { first = byte ∷ (parted bytes).first; more = (parted bytes).more })
parted_cons byte bytes b is = ap (λ (t : Bool). if t then record { first = []; more = all_of (parted bytes) } else record { first = byte ∷ (parted bytes).first; more = (parted bytes).more }) is

leading_blank : (byte : ℕ) (bytes : List ℕ) (b : Bool) → is_blank byte ≡ b → leading true (byte ∷ bytes) ≡ (if b then suc (leading true bytes) else 0)
leading_blank byte bytes b is = ap (λ (t : Bool). if t then suc (leading true bytes) else 0) is

leading_word : (byte : ℕ) (bytes : List ℕ) (b : Bool) → is_blank byte ≡ b → leading false (byte ∷ bytes) ≡ (if not b then suc (leading false bytes) else 0)
leading_word byte bytes b is = ap (λ (t : Bool). if not t then suc (leading false bytes) else 0) is

-- blanks at the front part no word
pub words_of-leading : (bytes : List ℕ) → words_of (drop (leading true bytes) bytes) ≡ words_of bytes
words_of-leading [] = refl
words_of-leading (byte ∷ bytes) = elim (cases_Bool (is_blank byte)) [
  | inl is ↦ ap (λ (n : ℕ). words_of (drop n (byte ∷ bytes))) (leading_blank byte bytes true is) ∙ words_of-leading bytes ∙ sym (ap all_of (parted_cons byte bytes true is))
  | inr is ↦ ap (λ (n : ℕ). words_of (drop n (byte ∷ bytes))) (leading_blank byte bytes false is)
]

-- a word ends at the next blank
parted_first : (bytes : List ℕ) → (parted bytes).first ≡ take (leading false bytes) bytes
parted_first [] = refl
parted_first (byte ∷ bytes) = elim (cases_Bool (is_blank byte)) [
  | inl is ↦ ap (λ (p : Parted). p.first) (parted_cons byte bytes true is) ∙ sym (ap (λ (n : ℕ). take n (byte ∷ bytes)) (leading_word byte bytes true is))
  | inr is ↦ ap (λ (p : Parted). p.first) (parted_cons byte bytes false is) ∙ ap (λ (l : List ℕ). byte ∷ l) (parted_first bytes) ∙ sym (ap (λ (n : ℕ). take n (byte ∷ bytes)) (leading_word byte bytes false is))
]

parted_more : (bytes : List ℕ) → (parted bytes).more ≡ words_of (drop (leading false bytes) bytes)
parted_more [] = refl
parted_more (byte ∷ bytes) = elim (cases_Bool (is_blank byte)) [
  | inl is ↦ ap (λ (p : Parted). p.more) (parted_cons byte bytes true is) ∙ sym (ap all_of (parted_cons byte bytes true is)) ∙ sym (ap (λ (n : ℕ). words_of (drop n (byte ∷ bytes))) (leading_word byte bytes true is))
  | inr is ↦ ap (λ (p : Parted). p.more) (parted_cons byte bytes false is) ∙ parted_more bytes ∙ sym (ap (λ (n : ℕ). words_of (drop n (byte ∷ bytes))) (leading_word byte bytes false is))
]

all_of_some : (p : Parted) → 0 < length p.first → all_of p ≡ p.first ∷ p.more
all_of_some p some = at p.first p.more some
  where
    at : (first : List ℕ) (more : List (List ℕ)) → 0 < length first → all_of (record { first = first; more = more }) ≡ first ∷ more
    at [] more none = absurd (omega arith)
    at (byte ∷ bytes) more some = refl

-- behind the blanks comes a word, or nothing
pub word_at : (bytes : List ℕ) → 0 < length (drop (leading true bytes) bytes) → 0 < leading false (drop (leading true bytes) bytes)
word_at [] some = absurd (omega arith)
word_at (byte ∷ bytes) some = elim (cases_Bool (is_blank byte)) [
  | inl is ↦
      let e = leading_blank byte bytes true is in
      subst (λ (n : ℕ). 0 < leading false (drop n (byte ∷ bytes))) (sym e) (word_at bytes (subst (λ (n : ℕ). 0 < length (drop n (byte ∷ bytes))) e some))
  | inr is ↦
      subst (λ (n : ℕ). 0 < leading false (drop n (byte ∷ bytes))) (sym (leading_blank byte bytes false is)) (subst (λ (n : ℕ). 0 < n) (sym (leading_word byte bytes false is)) (omega arith))
]

pub words_first : (bytes : List ℕ) → 0 < length bytes → 0 < leading false bytes → words_of bytes ≡ take (leading false bytes) bytes ∷ words_of (drop (leading false bytes) bytes)
words_first bytes some word =
    all_of_some (parted bytes) (subst (λ (l : List ℕ). 0 < length l) (sym (parted_first bytes)) (long bytes some word))
    ∙ ap (λ (l : List ℕ). l ∷ (parted bytes).more) (parted_first bytes) ∙ ap (λ (l : List (List ℕ)). take (leading false bytes) bytes ∷ l) (parted_more bytes)
  where
    long : (l : List ℕ) → 0 < length l → 0 < leading false l → 0 < length (take (leading false l) l)
    long l some word = omega (arith, length-take (leading false l) l)
