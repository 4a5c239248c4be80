-- A word spells one text, and a line of words one list of them.
use Rattle.std.proofs.Common.{◌≡◌, ℕ, ◌/◌, ◌%◌, ◌==◌, Bool, true, false, not, cond, codes, List, [], ◌∷◌, ◌++◌, Option, Some, None, IsTrue, refl, sym, ◌∙◌, ap, arith}
use Rattle.std.specs.List.{list_all, flat_map}
use Rattle.std.proofs.lemmas.Bool.{and_parts, and_from}
use Rattle.std.proofs.lemmas.Bool.Decides.{nat_tests}
use Rattle.std.proofs.lemmas.List.{append-nil}
use Rattle.std.proofs.lemmas.Slice.Eq.{bytes_eq-Decides}
use Rattle.metadata_schema.specs.Bytes.{same, is_free}
use Rattle.metadata_schema.proofs.LawsLemmas.{parted_once}
use Rattle.metadata_schema.proofs.PathLemmas.{not_free}
use Rattle.store_layout.specs.Words.{stands_for_itself, hexadecimal_digit, escaped, spelled_byte, word_of, bound_word, spaced}

-- ---- bytes

one_digit : (a b : ℕ) → hexadecimal_digit a ≡ hexadecimal_digit b → a ≡ b
one_digit a b is = grind (arith, nat_tests)

one_escaped : (a b : ℕ) (x y : List ℕ) → escaped a ++ x ≡ escaped b ++ y → (a ≡ b) × (x ≡ y)
one_escaped a b x y e =
    let high : a / 16 ≡ b / 16 = one_digit (a / 16) (b / 16) cc in
    let low : a % 16 ≡ b % 16 = one_digit (a % 16) (b % 16) cc in
    (omega (arith, high, low), cc)

no_backslash : (byte : ℕ) → stands_for_itself byte ≡ true → byte ≡ 92 → ⊥
no_backslash byte stands is = grind (arith, nat_tests)

one_byte : (a b : ℕ) (x y : List ℕ) → spelled_byte a ++ x ≡ spelled_byte b ++ y → (a ≡ b) × (x ≡ y)
one_byte a b x y = by (stands_for_itself a) (stands_for_itself b) refl refl
  where
    by : (s t : Bool) → stands_for_itself a ≡ s → stands_for_itself b ≡ t → cond s (a ∷ []) (escaped a) ++ x ≡ cond t (b ∷ []) (escaped b) ++ y → (a ≡ b) × (x ≡ y)
    by true true one other e = (cc, cc)
    by true false one other e = absurd (no_backslash a one cc)
    by false true one other e = absurd (no_backslash b other (let is : 92 ≡ b = cc in sym is))
    by false false one other e = one_escaped a b x y e

never_empty : (byte : ℕ) (x : List ℕ) → [] ≡ spelled_byte byte ++ x → ⊥
never_empty byte x = by (stands_for_itself byte)
  where
    by : (s : Bool) → [] ≡ cond s (byte ∷ []) (escaped byte) ++ x → ⊥
    by true e = cc
    by false e = cc

one_text : (xs ys : List ℕ) → flat_map spelled_byte xs ≡ flat_map spelled_byte ys → xs ≡ ys
one_text [] [] e = refl
one_text [] (b ∷ ys) e = absurd (never_empty b (flat_map spelled_byte ys) e)
one_text (a ∷ xs) [] e = absurd (never_empty a (flat_map spelled_byte xs) (sym e))
one_text (a ∷ xs) (b ∷ ys) e =
    let first = one_byte a b (flat_map spelled_byte xs) (flat_map spelled_byte ys) e in
    let rest = one_text xs ys first.1 in
    λ i. first.0 i ∷ rest i

-- ---- texts

abbrev is_dash : List ℕ → Bool
is_dash text = same text (codes "-")

dash : (text : List ℕ) → is_dash text ≡ true → text ≡ codes "-"
dash text is = (bytes_eq-Decides text (codes "-")).0 is

-- the word of the empty text is no other one's
not_empty : (b : ℕ) (ys : List ℕ) → word_of [] ≡ word_of (b ∷ ys) → ⊥
not_empty b ys = by (is_dash (b ∷ ys)) (stands_for_itself b) refl
  where
    by : (d s : Bool) → stands_for_itself b ≡ s → 92 ∷ 101 ∷ [] ≡ cond d (escaped b) (cond s (b ∷ []) (escaped b) ++ flat_map spelled_byte ys) → ⊥
    by true s stands e = (let wrong : ◌≡◌ {A = ℕ} 101 120 = cc in omega (arith, wrong))
    by false true stands e = no_backslash b stands (let is : 92 ≡ b = cc in sym is)
    by false false stands e = (let wrong : ◌≡◌ {A = ℕ} 101 120 = cc in omega (arith, wrong))

-- nor is that of one `-`
not_dash : (a b : ℕ) (ys : List ℕ) → a ≡ 45 → escaped a ≡ flat_map spelled_byte (b ∷ ys) → ⊥
not_dash a b ys is = by (stands_for_itself b) refl
  where
    by : (s : Bool) → stands_for_itself b ≡ s → escaped a ≡ cond s (b ∷ []) (escaped b) ++ flat_map spelled_byte ys → ⊥
    by true stands e = no_backslash b stands (let at : 92 ≡ b = cc in sym at)
    by false stands e =
        let same : a ≡ b = (one_escaped a b [] (flat_map spelled_byte ys) (append-nil (escaped a) ∙ e)).0 in
        let at : b ≡ 45 = sym same ∙ is in
        let wrong : true ≡ false = sym (ap stands_for_itself at) ∙ stands in
        cc

pub one_word : (one other : List ℕ) → word_of one ≡ word_of other → one ≡ other
one_word [] [] e = refl
one_word [] (b ∷ ys) e = absurd (not_empty b ys e)
one_word (a ∷ xs) [] e = absurd (not_empty a xs (sym e))
one_word (a ∷ xs) (b ∷ ys) e = by (is_dash (a ∷ xs)) (is_dash (b ∷ ys)) refl refl e
  where
    first : (c : ℕ) (cs : List ℕ) → c ∷ cs ≡ codes "-" → c ≡ 45
    first c cs is = cc

    by : (s t : Bool) → is_dash (a ∷ xs) ≡ s → is_dash (b ∷ ys) ≡ t → cond s (escaped a) (flat_map spelled_byte (a ∷ xs)) ≡ cond t (escaped b) (flat_map spelled_byte (b ∷ ys)) → a ∷ xs ≡ b ∷ ys
    by true true one two e = dash (a ∷ xs) one ∙ sym (dash (b ∷ ys) two)
    by true false one two e = absurd (not_dash a b ys (first a xs (dash (a ∷ xs) one)) e)
    by false true one two e = absurd (not_dash b a xs (first b ys (dash (b ∷ ys) two)) (sym e))
    by false false one two e = one_text (a ∷ xs) (b ∷ ys) e

-- a word is never the `-` of a bound that isn't there
no_bound : (text : List ℕ) → codes "-" ≡ word_of text → ⊥
no_bound [] e = cc
no_bound (b ∷ ys) e = by (is_dash (b ∷ ys)) (stands_for_itself b) refl e
  where
    by : (d s : Bool) → is_dash (b ∷ ys) ≡ d → codes "-" ≡ cond d (escaped b) (cond s (b ∷ []) (escaped b) ++ flat_map spelled_byte ys) → ⊥
    by true s is e = cc
    by false true is e =
        let head : 45 ≡ b = cc in
        let tail : [] ≡ flat_map spelled_byte ys = cc in
        let rest : [] ≡ ys = one_text [] ys tail in
        let wrong : true ≡ false = (λ i. is_dash (head i ∷ rest i)) ∙ is in
        cc
    by false false is e = cc

pub one_bound : (one other : Option (List ℕ)) → bound_word one ≡ bound_word other → one ≡ other
one_bound None None e = refl
one_bound None (Some b) e = absurd (no_bound b e)
one_bound (Some a) None e = absurd (no_bound a (sym e))
one_bound (Some a) (Some b) e = ap Some (one_word a b e)

-- ---- words in a line

pub free_joined : (front back : List ℕ) → IsTrue (is_free 32 front) → IsTrue (is_free 32 back) → IsTrue (is_free 32 (front ++ back))
free_joined [] back one two = two
free_joined (b ∷ front) back one two =
    let parts = and_parts (not (b == 32)) (is_free 32 front) one in
    and_from (not (b == 32)) (is_free 32 (front ++ back)) parts.0 (free_joined front back parts.1 two)

stands_free : (byte : ℕ) → stands_for_itself byte ≡ true → not (byte == 32) ≡ true
stands_free byte stands = grind (arith, nat_tests)

digit_free : (value : ℕ) → not (hexadecimal_digit value == 32) ≡ true
digit_free value = grind (arith, nat_tests)

escaped_free : (byte : ℕ) → IsTrue (is_free 32 (escaped byte))
escaped_free byte = and_from _ _ (digit_free (byte / 16)) (and_from _ _ (digit_free (byte % 16)) refl)

byte_free : (byte : ℕ) → IsTrue (is_free 32 (spelled_byte byte))
byte_free byte = by (stands_for_itself byte) refl
  where
    by : (s : Bool) → stands_for_itself byte ≡ s → IsTrue (is_free 32 (cond s (byte ∷ []) (escaped byte)))
    by true stands = and_from _ _ (stands_free byte stands) refl
    by false stands = escaped_free byte

text_free : (text : List ℕ) → IsTrue (is_free 32 (flat_map spelled_byte text))
text_free [] = refl
text_free (b ∷ ys) = free_joined (spelled_byte b) (flat_map spelled_byte ys) (byte_free b) (text_free ys)

pub word_free : (text : List ℕ) → IsTrue (is_free 32 (word_of text))
word_free [] = refl
word_free (b ∷ ys) = by (is_dash (b ∷ ys))
  where
    by : (d : Bool) → IsTrue (is_free 32 (cond d (escaped b) (flat_map spelled_byte (b ∷ ys))))
    by true = escaped_free b
    by false = text_free (b ∷ ys)

pub bound_free : (bound : Option (List ℕ)) → IsTrue (is_free 32 (bound_word bound))
bound_free None = refl
bound_free (Some row) = word_free row

-- no byte of these words is a space
abbrev pub are_free : List (List ℕ) → Bool
are_free = list_all (is_free 32)

ends : (one other back : List ℕ) → IsTrue (is_free 32 one) → one ++ [] ≡ other ++ 32 ∷ back → ⊥
ends one other back free e = not_free 32 other back (free_here (sym (append-nil one) ∙ e))
  where
    free_here : one ≡ other ++ 32 ∷ back → IsTrue (is_free 32 (other ++ 32 ∷ back))
    free_here is = ap (is_free 32) (sym is) ∙ free

pub one_line : (one other : List ℕ) (ones others : List (List ℕ)) → IsTrue (is_free 32 one) → IsTrue (is_free 32 other) → IsTrue (are_free ones) → IsTrue (are_free others) → spaced one ones ≡ spaced other others → (one ≡ other) × (ones ≡ others)
one_line one other [] [] free_one free_other all_one all_other e = (sym (append-nil one) ∙ e ∙ append-nil other, refl)
one_line one other [] (w ∷ ws) free_one free_other all_one all_other e = absurd (ends one other (w ++ flat_map (λ word. 32 ∷ word) ws) free_one e)
one_line one other (v ∷ vs) [] free_one free_other all_one all_other e = absurd (ends other one (v ++ flat_map (λ word. 32 ∷ word) vs) free_other (sym e))
one_line one other (v ∷ vs) (w ∷ ws) free_one free_other all_one all_other e =
    let mine = and_parts (is_free 32 v) (are_free vs) all_one in
    let theirs = and_parts (is_free 32 w) (are_free ws) all_other in
    let cut = parted_once 32 one other (spaced v vs) (spaced w ws) free_one free_other e in
    let rest = one_line v w vs ws mine.0 theirs.0 mine.1 theirs.1 cut.1 in
    (cut.0, λ i. rest.0 i ∷ rest.1 i)
