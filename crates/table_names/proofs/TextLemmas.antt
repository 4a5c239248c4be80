-- Texts and the words that spell them, byte by byte.
use Rattle.std.proofs.Common.{◌≡◌, ℕ, ◌+◌, ◌*◌, ◌/◌, ◌%◌, ◌<◌, ◌^◌, Bool, true, false, cond, nat_eq, Result, Ok, Err, List, [], ◌∷◌, ◌++◌, refl, sym, ◌∙◌, ap, arith, append_assoc}
use Rattle.std.proofs.lemmas.List.{append-nil}
use Rattle.std.proofs.lemmas.List.Elements.{All-head, All-tail}
use Rattle.std.specs.Prelude.{codes, IfOk}
use Rattle.std.specs.Cmp.Lexicographic.{pointwise}
use Rattle.std.proofs.lemmas.Bool.{false≢true}
use Rattle.std.specs.List.{All, flat_map}
use Rattle.std.proofs.lemmas.Bool.Decides.{nat_tests}
use Rattle.std.proofs.lemmas.Slice.Eq.{bytes_eq-Decides}
use Rattle.metadata_schema.specs.Bytes.{same}
use Rattle.store_layout.specs.Words.{stands_for_itself, hexadecimal_digit, escaped, spelled_byte, word_of}
use Rattle.table_names.specs.Words.{AreBytes}

-- ---- the word of a text that is neither empty nor one `-`

is_not_dash : (byte : ℕ) (more : List ℕ) → (byte ∷ more ≡ codes "-" → ⊥) → (d : Bool) → same (byte ∷ more) (codes "-") ≡ d → cond d (escaped byte) (flat_map spelled_byte (byte ∷ more)) ≡ flat_map spelled_byte (byte ∷ more)
is_not_dash byte more other true is = absurd (other ((bytes_eq-Decides (byte ∷ more) (codes "-")).0 is))
is_not_dash byte more other false is = refl

pub plain_word : (text : List ℕ) → (text ≡ [] → ⊥) → (text ≡ codes "-" → ⊥) → word_of text ≡ flat_map spelled_byte text
plain_word [] some other = absurd (some refl)
plain_word (byte ∷ more) some other = is_not_dash byte more other (same (byte ∷ more) (codes "-")) refl

-- ---- byte by byte

-- the text goes on with what the rest spells
pub record GoesOn (text rest spelled : List ℕ) : Type 0 where
  pub more : List ℕ
  pub are : spelled ≡ text ++ more
  pub is : rest ≡ flat_map spelled_byte more
  pub bytes : AreBytes more

some_bytes : (byte : ℕ) (more : List ℕ) → spelled_byte byte ++ more ≡ [] → ⊥
some_bytes byte more = by (stands_for_itself byte)
  where
    by : (s : Bool) → cond s (byte ∷ []) (escaped byte) ++ more ≡ [] → ⊥
    by true e = cc
    by false e = cc

pub one_more : (text rest behind spelled : List ℕ) (first : ℕ) → (rest ≡ [] → ⊥) → ((byte : ℕ) (more : List ℕ) → byte < 2 ^ 8 → rest ≡ spelled_byte byte ++ more → (first ≡ byte) × (behind ≡ more))
    → GoesOn text rest spelled → GoesOn (text ++ first ∷ []) behind spelled
one_more text rest behind spelled first some reads on = by on.more on.are on.is on.bytes
  where
    by : (more : List ℕ) → spelled ≡ text ++ more → rest ≡ flat_map spelled_byte more → AreBytes more → GoesOn (text ++ first ∷ []) behind spelled
    by [] are is bytes = absurd (some is)
    by (byte ∷ more) are is bytes =
        let read = reads byte (flat_map spelled_byte more) (All-head (λ b. b < 2 ^ 8) byte more bytes) is in
        record {
          more = more;
          are = are ∙ ap (λ b. text ++ b ∷ more) (sym read.0) ∙ sym (append_assoc text (first ∷ []) more);
          is = read.1;
          bytes = All-tail (λ b. b < 2 ^ 8) byte more bytes;
        }

pub at_end : (text rest spelled : List ℕ) → rest ≡ [] → GoesOn text rest spelled → text ≡ spelled
at_end text rest spelled none on = by on.more on.are on.is
  where
    by : (more : List ℕ) → spelled ≡ text ++ more → rest ≡ flat_map spelled_byte more → text ≡ spelled
    by [] are is = sym (are ∙ append-nil text)
    by (byte ∷ more) are is = absurd (some_bytes byte (flat_map spelled_byte more) (sym is ∙ none))

-- ---- words that aren't spelled byte by byte

pub not_same : (one other : List ℕ) → false ≡ pointwise nat_eq one other → one ≡ other → ⊥
not_same one other differ is = false≢true (differ ∙ (bytes_eq-Decides one other).1 is)

pub later : {V E : Type 0} (word : List ℕ) (r : Result V E) (items : V → List ℕ) → (word ≡ word_of [] → ⊥) → (word ≡ word_of (codes "-") → ⊥) → IfOk r (λ text. (spelled : List ℕ) → AreBytes spelled → word ≡ flat_map spelled_byte spelled → items text ≡ spelled)
    → IfOk r (λ text. (spelled : List ℕ) → AreBytes spelled → word ≡ word_of spelled → items text ≡ spelled)
later word (Ok text) items empty dash reads = λ spelled bytes is. reads spelled bytes (is ∙ plain_word spelled (λ e. empty (is ∙ ap word_of e)) (λ e. dash (is ∙ ap word_of e)))
later word (Err e) items empty dash reads = tt
