-- Words, one behind the other.
use Rattle.std.proofs.Common.{◌≡◌, ℕ, List, [], ◌∷◌, ◌++◌, IsTrue, refl, sym, ◌∙◌, ap, subst, append_assoc}
use Rattle.std.specs.List.{All, flat_map}
use Rattle.std.proofs.lemmas.List.{append-nil}
use Rattle.metadata_schema.specs.Bytes.{is_free}
use Rattle.store_layout.specs.Words.{spaced}
use Rattle.table_names.specs.Words.{IsSplit}

-- words, each with a space behind it
abbrev pub closed : List (List ℕ) → List ℕ
closed words = flat_map (λ word. word ++ 32 ∷ []) words

abbrev pub AreFree : List (List ℕ) → Type 0
AreFree words = All (λ word. IsTrue (is_free 32 word)) words

pub record IsLine (words : List (List ℕ)) (rest : List ℕ) : Type 0 where
  pub first : List ℕ
  pub others : List (List ℕ)
  pub are : words ++ rest ∷ [] ≡ first ∷ others
  pub is : closed words ++ rest ≡ spaced first others

pub line_of : (words : List (List ℕ)) (rest : List ℕ) → IsLine words rest
line_of [] rest = record { first = rest; others = []; are = refl; is = sym (append-nil rest) }
line_of (w ∷ ws) rest =
    let more = line_of ws rest in
    record {
      first = w;
      others = ws ++ rest ∷ [];
      are = refl;
      is = append_assoc (w ++ 32 ∷ []) (closed ws) rest ∙ append_assoc w (32 ∷ []) (closed ws ++ rest)
          ∙ ap (λ l. w ++ 32 ∷ l) more.is ∙ ap (λ l. w ++ flat_map (λ word. 32 ∷ word) l) (sym more.are);
    }

pub split_at_end : (text rest : List ℕ) (words all : List (List ℕ)) → all ≡ words ++ rest ∷ [] → closed words ++ rest ≡ text → AreFree all → IsSplit text all
split_at_end text rest words all are is free =
    let line = line_of words rest in
    record { first = line.first; others = line.others; are = are ∙ line.are; is = sym is ∙ line.is; free = free }
