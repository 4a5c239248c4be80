-- Bytes that are written over a part of a file.
use Rattle.std.proofs.Common.{◌≡◌, ℕ, ◌+◌, ◌≤◌, max, List, [], ◌++◌, length, take, drop, sym, ◌∙◌, ap, arith, append_assoc, length-append, length-take, length-drop, take-append-drop, add-zero}
use Rattle.std.proofs.lemmas.List.{take_at, drop_at, append-nil, drop-drop}
use Rattle.host_model.specs.Calls.{overlaid, Torn}

pub overlaid-nil : (file : List ℕ) (at : ℕ) → overlaid file at [] ≡ file
overlaid-nil file at = ap (λ (l : List ℕ). l ++ drop (at + 0) file) (append-nil (take at file)) ∙ ap (λ (n : ℕ). take at file ++ drop n file) (add-zero at) ∙ take-append-drop at file

pub length-overlaid : (file : List ℕ) (at : ℕ) (bytes : List ℕ) → at ≤ length file → length (overlaid file at bytes) ≡ max (length file) (at + length bytes)
length-overlaid file at bytes within =
    omega (arith, length-append (take at file ++ bytes) (drop (at + length bytes) file), length-append (take at file) bytes, length-take at file, length-drop (at + length bytes) file)

-- bytes written right behind others
pub overlaid-more : (file : List ℕ) (at next : ℕ) (xs ys : List ℕ) → at ≤ length file → next ≡ at + length xs → overlaid (overlaid file at xs) next ys ≡ overlaid file at (xs ++ ys)
overlaid-more file at next xs ys within is =
    let front = take at file ++ xs in
    let size : length front ≡ next = omega (arith, length-append (take at file) xs, length-take at file, is) in
    let back = drop (at + length xs) file in
    let early : take next (front ++ back) ≡ front = take_at front back next size in
    let past : drop next (front ++ back) ≡ back = drop_at front back next size in
    let end : at + length xs + length ys ≡ at + length (xs ++ ys) = omega (arith, length-append xs ys) in
    let late : drop (next + length ys) (front ++ back) ≡ drop (at + length (xs ++ ys)) file =
    sym (drop-drop (length ys) next (front ++ back)) ∙ ap (λ (l : List ℕ). drop (length ys) l) past ∙ drop-drop (length ys) (at + length xs) file ∙ ap (λ (n : ℕ). drop n file) end in
    ap (λ (l : List ℕ). l ++ ys ++ drop (next + length ys) (front ++ back)) early
    ∙ ap (λ (l : List ℕ). front ++ ys ++ l) late
    ∙ ap (λ (l : List ℕ). l ++ drop (at + length (xs ++ ys)) file) (append_assoc (take at file) xs ys)

-- a write leaves what a torn one may
pub torn-overlaid : (file : List ℕ) (at : ℕ) (bytes : List ℕ) → at ≤ length file → Torn at (length bytes) file (overlaid file at bytes)
torn-overlaid file at bytes within =
    let front = take at file in
    let back = drop (at + length bytes) file in
    let size : length front ≡ at = omega (arith, length-take at file) in
    let size_both : length (front ++ bytes) ≡ at + length bytes = omega (arith, length-append front bytes, size) in
    record {
      before = ap (λ (l : List ℕ). take at l) (append_assoc front bytes back) ∙ take_at front (bytes ++ back) at size;
      after = drop_at (front ++ bytes) back (at + length bytes) size_both;
      no_shorter = omega (arith, length-overlaid file at bytes within);
      no_longer = omega (arith, length-overlaid file at bytes within);
    }
