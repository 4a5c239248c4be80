-- Values that stand one behind another, where none begins another one.
use Rattle.std.proofs.Common.{◌≡◌, ◌==◌, Bool, true, false, ℕ, ◌+◌, ◌<◌, List, [], ◌∷◌, ◌++◌, length, take, drop, All, refl, sym, ◌∙◌, ap, subst, arith, append_assoc, length-append, length-take, take-append-drop}
use Rattle.std.specs.List.{flat_map}
use Rattle.std.proofs.lemmas.Grind.{flat_map-append}
use Rattle.std.proofs.lemmas.Bool.Decides.{nat_tests}
use Rattle.std.proofs.lemmas.List.{flat_map_more, nil_from_length}
use Rattle.std.proofs.lemmas.List.Elements.{All-nil, All-head, All-tail, All-push, All-take, All-drop}
use Rattle.bytes_form.specs.PrefixFree.{IsPrefixFree}
use Rattle.log_files.specs.Mutations.{Bytes}
use Rattle.log_files.specs.Parts.{Starts, StartsNone, StartsMany, StartsFewer}

-- what stands in front of bytes is one list of so many values, and one rest
pub one_many : {V : Type 0} (fits : V → Type 0) (spelling : V → Bytes) → IsPrefixFree fits spelling → (xs ys : List V) (r s : Bytes) → All fits xs → All fits ys → length xs ≡ length ys → flat_map spelling xs ++ r ≡ flat_map spelling ys ++ s → (xs ≡ ys) × (r ≡ s)
one_many fits spelling free [] [] r s fits_x fits_y long e = (refl, e)
one_many fits spelling free [] (y ∷ ys) r s fits_x fits_y long e = absurd (omega arith)
one_many fits spelling free (x ∷ xs) [] r s fits_x fits_y long e = absurd (omega arith)
one_many fits spelling free (x ∷ xs) (y ∷ ys) r s fits_x fits_y long e =
    let first = free x y (flat_map spelling xs ++ r) (flat_map spelling ys ++ s) (All-head fits x xs fits_x) (All-head fits y ys fits_y)
    (sym (append_assoc (spelling x) (flat_map spelling xs) r) ∙ e ∙ append_assoc (spelling y) (flat_map spelling ys) s) in
    let rest = one_many fits spelling free xs ys r s (All-tail fits x xs fits_x) (All-tail fits y ys fits_y) (omega arith) first.1 in
    (λ i. first.0 i ∷ rest.0 i, rest.1)

-- more values than were read begin with those, and then with one that stands in front of the rest
record GoesOn {V : Type 0} (fits : V → Type 0) (spelling : V → Bytes) (read : List V) (rest : Bytes) (all : List V) : Type 0 where
  value : V
  more : List V
  is : all ≡ read ++ value ∷ more
  behind : Bytes
  starts : Starts fits spelling rest value behind

module _ {V : Type 0} (fits : V → Type 0) (ordered : List V → Type 0) (spelling : V → Bytes) where
  pub many_none : (bytes : Bytes) → ordered [] → StartsMany fits ordered spelling 0 bytes [] bytes
  many_none bytes in_order = record { is = refl; counts = refl; each = All-nil fits; in_order = in_order }

  pub many_more : (n : ℕ) (bytes : Bytes) (read : List V) (rest : Bytes) (value : V) (after : Bytes) → StartsMany fits ordered spelling n bytes read rest → Starts fits spelling rest value after → ordered (read ++ value ∷ []) → StartsMany fits ordered spelling (n + 1) bytes (read ++ value ∷ []) after
  many_more n bytes read rest value after so starts in_order = record {
    is =
        so.is ∙ ap (λ (l : Bytes). flat_map spelling read ++ l) starts.is ∙ sym (append_assoc (flat_map spelling read) (spelling value) after)
        ∙ ap (λ (l : Bytes). l ++ after) (flat_map_more spelling [] read value);
    counts = omega (arith, so.counts, length-append read (value ∷ []));
    each = All-push fits read value so.each starts.value_fits;
    in_order = in_order;
  }

  module _ (free : IsPrefixFree fits spelling) where
    pub many_same : (n : ℕ) (bytes : Bytes) (xs : List V) (r : Bytes) (ys : List V) (s : Bytes) → StartsMany fits ordered spelling n bytes xs r → StartsMany fits ordered spelling n bytes ys s → (xs ≡ ys) × (r ≡ s)
    many_same n bytes xs r ys s one two = one_many fits spelling free xs ys r s one.each two.each (one.counts ∙ sym two.counts) (sym one.is ∙ two.is)

    next_of : (read : List V) (rest : Bytes) (more : List V) (end : Bytes) → 0 < length more → All fits more → rest ≡ flat_map spelling more ++ end → GoesOn fits spelling read rest (read ++ more)
    next_of read rest [] end some each is = absurd (omega arith)
    next_of read rest (x ∷ xs) end some each is = record {
      value = x;
      more = xs;
      is = refl;
      behind = flat_map spelling xs ++ end;
      starts = record { is = is ∙ append_assoc (spelling x) (flat_map spelling xs) end; value_fits = All-head fits x xs each };
    }

    goes_on : (n count : ℕ) (bytes : Bytes) (read : List V) (rest : Bytes) → StartsMany fits ordered spelling n bytes read rest → n < count → (all : List V) (end : Bytes) → StartsMany fits ordered spelling count bytes all end → GoesOn fits spelling read rest all
    goes_on n count bytes read rest so below all end starts =
        let front = take n all in
        let more = drop n all in
        let parts : front ++ more ≡ all = take-append-drop n all in
        let enough : n < length all = let counts = starts.counts in omega arith in
        let spelled : flat_map spelling all ++ end ≡ flat_map spelling front ++ (flat_map spelling more ++ end) =
        ap (λ l. flat_map spelling l ++ end) (sym parts) ∙ ap (λ (l : Bytes). l ++ end) (flat_map-append spelling front more) ∙ append_assoc (flat_map spelling front) (flat_map spelling more) end in
        let same = one_many fits spelling free read front rest (flat_map spelling more ++ end) so.each (All-take fits n all starts.each) (omega (arith, so.counts, length-take n all)) (sym so.is ∙ starts.is ∙ spelled) in
        let on = next_of read rest more end (omega (arith, ap (length {A = V}) parts, length-append front more, length-take n all)) (All-drop fits n all starts.each) same.1 in
        subst (GoesOn fits spelling read rest) (ap (λ l. l ++ more) same.0 ∙ parts) on

    pub cut_short : (n count : ℕ) (bytes : Bytes) (read : List V) (rest : Bytes) → StartsMany fits ordered spelling n bytes read rest → n < count → StartsNone fits spelling rest → StartsFewer fits ordered spelling count bytes
    cut_short n count bytes read rest so below none = record { none = λ all end starts. let on = goes_on n count bytes read rest so below all end starts in none.none on.value on.behind on.starts }

    pub out_of_order : ((xs ys : List V) → ordered (xs ++ ys) → ordered xs) → (n count : ℕ) (bytes : Bytes) (read : List V) (rest : Bytes) (value : V) (after : Bytes) → StartsMany fits ordered spelling n bytes read rest → n < count → Starts fits spelling rest value after
        → (ordered (read ++ value ∷ []) → ⊥) → StartsFewer fits ordered spelling count bytes
    out_of_order front_of n count bytes read rest value after so below there falls = record {
      none = λ all end starts.
          let on = goes_on n count bytes read rest so below all end starts in
          let same = (free value on.value after on.behind there.value_fits on.starts.value_fits (sym there.is ∙ on.starts.is)).0 in
          let parts : all ≡ (read ++ value ∷ []) ++ on.more = on.is ∙ ap (λ v. read ++ v ∷ on.more) (sym same) ∙ sym (append_assoc read (value ∷ []) on.more) in
          falls (front_of (read ++ value ∷ []) on.more (subst ordered parts starts.in_order));
    }

-- the test that nothing is behind
pub is_nothing : (b : Bool) (rest : Bytes) → b ≡ (length rest == 0) → b ≡ true → rest ≡ []
is_nothing b rest said is = let none : length rest ≡ 0 = grind (arith, nat_tests) in nil_from_length rest none

pub is_something : (b : Bool) (rest : Bytes) → b ≡ (length rest == 0) → b ≡ false → rest ≡ [] → ⊥
is_something b rest said is none = let zero_long : length rest ≡ 0 = ap (length {A = ℕ}) none in let wrong : true ≡ false = grind (arith, nat_tests) in cc
