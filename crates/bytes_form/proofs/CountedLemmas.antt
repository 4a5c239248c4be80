-- Bytes behind their length: what is there, and what is missing.
use Rattle.std.proofs.Common.{◌≡◌, ℕ, ◌+◌, ◌%◌, ◌^◌, ◌<◌, ◌↔◌, List, ◌++◌, length, sym, ap, ◌∙◌, arith, Bor, Result, Ok, Err, OnErr, IfOk, append_assoc, length-append}
use Rattle.std.proofs.Math.Nat.{mod-le, mod-eq_of_lt}
use Rattle.std.proofs.lemmas.Nat.{from_be_bytes-to_be_bytes_2, from_be_bytes-to_be_bytes_4}
use Rattle.std.specs.Int.{Width, w8, w16, w32, byte_len, from_be_bytes}
use Rattle.byteorder.specs.Endian.{big_number}
use Rattle.byteorder.specs.Numbers.{big_from-bytes}
use Rattle.bytes_form.specs.declared.takes.Form.{Form}
use Rattle.bytes_form.specs.declared.takes.Taken.{Taken}
use Rattle.bytes_form.specs.Fields.{Takes, TakesNone, IsCutShort, number_field, counted_field}
use Rattle.bytes_form.proofs.FieldsLemmas.{length-number_field}

-- what a length in front reads as
pub said_8 : (n : ℕ) (bytes rest : List ℕ) → n < 2 ^ 8 → Takes (number_field w8 n) rest bytes → from_be_bytes w8 bytes ≡ n
unfolding number_field
said_8 n bytes rest fits takes = let same : n % 256 ≡ n = omega arith in ap (λ (l : List ℕ). from_be_bytes w8 l) takes.is ∙ same

pub said_16 : (n : ℕ) (bytes rest : List ℕ) → n < 2 ^ 16 → Takes (number_field w16 n) rest bytes → from_be_bytes w16 bytes ≡ n
unfolding number_field
said_16 n bytes rest fits takes = ap (λ (l : List ℕ). from_be_bytes w16 l) takes.is ∙ from_be_bytes-to_be_bytes_2 n fits

pub said_32 : (n : ℕ) (bytes rest : List ℕ) → n < 2 ^ 32 → Takes (number_field w32 n) rest bytes → from_be_bytes w32 bytes ≡ n
unfolding number_field
said_32 n bytes rest fits takes = ap (λ (l : List ℕ). from_be_bytes w32 l) takes.is ∙ from_be_bytes-to_be_bytes_4 n fits

pub takes_counted : (w : Width) (size : ℕ) (bytes rest value behind : List ℕ) → Takes (number_field w size) rest bytes → Takes value behind rest → length value ≡ size → Takes (counted_field w value) behind bytes
unfolding counted_field
takes_counted w size bytes rest value behind front back is =
    record {
      is =
          front.is ∙ ap (λ (l : List ℕ). number_field w size ++ l) back.is
          ∙ ap (λ (n : ℕ). number_field w n ++ (value ++ behind)) (sym is)
          ∙ sym (append_assoc (number_field w (length value)) value behind);
    }

-- fewer bytes than the length says
pub takes_no_counted : (w : Width) (size : ℕ) (bytes rest : List ℕ) → size < 256 ^ byte_len w → Takes (number_field w size) rest bytes → length rest < size → TakesNone (counted_field w) bytes
unfolding number_field counted_field
takes_no_counted w size bytes rest fits front few value behind e =
    let k = byte_len w in
    let both : number_field w size ++ rest ≡ number_field w (length value) ++ (value ++ behind) =
    sym front.is ∙ e ∙ append_assoc (number_field w (length value)) value behind in
    let same : size % 256 ^ k ≡ length value % 256 ^ k =
    sym (big_from-bytes k size rest) ∙ ap (λ (l : List ℕ). big_number k l) both ∙ big_from-bytes k (length value) (value ++ behind) in
    let sizes = ap (length {A = ℕ}) both in
    omega (
      arith,
      few,
      same,
      mod-eq_of_lt fits,
      mod-le (length value) (256 ^ k),
      sizes,
      length-append (number_field w size) rest,
      length-append (number_field w (length value)) (value ++ behind),
      length-append value behind,
      length-number_field w size,
      length-number_field w (length value),
    )

-- not even a whole length
pub takes_no_length : (w : Width) (bytes : List ℕ) → TakesNone (number_field w) bytes → TakesNone (counted_field w) bytes
unfolding counted_field
takes_no_length w bytes none value rest e =
    none (length value) (value ++ rest) (e ∙ append_assoc (number_field w (length value)) value rest)

-- what holds whatever the answer
pub on_err : {T E P : Type 0} (r : Result T E) → P → OnErr r P
on_err (Ok x) p = tt
on_err (Err e) p = p

-- the answer of the take behind a length
pub counted_from : (w : Width) (size : ℕ) (bytes rest : List ℕ) (r : Result (Taken (Bor (List ℕ))) Form) → Takes (number_field w size) rest bytes
    → IfOk r (λ t. Takes t.value.now t.rest.now rest) → IfOk r (λ t. length t.value.now ≡ size) → IfOk r (λ t. Takes (counted_field w t.value.now) t.rest.now bytes)
counted_from w size bytes rest (Ok t) front back is = takes_counted w size bytes rest t.value.now t.rest.now front back is
counted_from w size bytes rest (Err e) front back is = tt

pub cut_behind_length : (w : Width) (size : ℕ) (bytes rest : List ℕ) → {P : Type 0} → length bytes ≡ byte_len w + length rest → from_be_bytes w bytes ≡ size → P ↔ (length rest < size) → P ↔ IsCutShort w bytes
cut_behind_length w size bytes rest is said few =
    (λ p. let h = few.0 p in omega arith, λ cut. few.1 (omega arith))

-- a length and the bytes, put one behind the other
pub put_counted : (w : Width) (old front bytes : List ℕ) → front ≡ number_field w (length bytes) → old ++ front ++ bytes ≡ old ++ counted_field w bytes
unfolding counted_field
put_counted w old front bytes is = append_assoc old front bytes ∙ ap (λ (l : List ℕ). old ++ (l ++ bytes)) is
