-- How records are read.
use Rattle.std.proofs.Common.{◌≡◌, ◌≢◌, ◌⊎◌, inl, inr, ℕ, zero, suc, ◌-◌, ◌^◌, ◌<◌, ◌≤◌, List, [], ◌∷◌, ◌++◌, length, get_or, take, drop, refl, sym, ◌∙◌, ap, subst, arith, append_assoc, length-append, take-append-drop, length-take, All}
use Rattle.std.specs.Int.{w32, to_be_bytes, from_be_bytes}
use Rattle.std.proofs.lemmas.Nat.{from_be_bytes-to_be_bytes_4, be_bytes_4}
use Rattle.std.proofs.lemmas.List.{drop_at, take_at}
use Rattle.std.proofs.lemmas.List.Elements.{All-push, All-head, All-tail}
use Rattle.journal_core.specs.Records.{body, spelled, HasRecords, EndsAt, HasNone}
use Rattle.journal_core.specs.Parts.{IsRecord, HasNoRecord}
use Rattle.journal_core.proofs.RecordsLemmas.{spelled-push, length-body}

-- the four bytes of the length
abbrev pub size_bytes : List ℕ → List ℕ
size_bytes bytes = get_or bytes 1 0 ∷ get_or bytes 2 0 ∷ get_or bytes 3 0 ∷ get_or bytes 4 0 ∷ []

five : (l : List ℕ) → 5 ≤ length l → l ≡ get_or l 0 0 ∷ size_bytes l ++ drop 5 l
five (a ∷ b ∷ c ∷ d ∷ e ∷ l) long = refl
five [] long = absurd (omega arith)
five (a ∷ []) long = absurd (omega arith)
five (a ∷ b ∷ []) long = absurd (omega arith)
five (a ∷ b ∷ c ∷ []) long = absurd (omega arith)
five (a ∷ b ∷ c ∷ d ∷ []) long = absurd (omega arith)

-- too short for a length, or behind a closed gate
pub none_short : (bytes : List ℕ) → length bytes < 5 → HasNoRecord bytes
none_short bytes short = record { none = λ payload rest record_is. absurd (omega (arith, short, ap length record_is.is, length-append (1 ∷ body payload) rest, length-body payload)) }

pub none_shut : (bytes : List ℕ) → get_or bytes 0 0 ≢ 1 → HasNoRecord bytes
none_shut bytes shut = record { none = λ payload rest record_is. shut (ap (λ (l : List ℕ). get_or l 0 0) record_is.is) }

-- the payload isn't whole
pub none_cut : (bytes : List ℕ) (size : ℕ) → size ≡ from_be_bytes w32 (size_bytes bytes) → length (drop 5 bytes) < size → HasNoRecord bytes
none_cut bytes size is cut = record { none = λ payload rest record_is. at_record payload rest record_is.short (subst (λ (l : List ℕ). size ≡ from_be_bytes w32 (size_bytes l)) record_is.is is) (subst (λ (l : List ℕ). length (drop 5 l) < size) record_is.is cut) }
  where
    at_record : (payload rest : List ℕ) → length payload < 2 ^ 32 → size ≡ from_be_bytes w32 (to_be_bytes w32 (length payload)) → length (payload ++ rest) < size → ⊥
    at_record payload rest short size_is less = omega (arith, size_is, from_be_bytes-to_be_bytes_4 (length payload) short, less, length-append payload rest)

-- the record is whole
pub some_whole : (bytes : List ℕ) (size : ℕ) → ((i : ℕ) → get_or bytes i 0 < 256) → 5 ≤ length bytes → get_or bytes 0 0 ≡ 1 → size ≡ from_be_bytes w32 (size_bytes bytes) → size < 2 ^ 32 → size ≤ length (drop 5 bytes)
    → IsRecord bytes (take size (drop 5 bytes)) (drop size (drop 5 bytes))
some_whole bytes size fit long gate is below within =
    let count : length (take size (drop 5 bytes)) ≡ size = omega (arith, length-take size (drop 5 bytes)) in
    let spelt : to_be_bytes w32 size ≡ size_bytes bytes = be_bytes_4 (size_bytes bytes) size refl fits is in
    let size_is : to_be_bytes w32 (length (take size (drop 5 bytes))) ≡ size_bytes bytes = ap (λ (n : ℕ). to_be_bytes w32 n) count ∙ spelt in
    record {
      is =
          five bytes long ∙ ap (λ (n : ℕ). n ∷ size_bytes bytes ++ drop 5 bytes) gate
          ∙ ap (λ (l : List ℕ). 1 ∷ l ++ drop 5 bytes) (sym size_is)
          ∙ ap (λ (l : List ℕ). 1 ∷ to_be_bytes w32 (length (take size (drop 5 bytes))) ++ l) (sym (take-append-drop size (drop 5 bytes)))
          ∙ sym (append_assoc (1 ∷ to_be_bytes w32 (length (take size (drop 5 bytes)))) (take size (drop 5 bytes)) (drop size (drop 5 bytes)));
      short = omega (arith, count);
    }
  where
    fits : (i : ℕ) → get_or (size_bytes bytes) i 0 < 256
    fits zero = fit 1
    fits (suc zero) = fit 2
    fits (suc (suc zero)) = fit 3
    fits (suc (suc (suc zero))) = fit 4
    fits (suc (suc (suc (suc i)))) = omega arith

-- these records stand before the rest
pub record Front (file : List ℕ) (records : List (List ℕ)) (rest : List ℕ) : Type 0 where
  pub is : file ≡ spelled records ++ rest
  pub short : All (λ payload. length payload < 2 ^ 32) records

-- what a file with records says of the rest
pub record Back (file rest : List ℕ) : Type 0 where
  pub from : (records : List (List ℕ)) → HasRecords file records → (more : List (List ℕ)) × HasRecords rest more

pub front_more : {file : List ℕ} (records : List (List ℕ)) {rest payload after : List ℕ} → Front file records rest → IsRecord rest payload after → Front file (records ++ payload ∷ []) after
front_more records {payload = payload} {after = after} front one = record {
  is = front.is ∙ ap (λ (l : List ℕ). spelled records ++ l) (one.is ∙ append_assoc (1 ∷ []) (body payload) after) ∙ sym (spelled-push records payload after);
  short = All-push (λ (l : List ℕ). length l < 2 ^ 32) records payload front.short one.short;
}

-- the records of a file that begins with one
tail_has : (rest payload after : List ℕ) → IsRecord rest payload after → (r : List ℕ) (records : List (List ℕ)) → HasRecords rest (r ∷ records) → HasRecords after records
tail_has rest payload after one r records has =
    let short_r : length r < 2 ^ 32 = All-head (λ (l : List ℕ). length l < 2 ^ 32) r records has.short in
    let same : 1 ∷ body payload ++ after ≡ 1 ∷ body r ++ (spelled records ++ has.gate ∷ has.rest) = sym one.is ∙ has.is ∙ append_assoc (1 ∷ body r) (spelled records) (has.gate ∷ has.rest) in
    let sizes : from_be_bytes w32 (to_be_bytes w32 (length payload)) ≡ from_be_bytes w32 (to_be_bytes w32 (length r)) = ap (λ (l : List ℕ). from_be_bytes w32 (size_bytes l)) same in
    let lengths : length payload ≡ length r = sym (from_be_bytes-to_be_bytes_4 (length payload) one.short) ∙ sizes ∙ from_be_bytes-to_be_bytes_4 (length r) short_r in
    let ends : after ≡ spelled records ++ has.gate ∷ has.rest =
    sym (drop_at payload after (length payload) refl) ∙ ap (λ (l : List ℕ). drop (length payload) (drop 5 l)) same ∙ ap (λ (n : ℕ). drop n (r ++ (spelled records ++ has.gate ∷ has.rest))) lengths ∙ drop_at r (spelled records ++ has.gate ∷ has.rest) (length r) refl in
    record { gate = has.gate; rest = has.rest; shut = has.shut; is = ends; short = All-tail (λ (l : List ℕ). length l < 2 ^ 32) r records has.short }

tail_of : (rest payload after : List ℕ) → IsRecord rest payload after → (records : List (List ℕ)) → HasRecords rest records → (more : List (List ℕ)) × HasRecords after more
tail_of rest payload after one [] has = absurd (has.shut (sym (ap (λ (l : List ℕ). get_or l 0 0) (sym one.is ∙ has.is))))
tail_of rest payload after one (r ∷ records) has = (records, tail_has rest payload after one r records has)

pub back_more : {file rest payload after : List ℕ} → Back file rest → IsRecord rest payload after → Back file after
back_more {rest = rest} {payload = payload} {after = after} back one = record { from = λ records has. let more = back.from records has in tail_of rest payload after one more.0 more.1 }

-- a closed gate behind them
pub ends_at : (file : List ℕ) (records : List (List ℕ)) (rest : List ℕ) → Front file records rest → (gate : ℕ) (more : List ℕ) → rest ≡ gate ∷ more → gate ≢ 1 → EndsAt (length file - length rest) file records
ends_at file records rest front gate more is shut = record {
  has = record { gate = gate; rest = more; shut = shut; is = front.is ∙ ap (λ (l : List ℕ). spelled records ++ l) is; short = front.short };
  counts = omega (arith, ap length front.is, length-append (spelled records) rest);
}

no_records : (rest : List ℕ) → HasNoRecord rest → (get_or rest 0 0 ≡ 1) ⊎ (rest ≡ []) → (records : List (List ℕ)) → HasRecords rest records → ⊥
no_records rest none (inl is_open) [] has = has.shut (sym (ap (λ (l : List ℕ). get_or l 0 0) has.is) ∙ is_open)
no_records rest none (inr empty) [] has = absurd (omega (arith, ap length has.is, ap length empty))
no_records rest none why (r ∷ records) has =
    none.none r (spelled records ++ has.gate ∷ has.rest) (record { is = has.is ∙ append_assoc (1 ∷ body r) (spelled records) (has.gate ∷ has.rest); short = All-head (λ (l : List ℕ). length l < 2 ^ 32) r records has.short })

pub has_none : (file rest : List ℕ) → Back file rest → HasNoRecord rest → (get_or rest 0 0 ≡ 1) ⊎ (rest ≡ []) → HasNone file
has_none file rest back none why = record { none = λ records has. let more = back.from records has in no_records rest none why more.0 more.1 }

-- a file has one list of records
pub one_list : (x : List ℕ) (rs qs : List (List ℕ)) → HasRecords x rs → HasRecords x qs → rs ≡ qs
one_list x [] [] a b = refl
one_list x [] (q ∷ qs) a b = absurd (a.shut (ap (λ (l : List ℕ). get_or l 0 0) (sym a.is ∙ b.is)))
one_list x (r ∷ rs) [] a b = absurd (b.shut (ap (λ (l : List ℕ). get_or l 0 0) (sym b.is ∙ a.is)))
one_list x (r ∷ rs) (q ∷ qs) a b =
    let short_r : length r < 2 ^ 32 = All-head (λ (l : List ℕ). length l < 2 ^ 32) r rs a.short in
    let one : IsRecord x r (spelled rs ++ a.gate ∷ a.rest) = record { is = a.is ∙ append_assoc (1 ∷ body r) (spelled rs) (a.gate ∷ a.rest); short = short_r } in
    let rest_q = tail_has x r (spelled rs ++ a.gate ∷ a.rest) one q qs b in
    let short_q : length q < 2 ^ 32 = All-head (λ (l : List ℕ). length l < 2 ^ 32) q qs b.short in
    let same : 1 ∷ body r ++ (spelled rs ++ a.gate ∷ a.rest) ≡ 1 ∷ body q ++ (spelled qs ++ b.gate ∷ b.rest) = sym one.is ∙ b.is ∙ append_assoc (1 ∷ body q) (spelled qs) (b.gate ∷ b.rest) in
    let sizes : from_be_bytes w32 (to_be_bytes w32 (length r)) ≡ from_be_bytes w32 (to_be_bytes w32 (length q)) = ap (λ (l : List ℕ). from_be_bytes w32 (size_bytes l)) same in
    let lengths : length r ≡ length q = sym (from_be_bytes-to_be_bytes_4 (length r) short_r) ∙ sizes ∙ from_be_bytes-to_be_bytes_4 (length q) short_q in
    let heads : r ≡ q = sym (take_at r (spelled rs ++ a.gate ∷ a.rest) (length r) refl) ∙ ap (λ (l : List ℕ). take (length r) (drop 5 l)) same ∙ ap (λ (n : ℕ). take n (q ++ (spelled qs ++ b.gate ∷ b.rest))) lengths ∙ take_at q (spelled qs ++ b.gate ∷ b.rest) (length q) refl in
    let tail_r : HasRecords (spelled rs ++ a.gate ∷ a.rest) rs = record { gate = a.gate; rest = a.rest; shut = a.shut; is = refl; short = All-tail (λ (l : List ℕ). length l < 2 ^ 32) r rs a.short } in
    let tails : rs ≡ qs = one_list (spelled rs ++ a.gate ∷ a.rest) rs qs tail_r rest_q in
    λ i. heads i ∷ tails i
