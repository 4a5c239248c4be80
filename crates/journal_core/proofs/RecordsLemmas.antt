-- What a file stands for while a record is added.
use Rattle.std.proofs.Common.{◌≡◌, ◌⊎◌, inl, inr, ℕ, ◌+◌, ◌^◌, ◌<◌, ◌≤◌, List, [], ◌∷◌, ◌++◌, length, get_or, take, drop, sym, ◌∙◌, ap, arith, append_assoc, length-append, take-append-drop}
use Rattle.std.proofs.lemmas.List.{take_at, drop_at, drop_more, append-nil}
use Rattle.std.proofs.lemmas.List.Elements.{All-push}
use Rattle.std.proofs.lemmas.Bool.{cases_eq}
use Rattle.host_model.specs.Calls.{Torn, Puts}
use Rattle.journal_core.specs.Records.{body, spelled, HasRecords, EndsAt}
use Rattle.journal_core.specs.Changes.{MayGain, Gains}
use Rattle.journal_core.specs.Parts.{KeepsFront}

pub length-body : (payload : List ℕ) → length (body payload) ≡ 4 + length payload
length-body payload = omega arith

pub spelled-push : (records : List (List ℕ)) (payload rest : List ℕ) → spelled (records ++ payload ∷ []) ++ rest ≡ spelled records ++ 1 ∷ (body payload ++ rest)
spelled-push [] payload rest = ap (λ (l : List ℕ). 1 ∷ l ++ rest) (append-nil (body payload))
spelled-push (r ∷ records) payload rest =
    append_assoc (1 ∷ body r) (spelled (records ++ payload ∷ [])) rest ∙ ap (λ (l : List ℕ). 1 ∷ body r ++ l) (spelled-push records payload rest) ∙ sym (append_assoc (1 ∷ body r) (spelled records) (1 ∷ (body payload ++ rest)))

pub length-spelled-push : (records : List (List ℕ)) (payload : List ℕ) → length (spelled (records ++ payload ∷ [])) ≡ length (spelled records) + 5 + length payload
length-spelled-push [] payload = omega (arith, length-append (1 ∷ body payload) [], length-body payload)
length-spelled-push (r ∷ records) payload = omega (arith, length-append (1 ∷ body r) (spelled (records ++ payload ∷ [])), length-append (1 ∷ body r) (spelled records), length-spelled-push records payload)

module _ (end : ℕ) (x : List ℕ) (records : List (List ℕ)) (at : EndsAt end x records) where
  -- the closed gate, and the bytes before it
  gate : ℕ
  gate = at.has.gate

  split : x ≡ (spelled records ++ at.has.gate ∷ []) ++ at.has.rest
  split = at.has.is ∙ sym (append_assoc (spelled records) (at.has.gate ∷ []) at.has.rest)

  size : length (spelled records ++ at.has.gate ∷ []) ≡ end + 1
  size = omega (arith, length-append (spelled records) (at.has.gate ∷ []), at.counts)

  front_is : take (end + 1) x ≡ spelled records ++ at.has.gate ∷ []
  front_is = ap (λ (l : List ℕ). take (end + 1) l) split ∙ take_at (spelled records ++ at.has.gate ∷ []) at.has.rest (end + 1) size

  -- bytes behind the gate add no record
  pub front_has : (y : List ℕ) → KeepsFront (end + 1) x y → HasRecords y records
  front_has y keeps = record {
    gate = at.has.gate;
    rest = drop (end + 1) y;
    shut = at.has.shut;
    is = sym (take-append-drop (end + 1) y) ∙ ap (λ (l : List ℕ). l ++ drop (end + 1) y) (keeps.front ∙ front_is) ∙ append_assoc (spelled records) (at.has.gate ∷ []) (drop (end + 1) y);
    short = at.has.short;
  }

  -- the gate stands in the file
  pub gate_within : end + 1 ≤ length x
  gate_within = omega (arith, ap length split, length-append (spelled records ++ at.has.gate ∷ []) at.has.rest, size)

  module _ (payload : List ℕ) (short : length payload < 2 ^ 32) where
    abbrev behind : List ℕ → List ℕ
    behind rest = body payload ++ 0 ∷ rest

    abbrev left : List ℕ
    left = drop (end + 1 + length (body payload ++ 0 ∷ [])) x

    -- the record and a closed gate stand behind the closed gate
    laid_is : (y : List ℕ) → Puts (end + 1) (body payload ++ 0 ∷ []) x y → y ≡ spelled records ++ at.has.gate ∷ behind left
    laid_is y puts =
        puts.is ∙ ap (λ (l : List ℕ). l ++ (body payload ++ 0 ∷ []) ++ left) front_is
        ∙ ap (λ (l : List ℕ). l ++ left) (append_assoc (spelled records) (at.has.gate ∷ []) (body payload ++ 0 ∷ []))
        ∙ append_assoc (spelled records) (at.has.gate ∷ (body payload ++ 0 ∷ [])) left
        ∙ ap (λ (l : List ℕ). spelled records ++ at.has.gate ∷ l) (append_assoc (body payload) (0 ∷ []) left)

    -- with an open gate the record counts
    open_has : (z : List ℕ) → z ≡ spelled records ++ 1 ∷ behind left → HasRecords z (records ++ payload ∷ [])
    open_has z is = record {
      gate = 0;
      rest = left;
      shut = λ e. absurd (omega (arith, e));
      is = is ∙ sym (spelled-push records payload (0 ∷ left));
      short = All-push (λ (l : List ℕ). length l < 2 ^ 32) records payload at.has.short short;
    }

    -- the gate is open or closed
    gate_has : (y z : List ℕ) → y ≡ spelled records ++ at.has.gate ∷ behind left → Torn end 1 y z → HasRecords z records ⊎ HasRecords z (records ++ payload ∷ [])
    gate_has y z is torn =
        let long : end + 1 ≤ length y = omega (arith, ap length is, length-append (spelled records) (at.has.gate ∷ behind left), at.counts) in
        let g = get_or z end 0 in
        let early : take end z ≡ spelled records = torn.before ∙ ap (λ (l : List ℕ). take end l) is ∙ take_at (spelled records) (at.has.gate ∷ behind left) end (sym at.counts) in
        let past : drop (end + 1) y ≡ behind left =
        ap (λ (l : List ℕ). drop (end + 1) l) (is ∙ sym (append_assoc (spelled records) (at.has.gate ∷ []) (behind left))) ∙ drop_at (spelled records ++ at.has.gate ∷ []) (behind left) (end + 1) size in
        let late : drop end z ≡ g ∷ behind left = drop_more z end 0 (omega (arith, torn.no_shorter, long)) ∙ ap (λ (l : List ℕ). g ∷ l) (torn.after ∙ past) in
        let whole : z ≡ spelled records ++ g ∷ behind left = sym (take-append-drop end z) ∙ ap (λ (l : List ℕ). l ++ drop end z) early ∙ ap (λ (l : List ℕ). spelled records ++ l) late in
        elim (cases_eq g 1) [
          | inl is_open ↦ inr (open_has z (whole ∙ ap (λ (n : ℕ). spelled records ++ n ∷ behind left) is_open))
          | inr shut ↦ inl (record { gate = g; rest = behind left; shut = shut; is = whole; short = at.has.short })
        ]

    opened_is : (y z : List ℕ) → y ≡ spelled records ++ at.has.gate ∷ behind left → Puts end (1 ∷ []) y z → z ≡ spelled records ++ 1 ∷ behind left
    opened_is y z is puts =
        let early : take end y ≡ spelled records = ap (λ (l : List ℕ). take end l) is ∙ take_at (spelled records) (at.has.gate ∷ behind left) end (sym at.counts) in
        let past : drop (end + 1) y ≡ behind left =
        ap (λ (l : List ℕ). drop (end + 1) l) (is ∙ sym (append_assoc (spelled records) (at.has.gate ∷ []) (behind left))) ∙ drop_at (spelled records ++ at.has.gate ∷ []) (behind left) (end + 1) size in
        puts.is ∙ ap (λ (l : List ℕ). l ++ (1 ∷ []) ++ drop (end + 1) y) early ∙ ap (λ (l : List ℕ). spelled records ++ (1 ∷ []) ++ l) past ∙ append_assoc (spelled records) (1 ∷ []) (behind left)

-- the three facts that an append rests on
pub behind_gains : (end : ℕ) (payload x y : List ℕ) → KeepsFront (end + 1) x y → MayGain end payload x y
behind_gains end payload x y keeps = record { each = λ records at. inl (front_has end x records at y keeps) }

pub gate_gains : (end : ℕ) (payload x y z : List ℕ) → length payload < 2 ^ 32 → Puts (end + 1) (body payload ++ 0 ∷ []) x y → Torn end 1 y z → MayGain end payload x z
gate_gains end payload x y z short puts torn = record { each = λ records at. gate_has end x records at payload short y z (laid_is end x records at payload short y puts) torn }

pub opened_gains : (end : ℕ) (payload x y z : List ℕ) → length payload < 2 ^ 32 → Puts (end + 1) (body payload ++ 0 ∷ []) x y → Puts end (1 ∷ []) y z → Gains end payload x z
opened_gains end payload x y z short puts opens = record {
  each = λ records at. record {
    has = open_has end x records at payload short z (opened_is end x records at payload short y z (laid_is end x records at payload short y puts) opens);
    counts = omega (arith, at.counts, length-spelled-push records payload);
  };
}
