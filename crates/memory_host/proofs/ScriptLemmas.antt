-- What is heard of a script.
use Rattle.std.proofs.Common.{◌≡◌, ◌+◌, ◌<◌, ◌-◌, min, ℕ, List, ◌++◌, length, take, drop, sym, ap, ◌∙◌, arith, length-append, length-take, take-append-drop}
use Rattle.std.proofs.lemmas.List.{take_rest, take_at, drop-drop, nil_from_length}
use Rattle.host_model.specs.Calls.{HearsFront}

pub heard_front : (script bytes seen into copied : List ℕ) (from count : ℕ) → script ≡ drop from bytes → seen ≡ bytes → count ≡ min (length (take (length seen - from) (drop from seen))) (length into) → copied ≡ take count (take (length seen - from) (drop from seen)) → 0 < length into
    → HearsFront (length (copied ++ drop count into)) count (copied ++ drop count into) script (drop (from + count) bytes)
heard_front script bytes seen into copied from count is same_bytes long same some =
    let whole : take (length seen - from) (drop from seen) ≡ drop from bytes = take_rest seen from ∙ ap (λ (l : List ℕ). drop from l) same_bytes in
    let same_front : copied ≡ take count (drop from bytes) = same ∙ ap (λ (l : List ℕ). take count l) whole in
    let long_front : count ≡ min (length (drop from bytes)) (length into) = long ∙ ap (λ (l : List ℕ). min (length l) (length into)) whole in
    let size : length copied ≡ count = ap length same_front ∙ omega (arith, length-take count (drop from bytes), long_front) in
    record {
      within = omega (arith, size, length-append copied (drop count into));
      front = ap (λ (l : List ℕ). l ++ drop (from + count) bytes) (take_at copied (drop count into) count size ∙ same_front) ∙ ap (λ (l : List ℕ). take count (drop from bytes) ++ l) (sym (drop-drop count from bytes)) ∙ take-append-drop count (drop from bytes) ∙ sym is;
      some = λ none. is ∙ nil_from_length (drop from bytes) (omega (arith, none, long_front, some));
    }
