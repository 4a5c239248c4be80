-- Where line feeds stand, and where none does.
use Rattle.std.proofs.Common.{◌≡◌, ◌≢◌, ℕ, suc, Bool, true, false, slice_range, ◌+◌, ◌-◌, ◌<◌, ◌≤◌, List, [], ◌∷◌, ◌++◌, length, take, drop, get_or, sym, ◌∙◌, ap, subst, arith, add-one, drop-cons, length-take, take-append-drop, append_assoc, refl}
use Rattle.std.proofs.lemmas.List.{get_or-take, take_all, drop-take, drop-drop}
use Rattle.std.proofs.lemmas.List.Elements.{All-append, All-contains, All-nil, All-from_get_or, at_from_Contains}
use Rattle.std.specs.Prelude.{Contains}
use Rattle.std.proofs.lemmas.Bool.Decides.{nat_tests}
use Rattle.memchr.specs.Find.{Nowhere, NoneBefore, Passes, is_byte}
use Rattle.script_source.specs.Feeds.{HasNoFeed, MovesLine}

pub no_feed-nil : HasNoFeed []
no_feed-nil = record { each = All-nil (λ byte. byte ≢ 10) }

pub no_feed-append : (xs ys : List ℕ) → HasNoFeed xs → HasNoFeed ys → HasNoFeed (xs ++ ys)
no_feed-append xs ys one two = record { each = All-append (λ byte. byte ≢ 10) xs ys one.each two.each }

pub no_feed_first : (byte : ℕ) (bytes : List ℕ) → HasNoFeed (byte ∷ bytes) → byte ≢ 10
no_feed_first byte bytes none = none.each 0 0 (omega arith)

pub no_feed_rest : (byte : ℕ) (bytes : List ℕ) → HasNoFeed (byte ∷ bytes) → HasNoFeed bytes
no_feed_rest byte bytes none = record { each = λ k d lt. none.each (suc k) d (omega arith) }

-- a search that found no feed so far
pub no_feed_from_nowhere : (bytes : List ℕ) (n : ℕ) → n ≤ length bytes → Nowhere (Passes (is_byte 10) bytes) 0 n → HasNoFeed (take n bytes)
no_feed_from_nowhere bytes n within nowhere = record { each = All-from_get_or (λ byte. byte ≢ 10) (take n bytes) 0 each }
  where
    each : (i : ℕ) → i < length (take n bytes) → get_or (take n bytes) i 0 ≢ 10
    each i lt is =
        let below : i < n = omega (arith, lt, length-take n bytes) in
        let here : get_or bytes i 0 ≡ 10 = sym (get_or-take n bytes i 0 below) ∙ is in
        nowhere i (omega arith) below (grind (arith, nat_tests))

pub no_feed_from_none : (bytes : List ℕ) → Nowhere (Passes (is_byte 10) bytes) 0 (length bytes) → HasNoFeed bytes
no_feed_from_none bytes nowhere = subst (λ (l : List ℕ). HasNoFeed l) (take_all (length bytes) bytes (omega arith)) (no_feed_from_nowhere bytes (length bytes) (omega arith) nowhere)

-- bytes fall apart at a feed
pub cut_at_feed : (bytes : List ℕ) (end : ℕ) → end < length bytes → Passes (is_byte 10) bytes end → bytes ≡ take end bytes ++ 10 ∷ drop (end + 1) bytes
cut_at_feed bytes end within passes =
    let here : get_or bytes end 0 ≡ 10 = grind (arith, nat_tests) in
    sym (take-append-drop end bytes) ∙ ap (λ (l : List ℕ). take end bytes ++ l) (drop-cons bytes end 0 within ∙ ap (λ (byte : ℕ). byte ∷ drop (suc end) bytes) here ∙ ap (λ (n : ℕ). 10 ∷ drop n bytes) (sym (add-one end)))

pub drop-slice_range : (xs : List ℕ) (from to n : ℕ) → from + n ≤ to → drop n (slice_range xs from to) ≡ slice_range xs (from + n) to
drop-slice_range xs from to n within =
    let size : to - from ≡ n + (to - (from + n)) = omega arith in
    ap (λ (k : ℕ). drop n (take k (drop from xs))) size ∙ drop-take n (to - (from + n)) (drop from xs) ∙ ap (λ (l : List ℕ). take (to - (from + n)) l) (drop-drop n from xs)

pub moves_to_feed : (held line rest longer : List ℕ) (end : ℕ) → NoneBefore (Passes (is_byte 10) held) 0 (length held) end → Passes (is_byte 10) held end → rest ≡ drop (end + 1) held → longer ≡ line ++ take end held → MovesLine true held line rest longer
moves_to_feed held line rest longer end none here rest_is longer_is = (
  take end held,
  no_feed_from_nowhere held end (omega (arith, none.high)) none.before,
  cut_at_feed held end none.high here ∙ ap (λ (l : List ℕ). take end held ++ 10 ∷ l) (sym rest_is),
  longer_is,
)

pub no_feed_longer : (is_ended : Bool) (pending line rest longer : List ℕ) → MovesLine is_ended pending line rest longer → HasNoFeed line → HasNoFeed longer
no_feed_longer true pending line rest longer moves none = subst (λ (l : List ℕ). HasNoFeed l) (sym moves.3) (no_feed-append line moves.0 none moves.1)
no_feed_longer false pending line rest longer moves none = subst (λ (l : List ℕ). HasNoFeed l) (sym moves.2) (no_feed-append line pending none moves.0)

-- what is behind a line that was moved
pub moved_ended : (pending line rest longer script : List ℕ) → MovesLine true pending line rest longer → line ++ (pending ++ script) ≡ longer ++ 10 ∷ (rest ++ script)
moved_ended pending line rest longer script moves =
    ap (λ (l : List ℕ). line ++ (l ++ script)) moves.2 ∙ ap (λ (l : List ℕ). line ++ l) (append_assoc moves.0 (10 ∷ rest) script) ∙ sym (append_assoc line moves.0 (10 ∷ rest ++ script))
    ∙ ap (λ (l : List ℕ). l ++ 10 ∷ (rest ++ script)) (sym moves.3)

pub moved_unended : (pending line rest longer script : List ℕ) → MovesLine false pending line rest longer → line ++ (pending ++ script) ≡ longer ++ (rest ++ script)
moved_unended pending line rest longer script moves =
    sym (append_assoc line pending script) ∙ ap (λ (l : List ℕ). l ++ script) (sym moves.2) ∙ ap (λ (l : List ℕ). longer ++ (l ++ script)) (sym moves.1)

pub moved_front : (is_ended : Bool) (pending line rest longer script : List ℕ) → MovesLine is_ended pending line rest longer → (more : List ℕ) × (line ++ (pending ++ script) ≡ longer ++ more)
moved_front true pending line rest longer script moves = (10 ∷ (rest ++ script), moved_ended pending line rest longer script moves)
moved_front false pending line rest longer script moves = (rest ++ script, moved_unended pending line rest longer script moves)

-- ---- where a feed is held

pub some_from_feed : (bytes : List ℕ) → Contains bytes 10 → 0 < length bytes
some_from_feed bytes has =
    let at = at_from_Contains bytes 10 has in
    omega (arith, at.1)

pub feed_against_none : (bytes : List ℕ) → HasNoFeed bytes → Contains bytes 10 → ⊥
feed_against_none bytes none has = All-contains (λ byte. byte ≢ 10) bytes 10 none.each has refl

-- what is held stays so, and with it the host
pub still_held : {H : Type 0} (first held more : List ℕ) (a b c : H) → Contains first 10 → (held ≡ first) × (b ≡ a) → (0 < length held → (more ≡ held) × (c ≡ b)) → (more ≡ first) × (c ≡ a)
still_held first held more a b c has so_far fills =
    let filled = fills (subst (λ (l : List ℕ). 0 < length l) (sym so_far.0) (some_from_feed first has)) in
    (filled.0 ∙ so_far.0, filled.1 ∙ so_far.1)
