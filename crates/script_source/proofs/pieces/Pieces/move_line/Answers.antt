use Rattle.std.proofs.Common.{◌≡◌, ◌++◌, ◌+◌, ◌-◌, ◌≤◌, true, drop, slice_range, sym, ◌∙◌, ap, subst, arith, length-take, List, ℕ}
use Rattle.std.proofs.lemmas.List.{nil_from_length}
use Rattle.script_source.specs.Feeds.{MovesLine, HasNoFeed}
use Rattle.script_source.proofs.FeedLemmas.{moves_to_feed, no_feed_from_none, drop-slice_range}
use Rattle.script_source.proofs.pieces.Pieces.move_line.Goals as goal

pub returns-in_ok-extend_from_slice-in-Some : goal.returns-in_ok-extend_from_slice-in-Some
returns-in_ok-extend_from_slice-in-Some c =
    let from = c.self.inside.from in
    let to = c.self.inside.to in
    let end = c.in-Some.end in
    let text = c.deref.result.now in
    let held : slice_range text from to ≡ c.args.self.now = ap (λ (l : List ℕ). slice_range l from to) c.deref.ensures.value ∙ c.self.view_is in
    let within : from + (end + 1) ≤ to = omega (arith, c.in-Some.ensures.0.high, length-take (to - from) (drop from text)) in
    let rest = slice_range c.self.inside.piece.items (from + (end + 1)) to in
    let rest_is : rest ≡ drop (end + 1) (slice_range text from to) = ap (λ (l : List ℕ). slice_range l (from + (end + 1)) to) (sym c.deref.ensures.value) ∙ sym (drop-slice_range text from to (end + 1) within) in
    subst (λ (l : List ℕ). MovesLine true l c.args.line.now.items rest c.extend_from_slice.new.self.items) held
    (moves_to_feed (slice_range text from to) c.args.line.now.items rest c.extend_from_slice.new.self.items end c.in-Some.ensures.0 c.in-Some.ensures.1 rest_is c.in_ok-extend_from_slice-in-Some.ensures.items)

pub returns-in_ok-extend_from_slice-in-None : goal.returns-in_ok-extend_from_slice-in-None
returns-in_ok-extend_from_slice-in-None c =
    let from = c.self.inside.from in
    let to = c.self.inside.to in
    let text = c.deref.result.now in
    let held : slice_range text from to ≡ c.args.self.now = ap (λ (l : List ℕ). slice_range l from to) c.deref.ensures.value ∙ c.self.view_is in (
      subst (λ (l : List ℕ). HasNoFeed l) held (no_feed_from_none (slice_range text from to) c.in-None.ensures),
      nil_from_length _ (omega (arith, length-take (to - to) (drop to c.self.inside.piece.items))),
      c.in_ok-extend_from_slice-in-None.ensures.items ∙ ap (λ (l : List ℕ). c.args.line.now.items ++ l) held,
    )
