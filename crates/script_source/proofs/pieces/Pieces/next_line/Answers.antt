use Rattle.std.proofs.Common.{◌≡◌, inr, ◌++◌, ℕ, Bool, true, false, List, [], IsTrue, sym, ◌∙◌, ap, subst, arith, refl}
use Rattle.std.proofs.lemmas.List.{append-nil}
use Rattle.host_model.specs.State.{HostState}
use Rattle.host_model.proofs.CallsLemmas.{still_faithful}
use Rattle.script_source.specs.Hearing.{Listens}
use Rattle.script_source.specs.Feeds.{HasNoFeed, MovesLine, Fills}
use Rattle.script_source.proofs.HearingLemmas.{listens-refl, listens-then, heard_then, heard_on}
use Rattle.script_source.proofs.FeedLemmas.{no_feed-nil, no_feed_longer, moved_ended, moved_unended, moved_front, feed_against_none, still_held}
use Rattle.script_source.proofs.LinesLemmas.{meets_long_line, takes_ended, takes_last}
use Rattle.script_source.proofs.pieces.Pieces.next_line.Goals as goal

-- what is left of the script, with the line before it, once bytes are held
left_of : {a b c : HostState} {held more : List ℕ} {is_some : Bool} (line before : List ℕ) → Listens a b → Fills held b more c is_some → (IsTrue a.is_faithful → line ++ (held ++ b.script) ≡ before)
    → IsTrue a.is_faithful → line ++ (more ++ c.script) ≡ before
left_of line before listens fills left f = ap (λ (l : List ℕ). line ++ l) (fills.left (still_faithful listens.keeps f)) ∙ left f

pub loop-line-init : goal.loop-line-init
loop-line-init g c = record {
  short = omega arith;
  none = subst (λ (l : List ℕ). HasNoFeed l) (sym c.new-line.ensures.items) no_feed-nil;
  listens = listens-refl (g.H.Host.state c.args.host.now);
  left = λ f. ap (λ (l : List ℕ). l ++ (c.args.self.now ++ (g.H.Host.state c.args.host.now).script)) c.new-line.ensures.items;
  last = inr (refl, inr refl);
  held = λ has. (refl, refl);
}

pub returns-in_err-fill-clause-listens : goal.returns-in_err-fill-clause-listens
returns-in_err-fill-clause-listens g c = listens-then c.loop-line.invariant.listens c.fill.ensures.listens

pub returns-in_err-fill-clause-held : goal.returns-in_err-fill-clause-held
returns-in_err-fill-clause-held g c has = (still_held _ _ _ _ _ _ has (c.loop-line.invariant.held has) c.fill.ensures.held).1

pub returns-in_err-is_ended-clause-listens : goal.returns-in_err-is_ended-clause-listens
returns-in_err-is_ended-clause-listens g c = listens-then c.loop-line.invariant.listens c.fill.ensures.listens

pub returns-in_err-is_ended-clause-held : goal.returns-in_err-is_ended-clause-held
returns-in_err-is_ended-clause-held g c has = (still_held _ _ _ _ _ _ has (c.loop-line.invariant.held has) c.fill.ensures.held).1

pub returns-then-len-gt-MAX_LINE-clause-listens : goal.returns-then-len-gt-MAX_LINE-clause-listens
returns-then-len-gt-MAX_LINE-clause-listens g c = listens-then c.loop-line.invariant.listens c.fill.ensures.listens

pub returns-then-len-gt-MAX_LINE-clause-held : goal.returns-then-len-gt-MAX_LINE-clause-held
returns-then-len-gt-MAX_LINE-clause-held g c has = (still_held _ _ _ _ _ _ has (c.loop-line.invariant.held has) c.fill.ensures.held).1

pub returns-then-len-gt-MAX_LINE-clause-takes : goal.returns-then-len-gt-MAX_LINE-clause-takes
returns-then-len-gt-MAX_LINE-clause-takes g c = λ f.
    let now = g.H.Host.state c.fill.new.host in
    let longer = c.move_line.new.line.items in
    let none = no_feed_longer _ _ _ _ longer c.in_ok-is_ended.ensures c.loop-line.invariant.none in
    let front = moved_front _ _ _ _ longer now.script c.in_ok-is_ended.ensures in
    let left = left_of _ _ c.loop-line.invariant.listens c.in_ok-fill.ensures.fills c.loop-line.invariant.left f in
    meets_long_line _ longer front.0 (sym left ∙ front.1) none (omega arith)

pub returns-then-is_ended-clause-listens : goal.returns-then-is_ended-clause-listens
returns-then-is_ended-clause-listens g c = listens-then c.loop-line.invariant.listens c.fill.ensures.listens

pub returns-then-is_ended-clause-held : goal.returns-then-is_ended-clause-held
returns-then-is_ended-clause-held g c has = (still_held _ _ _ _ _ _ has (c.loop-line.invariant.held has) c.fill.ensures.held).1

pub returns-then-is_ended-clause-takes : goal.returns-then-is_ended-clause-takes
returns-then-is_ended-clause-takes g c = λ f.
    let now = g.H.Host.state c.fill.new.host in
    let longer = c.move_line.new.line.items in
    let rest = c.move_line.new.self in
    let none = no_feed_longer _ _ _ _ longer c.in_ok-is_ended.ensures c.loop-line.invariant.none in
    let moves : MovesLine true c.fill.new.self c.loop-line.line.items rest longer = rw c.if-is_ended.true at c.in_ok-is_ended.ensures in
    let left = left_of _ _ c.loop-line.invariant.listens c.in_ok-fill.ensures.fills c.loop-line.invariant.left f in
    takes_ended _ longer (rest ++ now.script) _ (sym left ∙ moved_ended _ _ rest longer now.script moves) c.drop_return.ensures none (omega arith)

pub loop-line-preserved : goal.loop-line-preserved
loop-line-preserved g c =
    let now = g.H.Host.state c.fill.new.host in
    let longer = c.move_line.new.line.items in
    let moves : MovesLine false c.fill.new.self c.loop-line.line.items c.move_line.new.self longer = rw c.if-is_ended.false at c.in_ok-is_ended.ensures in record {
      short = omega arith;
      none = no_feed_longer _ _ _ _ longer c.in_ok-is_ended.ensures c.loop-line.invariant.none;
      listens = listens-then c.loop-line.invariant.listens c.fill.ensures.listens;
      last = heard_on (λ h. (g.H.Host.state h).last) _ _ _ _ (heard_then (λ h. (g.H.Host.state h).last) _ _ _ _ _ c.loop-line.invariant.last c.fill.ensures.last);
      held = λ has. absurd (feed_against_none _ (subst (λ (l : List ℕ). HasNoFeed l) (still_held _ _ _ _ _ _ has (c.loop-line.invariant.held has) c.fill.ensures.held).0 moves.0) has);
      left = λ f. sym (moved_unended _ _ _ longer now.script moves) ∙ left_of _ _ c.loop-line.invariant.listens c.in_ok-fill.ensures.fills c.loop-line.invariant.left f;
    }

pub returns-clause-listens : goal.returns-clause-listens
returns-clause-listens g c = listens-then c.loop-line.invariant.listens c.fill.ensures.listens

pub returns-clause-held : goal.returns-clause-held
returns-clause-held g c has = (still_held _ _ _ _ _ _ has (c.loop-line.invariant.held has) c.fill.ensures.held).1

-- nothing is left behind a last line
ended : {b c : HostState} {held more : List ℕ} {is_some : Bool} → is_some ≡ false → Fills held b more c is_some → IsTrue b.is_faithful → more ++ c.script ≡ []
ended {is_some = true} is fills f = cc
ended {is_some = false} is fills f = fills.none f

pub returns-clause-takes : goal.returns-clause-takes
returns-clause-takes g c = λ f.
    let line = c.loop-line.line.items in
    let nothing = ended c.if-branch.false c.in_ok-fill.ensures.fills (still_faithful c.loop-line.invariant.listens.keeps f) in
    let left = left_of _ _ c.loop-line.invariant.listens c.in_ok-fill.ensures.fills c.loop-line.invariant.left f in
    let whole = sym left ∙ ap (λ (l : List ℕ). line ++ l) nothing ∙ append-nil line in
    takes_last _ line _ c.last_line.result whole nothing c.loop-line.invariant.none c.loop-line.invariant.short c.last_line.ensures

pub returns-in_err-fill-clause-last : goal.returns-in_err-fill-clause-last
returns-in_err-fill-clause-last g c = heard_then (λ h. (g.H.Host.state h).last) _ _ _ _ _ c.loop-line.invariant.last c.fill.ensures.last

pub returns-in_err-is_ended-clause-last : goal.returns-in_err-is_ended-clause-last
returns-in_err-is_ended-clause-last g c = heard_then (λ h. (g.H.Host.state h).last) _ _ _ _ _ c.loop-line.invariant.last c.fill.ensures.last

pub returns-then-len-gt-MAX_LINE-clause-last : goal.returns-then-len-gt-MAX_LINE-clause-last
returns-then-len-gt-MAX_LINE-clause-last g c = heard_then (λ h. (g.H.Host.state h).last) _ _ _ _ _ c.loop-line.invariant.last c.fill.ensures.last

pub returns-then-is_ended-clause-last : goal.returns-then-is_ended-clause-last
returns-then-is_ended-clause-last g c = heard_then (λ h. (g.H.Host.state h).last) _ _ _ _ _ c.loop-line.invariant.last c.fill.ensures.last

pub returns-clause-last : goal.returns-clause-last
returns-clause-last g c = heard_then (λ h. (g.H.Host.state h).last) _ _ _ _ _ c.loop-line.invariant.last c.fill.ensures.last
