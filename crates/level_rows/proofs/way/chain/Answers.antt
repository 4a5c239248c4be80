use Rattle.std.proofs.Common.{◌≡◌, ◌∙◌, sym, ap, subst, reverse}
use Rattle.std.proofs.lemmas.List.{reverse-reverse}
use Rattle.level_rows.specs.Chain.{Rows, IsChain}
use Rattle.level_rows.specs.Broken.{IsBroken}
use Rattle.level_rows.specs.Index.{found_at}
use Rattle.level_rows.proofs.ChoiceLemmas.{none_of, some_of}
use Rattle.level_rows.proofs.IndexLemmas.{finds_own, finds_as}
use Rattle.level_rows.proofs.way.chain.Goals as goal

pub way_down-requires-clause-own : goal.way_down-requires-clause-own
way_down-requires-clause-own c = finds_own c.args.table.now c.args.records.now c.in_ok-ends.ends c.in_ok-ends.ensures

pub returns-in_default-2-clause-none : goal.returns-in_default-2-clause-none
returns-in_default-2-clause-none c =
    subst IsBroken (finds_as c.args.table.now c.args.records.now c.in_ok-ends.ends c.in_ok-ends.ensures)
    (none_of c.in_ok-tablets.field-0 (IsBroken (found_at c.in_ok-ends.ends)) c.in_default-2.not-Some c.in_ok-tablets.ensures.none)

pub returns-clause-chain : goal.returns-clause-chain
returns-clause-chain c =
    let tablets = c.in-Some-2.tablets.items in
    let down : IsChain (found_at c.in_ok-ends.ends) tablets = some_of c.in_ok-tablets.field-0 c.in-Some-2.tablets _ c.in-Some-2.is c.in_ok-tablets.ensures.way in
    let same : tablets ≡ reverse c.reverse.new.self.items = sym (reverse-reverse tablets) ∙ ap reverse (sym c.reverse.ensures.items) in
    subst (λ (rows : Rows). IsChain rows (reverse c.reverse.new.self.items)) (finds_as c.args.table.now c.args.records.now c.in_ok-ends.ends c.in_ok-ends.ensures)
    (subst (IsChain (found_at c.in_ok-ends.ends)) same down)
