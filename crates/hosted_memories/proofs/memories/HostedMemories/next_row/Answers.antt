use Rattle.std.proofs.Common.{◌≡◌, ◌∙◌, Bor, List, ℕ, sym, ap}
use Rattle.std.specs.Option.{option_copied}
use Rattle.std.specs.Range.Bound.{bound_map}
use Rattle.hosted_memories.proofs.RowLemmas.{start_of, no_row, next_row}
use Rattle.hosted_memories.proofs.memories.HostedMemories.next_row.Goals as goal
use Rattle.hosted_memories.proofs.memories.HostedMemories.next_row.Goals.{in-Some, in-None}

pub returns-in-Some-next : goal.returns-in-Some-next
returns-in-Some-next c =
    let from : bound_map (λ (x : Bor (List ℕ)). x.now) c.match-low.start ≡ start_of (option_copied c.args.low) =
    elim c.match-low.branch [
      | in-Some w ↦ ap (bound_map (λ (x : Bor (List ℕ)). x.now)) w.start-is ∙ sym (ap (λ low. start_of (option_copied low)) w.in-Some.is)
      | in-None w ↦ ap (bound_map (λ (x : Bor (List ℕ)). x.now)) w.start-is ∙ sym (ap (λ low. start_of (option_copied low)) w.in-None.is)
    ] in
    next_row c.self.inside.tablets c.args.self.now c.self.view_is (option_copied c.args.low) _ from c.range.result (c.range.ensures.in_range tt) c.in-Some-next.row.now c.in-Some-next.field-0-1.now c.next.new.self c.in-Some-next.ensures.steps

pub returns-in-None-next : goal.returns-in-None-next
returns-in-None-next c =
    let from : bound_map (λ (x : Bor (List ℕ)). x.now) c.match-low.start ≡ start_of (option_copied c.args.low) =
    elim c.match-low.branch [
      | in-Some w ↦ ap (bound_map (λ (x : Bor (List ℕ)). x.now)) w.start-is ∙ sym (ap (λ low. start_of (option_copied low)) w.in-Some.is)
      | in-None w ↦ ap (bound_map (λ (x : Bor (List ℕ)). x.now)) w.start-is ∙ sym (ap (λ low. start_of (option_copied low)) w.in-None.is)
    ] in
    no_row c.self.inside.tablets c.args.self.now c.self.view_is (option_copied c.args.low) _ from c.range.result (c.range.ensures.in_range tt) c.in-None-next.ensures.steps.0
