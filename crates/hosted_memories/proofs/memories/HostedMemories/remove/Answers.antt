use Rattle.std.proofs.Common.{◌∙◌, ap}
use Rattle.std.specs.FinMap as map
use Rattle.std.specs.Option.{option_map}
use Rattle.node_store.proofs.PathMaps.{updated-remove}
use Rattle.hosted_memories.specs.declared.hosting.Hosting.{Hosting}
use Rattle.hosted_memories.specs.Hosted.{HostedTablets}
use Rattle.hosted_memories.proofs.RowLemmas.{found_at}
use Rattle.hosted_memories.proofs.memories.HostedMemories.remove.Goals as goal
use Rattle.hosted_memories.proofs.memories.HostedMemories.remove.Goals.{in-Some, in-None}

pub returns-clause-was : goal.returns-clause-was
returns-clause-was c =
    let found = found_at c.args.row.now c.self.inside.tablets.entries c.args.self.now c.self.view_is in
    elim c.match-remove.branch [
      | in-Some w ↦ w.result-is ∙ ap (option_map (λ (h : Hosting). h.memory)) (w.in-Some.ensures.value ∙ found)
      | in-None w ↦ w.result-is ∙ ap (option_map (λ (h : Hosting). h.memory)) (w.in-None.ensures.value ∙ found)
    ]

pub returns-clause-after : goal.returns-clause-after
returns-clause-after c =
    updated-remove c.self.inside.tablets.entries c.remove.new.self.entries c.args.row.now (c.remove.ensures.updates.0) ∙ ap (λ (m : HostedTablets). map.remove m c.args.row.now) c.self.view_is
