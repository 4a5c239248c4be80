use Rattle.std.proofs.Common.{◌∙◌, sym, ap}
use Rattle.std.specs.FinMap as map
use Rattle.node_store.proofs.PathMaps.{updated-insert}
use Rattle.hosted_memories.specs.Hosted.{HostedTablets}
use Rattle.hosted_memories.proofs.RowLemmas.{found_at, on_err}
use Rattle.hosted_memories.proofs.memories.HostedMemories.insert.Goals as goal

pub returns-in_err-insert-clause-absent : goal.returns-in_err-insert-clause-absent
returns-in_err-insert-clause-absent c = on_err c.from_residual.result _ (sym (found_at c.args.row c.self.inside.tablets.entries c.args.self.now c.self.view_is) ∙ c.in_err-insert.ensures.absent)

pub returns-clause-ok : goal.returns-clause-ok
returns-clause-ok c =
    updated-insert c.self.inside.tablets.entries c.insert.new.self.entries c.args.row (record { session = c.args.session; memory = c.args.memory }) (c.in_ok-insert.ensures.updates.0)
    ∙ ap (λ (m : HostedTablets). map.insert m c.args.row (record { session = c.args.session; memory = c.args.memory })) c.self.view_is
