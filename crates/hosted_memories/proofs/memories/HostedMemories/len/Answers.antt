use Rattle.std.proofs.Common.{◌∙◌, ap, length}
use Rattle.std.specs.FinMap as map
use Rattle.hosted_memories.specs.Hosted.{HostedTablets}
use Rattle.hosted_memories.proofs.RowLemmas.{length-map}
use Rattle.hosted_memories.proofs.memories.HostedMemories.len.Goals as goal

pub returns : goal.returns
returns c = c.len.ensures.len ∙ length-map c.self.inside.tablets.entries c.len.ensures.ordered ∙ ap (λ (m : HostedTablets). length (map.entries m)) c.self.view_is
