use Rattle.std.proofs.Common.{◌∙◌, sym}
use Rattle.hosted_memories.proofs.RowLemmas.{none_there}
use Rattle.hosted_memories.proofs.memories.HostedMemories.is_empty.Goals as goal

pub returns : goal.returns
returns c =
    let none = none_there c.self.inside.tablets.entries in
    (λ is. sym c.self.view_is ∙ none.0 (c.is_empty.ensures.0 is), λ is. c.is_empty.ensures.1 (none.1 (c.self.view_is ∙ is)))
