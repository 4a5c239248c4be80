use Rattle.std.proofs.Common.{◌∙◌, ap}
use Rattle.std.specs.Option.{option_map}
use Rattle.hosted_memories.specs.declared.hosting.Hosting.{Hosting}
use Rattle.hosted_memories.proofs.RowLemmas.{found_at}
use Rattle.hosted_memories.proofs.memories.HostedMemories.session.Goals as goal

pub returns-in-Some : goal.returns-in-Some
returns-in-Some c = ap (option_map (λ (h : Hosting). h.session)) (c.in-Some.ensures.value ∙ found_at c.args.row.now c.self.inside.tablets.entries c.args.self.now c.self.view_is)

pub returns-in-None : goal.returns-in-None
returns-in-None c = ap (option_map (λ (h : Hosting). h.session)) (c.in-None.ensures.value ∙ found_at c.args.row.now c.self.inside.tablets.entries c.args.self.now c.self.view_is)
