use Rattle.std.proofs.Common.{◌∙◌, Some, sym, ap}
use Rattle.std.specs.FinMap as map
use Rattle.std.specs.Option.{option_map}
use Rattle.node_store.proofs.PathMaps.{updated-insert}
use Rattle.hosted_memories.specs.declared.hosting.Hosting.{Hosting}
use Rattle.hosted_memories.specs.Hosted.{with_memory_of}
use Rattle.hosted_memories.proofs.RowLemmas.{found_at, some_there}
use Rattle.hosted_memories.proofs.memories.HostedMemories.exchange.Goals as goal

pub returns-in_default-clause-absent : goal.returns-in_default-clause-absent
returns-in_default-clause-absent c = sym (c.in_default.ensures.value ∙ found_at c.args.row.now c.self.inside.tablets.entries c.args.self.now c.self.view_is)

pub returns-clause-was : goal.returns-clause-was
returns-clause-was c =
    let found = c.in-Some.ensures.value ∙ found_at c.args.row.now c.self.inside.tablets.entries c.args.self.now c.self.view_is in
    sym (ap (option_map (λ (h : Hosting). h.memory)) found) ∙ ap Some (sym c.replace.ensures.value)

pub returns-clause-ok : goal.returns-clause-ok
returns-clause-ok c =
    let was = c.in-Some.hosting.now in
    let now : Hosting = record { session = was.session; memory = c.replace.new.dest } in
    let found = c.in-Some.ensures.value ∙ found_at c.args.row.now c.self.inside.tablets.entries c.args.self.now c.self.view_is in
    updated-insert c.self.inside.tablets.entries (c.get_mut.follows.lender now).entries c.args.row.now now ((c.get_mut.follows.holds now).3 (some_there c.in-Some.ensures.value)).0
    ∙ (λ i. map.insert (c.self.view_is i) c.args.row.now (record { session = was.session; memory = c.replace.ensures.after i }))
    ∙ ap (with_memory_of c.args.self.now c.args.row.now c.args.memory) found
