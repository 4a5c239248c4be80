use Rattle.std.proofs.Common.{◌∙◌, ap}
use Rattle.std.specs.FinMap as map
use Rattle.node_store.proofs.PathMaps.{updated-insert}
use Rattle.state_reader.proofs.name_map.NameMap.insert.Goals as goal

pub returns-clause-ok : goal.returns-clause-ok
returns-clause-ok g c = updated-insert c.self.inside.entries.entries c.insert.new.self.entries c.args.name c.args.value (c.in_ok-insert.ensures.updates.0) ∙ ap (λ m. map.insert m c.args.name c.args.value) c.self.view_is
