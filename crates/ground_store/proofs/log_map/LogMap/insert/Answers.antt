use Rattle.std.proofs.Common.{◌∙◌, ap}
use Rattle.std.specs.FinMap as map
use Rattle.node_store.proofs.PathMaps.{updated-insert}
use Rattle.ground_store.proofs.log_map.LogMap.insert.Goals as goal

pub returns-clause-ok : goal.returns-clause-ok
returns-clause-ok c = updated-insert c.self.inside.logs.entries c.insert.new.self.entries c.args.name c.args.log (c.in_ok-insert.ensures.updates.0) ∙ ap (λ m. map.insert m c.args.name c.args.log) c.self.view_is
