use Rattle.std.proofs.Common.{◌∙◌, ap}
use Rattle.std.specs.FinMap as map
use Rattle.node_store.proofs.PathMaps.{updated-remove}
use Rattle.ground_store.proofs.log_map.LogMap.remove.Goals as goal

pub returns : goal.returns
returns c = updated-remove c.self.inside.logs.entries c.remove.new.self.entries c.args.name.now (c.remove.ensures.updates.0) ∙ ap (λ m. map.remove m c.args.name.now) c.self.view_is
