use Rattle.std.proofs.Common.{◌∙◌, ap}
use Rattle.std.specs.FinMap as map
use Rattle.node_store.proofs.PathMaps.{updated-insert}
use Rattle.table_store.proofs.index.TableIndex.insert.Goals as goal

pub returns-clause-ok : goal.returns-clause-ok
returns-clause-ok c = updated-insert c.self.inside.entries.entries c.insert.new.self.entries c.args.name c.args.id (c.in_ok-insert.ensures.updates.0) ∙ ap (λ m. map.insert m c.args.name c.args.id) c.self.view_is
