use Rattle.std.proofs.Common.{◌∙◌, ap}
use Rattle.std.specs.Option.{is_some}
use Rattle.std.specs.FinMap as map
use Rattle.node_store.proofs.PathMaps.{lookup-map}
use Rattle.table_store.proofs.index.TableIndex.contains.Goals as goal

pub returns : goal.returns
returns c = c.contains_key.ensures ∙ ap is_some (lookup-map c.args.name.now c.self.inside.entries.entries) ∙ ap (λ m. map.contains_key m c.args.name.now) c.self.view_is
