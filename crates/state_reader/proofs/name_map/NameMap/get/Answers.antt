use Rattle.std.proofs.Common.{◌∙◌, ap}
use Rattle.std.specs.FinMap as map
use Rattle.node_store.proofs.PathMaps.{lookup-map}
use Rattle.state_reader.proofs.name_map.NameMap.get.Goals as goal

pub returns : goal.returns
returns g c = c.get.ensures.value ∙ lookup-map c.args.name.now c.self.inside.entries.entries ∙ ap (λ m. map.get m c.args.name.now) c.self.view_is
