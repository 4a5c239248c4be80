use Rattle.std.proofs.Common.{◌∙◌, ap, subst}
use Rattle.std.specs.FinMap as map
use Rattle.node_store.proofs.PathMaps.{lookup-map}
use Rattle.level_index.specs.Entries.{LevelMap, IsLevelMap}
use Rattle.level_index.proofs.index.LevelIndex.get.Goals as goal

pub returns-clause-value : goal.returns-clause-value
returns-clause-value c = c.get.ensures.value ∙ lookup-map c.args.row.now c.self.inside.entries.entries ∙ ap (λ (m : LevelMap). map.get m.entries c.args.row.now) c.self.view_is

pub returns-clause-own : goal.returns-clause-own
returns-clause-own c = subst (λ (m : LevelMap). IsLevelMap m.kind m.entries) c.self.view_is c.self.invariant
