use Rattle.std.proofs.Common.{◌∙◌, ap}
use Rattle.std.specs.FinMap as map
use Rattle.std.specs.BTreeMap.{is_at}
use Rattle.std.proofs.lemmas.Map.Views.{All-map-remove_entry}
use Rattle.row_keys.specs.Forms.{IsPath}
use Rattle.node_store.specs.PathsTo.{path_cmp}
use Rattle.node_store.proofs.PathMaps.{updated-remove}
use Rattle.node_store.proofs.path_map.PathMap.remove.Goals as goal

pub returns : goal.returns
returns g c = updated-remove c.self.inside.entries.entries c.remove.new.self.entries c.args.path.now (c.remove.ensures.updates.0) ∙ ap (λ m. map.remove m c.args.path.now) c.self.view_is

pub invariant_of-self : goal.invariant_of-self
invariant_of-self g c = rw c.remove.ensures.entries (All-map-remove_entry (is_at (path_cmp c.args.path.now)) (λ e. e.0) IsPath _ c.self.invariant)
