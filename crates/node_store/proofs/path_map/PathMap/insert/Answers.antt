use Rattle.std.proofs.Common.{◌∙◌, ap}
use Rattle.std.specs.FinMap as map
use Rattle.std.proofs.lemmas.Map.Views.{All-keys-insert_entry}
use Rattle.row_keys.specs.Forms.{IsPath}
use Rattle.node_store.specs.PathsTo.{path_cmp}
use Rattle.node_store.proofs.PathMaps.{updated-insert}
use Rattle.node_store.proofs.path_map.PathMap.insert.Goals as goal

pub returns-clause-ok : goal.returns-clause-ok
returns-clause-ok g c = updated-insert c.self.inside.entries.entries c.insert.new.self.entries c.args.path c.args.value (c.in_ok-insert.ensures.updates.0) ∙ ap (λ m. map.insert m c.args.path c.args.value) c.self.view_is

pub invariant_of-self-2 : goal.invariant_of-self-2
invariant_of-self-2 g c = rw c.in_ok-insert.ensures.entries (All-keys-insert_entry path_cmp c.args.path c.args.value IsPath _ c.self.invariant c.requires)
