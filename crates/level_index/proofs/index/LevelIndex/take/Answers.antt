use Rattle.std.proofs.Common.{◌≡◌, ◌∙◌, None, sym, ap, subst}
use Rattle.std.specs.FinMap as map
use Rattle.node_store.specs.PathsTo.{path_cmp}
use Rattle.node_store.proofs.PathMaps.{updated-remove}
use Rattle.level_index.specs.Entries.{LevelMap, IsLevelMap}
use Rattle.level_index.specs.Value.{with_row}
use Rattle.level_index.proofs.MapLemmas.{own_with}
use Rattle.level_index.proofs.index.LevelIndex.take.Goals as goal

pub invariant_of-self : goal.invariant_of-self
invariant_of-self c =
    let made = updated-remove c.self.inside.entries.entries c.remove.new.self.entries c.args.row.now (c.remove.ensures.updates.0) in
    subst (IsLevelMap c.self.inside.kind) (sym made) (own_with c.self.inside.kind (map.from_entries {R = path_cmp} c.self.inside.entries.entries) c.self.invariant c.args.row.now None tt)

pub returns : goal.returns
returns c =
    let made = updated-remove c.self.inside.entries.entries c.remove.new.self.entries c.args.row.now (c.remove.ensures.updates.0) in
    let whole : ◌≡◌ {A = LevelMap} (record { kind = c.self.inside.kind; entries = map.from_entries c.remove.new.self.entries }) (with_row (record { kind = c.self.inside.kind; entries = map.from_entries c.self.inside.entries.entries }) c.args.row.now None) =
    λ i. record { kind = c.self.inside.kind; entries = made i } in
    whole ∙ ap (λ (m : LevelMap). with_row m c.args.row.now None) c.self.view_is
