use Rattle.std.proofs.Common.{◌≡◌, ◌∙◌, Some, sym, ap, subst}
use Rattle.std.specs.FinMap as map
use Rattle.node_store.specs.PathsTo.{path_cmp}
use Rattle.node_store.proofs.PathMaps.{lookup-map, updated-insert}
use Rattle.level_index.specs.Entries.{LevelMap, IsLevelMap, StandsAt}
use Rattle.level_index.specs.Value.{with_row}
use Rattle.level_index.proofs.MapLemmas.{own_with, own_found, on_err}
use Rattle.level_index.proofs.index.LevelIndex.put.Goals as goal

pub returns-in_err-insert-clause-absent : goal.returns-in_err-insert-clause-absent
returns-in_err-insert-clause-absent c =
    on_err c.from_residual.result _ (sym (lookup-map c.args.row c.self.inside.entries.entries ∙ ap (λ (m : LevelMap). map.get m.entries c.args.row) c.self.view_is) ∙ c.in_err-insert.ensures.absent)

pub invariant_of-self-2 : goal.invariant_of-self-2
invariant_of-self-2 c =
    let made = updated-insert c.self.inside.entries.entries c.insert.new.self.entries c.args.row c.args.entry (c.in_ok-insert.ensures.updates.0) in
    let stands = subst (λ (m : LevelMap). StandsAt m.kind c.args.row c.args.entry) (sym c.self.view_is) c.requires in
    subst (IsLevelMap c.self.inside.kind) (sym made) (own_with c.self.inside.kind (map.from_entries {R = path_cmp} c.self.inside.entries.entries) c.self.invariant c.args.row (Some c.args.entry) stands)

pub returns-clause-ok : goal.returns-clause-ok
returns-clause-ok c =
    let made = updated-insert c.self.inside.entries.entries c.insert.new.self.entries c.args.row c.args.entry (c.in_ok-insert.ensures.updates.0) in
    let whole : ◌≡◌ {A = LevelMap} (record { kind = c.self.inside.kind; entries = map.from_entries c.insert.new.self.entries }) (with_row (record { kind = c.self.inside.kind; entries = map.from_entries c.self.inside.entries.entries }) c.args.row (Some c.args.entry)) =
    λ i. record { kind = c.self.inside.kind; entries = made i } in
    whole ∙ ap (λ (m : LevelMap). with_row m c.args.row (Some c.args.entry)) c.self.view_is

pub returns-clause-was : goal.returns-clause-was
returns-clause-was c = c.in_ok-insert.ensures.old ∙ lookup-map c.args.row c.self.inside.entries.entries ∙ ap (λ (m : LevelMap). map.get m.entries c.args.row) c.self.view_is

pub returns-clause-own : goal.returns-clause-own
returns-clause-own c =
    own_found c.args.self.now.kind c.args.self.now.entries (subst (λ (m : LevelMap). IsLevelMap m.kind m.entries) c.self.view_is c.self.invariant) c.args.row c.in_ok-insert.field-0 (returns-clause-was c)
