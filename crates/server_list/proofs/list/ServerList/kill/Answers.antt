use Rattle.std.proofs.Common.{◌+◌, false, map, sym, ◌∙◌, ap, subst, Some, true≢false}
use Rattle.std.specs.Option.{option_map_or}
use Rattle.server_list.specs.declared.list.Standing.{Standing}
use Rattle.server_list.specs.Servers.{killed, is_live, server_named}
use Rattle.server_list.specs.Value.{entry_of}
use Rattle.indexmap.specs.IndexMap.{set_value_at}
use Rattle.server_list.proofs.ListLemmas.{PlaceTells, FoundAt, place_tells, same_standing}
use Rattle.server_list.proofs.list.ServerList.kill.Goals as goal

pub returns-in-Some : goal.returns-in-Some
returns-in-Some c =
    let name = c.args.name.now in
    let entries = c.self.inside.servers.entries in
    let found : FoundAt name entries c.in-Some.at = subst (PlaceTells name entries) (sym c.index_of.ensures ∙ c.in-Some.is) (place_tells name entries) in
    let same = same_standing entries c.in-Some.at found.session found.standing c.index_mut.result.now found.there c.index_mut.ensures.value in
    let at = c.self.inside.clock + 30 in
    ap (λ (s : Standing). record { list = map entry_of (set_value_at entries c.in-Some.at (record s { expires = Some at })); clock = c.self.inside.clock }) same
    ∙ ap (λ l. record { list = l; clock = c.self.inside.clock }) (found.expiring at) ∙ ap (killed name) c.self.view_is

pub returns-in_default : goal.returns-in_default
returns-in_default c =
    let name = c.args.name.now in
    let entries = c.self.inside.servers.entries in
    let none = subst (PlaceTells name entries) (sym c.index_of.ensures ∙ c.in_default.is) (place_tells name entries) in
    absurd (true≢false (sym c.requires ∙ ap (λ s. option_map_or is_live (server_named name s) false) (sym c.self.view_is) ∙ ap (λ o. option_map_or is_live o false) none))
