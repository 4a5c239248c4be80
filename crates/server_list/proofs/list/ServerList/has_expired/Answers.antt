use Rattle.std.proofs.Common.{false, sym, ◌∙◌, ap, subst}
use Rattle.std.specs.Option.{option_map_or}
use Rattle.server_list.specs.declared.list.Standing.{Standing}
use Rattle.server_list.specs.Servers.{Servers, has_expired, server_named}
use Rattle.server_list.specs.Value.{entry_of}
use Rattle.server_list.proofs.ListLemmas.{PlaceTells, FoundAt, place_tells, same_standing}
use Rattle.server_list.proofs.list.ServerList.has_expired.Goals as goal

pub returns-in-Some : goal.returns-in-Some
returns-in-Some c =
    let name = c.args.name.now in
    let clock = c.self.inside.clock in
    let entries = c.self.inside.servers.entries in
    let found : FoundAt name entries c.in-Some.at = subst (PlaceTells name entries) (sym c.index_of.ensures ∙ c.in-Some.is) (place_tells name entries) in
    let same = same_standing entries c.in-Some.at found.session found.standing c.index.result.now found.there c.index.ensures in
    c.is_past.ensures ∙ ap (λ (s : Standing). has_expired clock (entry_of (found.session, s))) same
    ∙ sym (ap (λ o. option_map_or (has_expired clock) o false) found.found) ∙ ap (λ (s : Servers). option_map_or (has_expired s.clock) (server_named name s) false) c.self.view_is

pub returns-in-None : goal.returns-in-None
returns-in-None c =
    let name = c.args.name.now in
    let entries = c.self.inside.servers.entries in
    sym (ap (λ o. option_map_or (has_expired c.self.inside.clock) o false) (subst (PlaceTells name entries) (sym c.index_of.ensures ∙ c.in-None.is) (place_tells name entries)))
    ∙ ap (λ (s : Servers). option_map_or (has_expired s.clock) (server_named name s) false) c.self.view_is
