use Rattle.std.proofs.Common.{◌≡◌, false, sym, ◌∙◌, ap, subst, map, true≢false}
use Rattle.std.specs.Option.{option_map_or}
use Rattle.server_list.specs.Servers.{Servers, ended, has_expired, server_named}
use Rattle.server_list.specs.Value.{entry_of}
use Rattle.server_list.proofs.ListLemmas.{PlaceTells, FoundAt, place_tells}
use Rattle.server_list.proofs.list.ServerList.end.Goals as goal
use Rattle.server_list.proofs.list.ServerList.end.Goals.{in-Some-1, in-None-1}

pub returns-in-Some : goal.returns-in-Some
returns-in-Some c =
    let name = c.args.name.now in
    let entries = c.self.inside.servers.entries in
    let found : FoundAt name entries c.in-Some.at = subst (PlaceTells name entries) (sym c.index_of.ensures ∙ c.in-Some.is) (place_tells name entries) in
    let now : _ ≡ ended name c.args.self.now = ap (λ l. record { list = l; clock = c.self.inside.clock }) (ap (map entry_of) c.shift_remove_index.ensures.entries ∙ found.removing) ∙ ap (ended name) c.self.view_is in
    elim c.match-shift_remove_index.branch [ in-Some-1 w ↦ w.self-is ∙ now | in-None-1 w ↦ w.self-is ∙ now ]

pub returns-in_default : goal.returns-in_default
returns-in_default c =
    let name = c.args.name.now in
    let entries = c.self.inside.servers.entries in
    let none = subst (PlaceTells name entries) (sym c.index_of.ensures ∙ c.in_default.is) (place_tells name entries) in
    absurd (true≢false (sym c.requires ∙ ap (λ (s : Servers). option_map_or (has_expired s.clock) (server_named name s) false) (sym c.self.view_is) ∙ ap (λ o. option_map_or (has_expired c.self.inside.clock) o false) none))
