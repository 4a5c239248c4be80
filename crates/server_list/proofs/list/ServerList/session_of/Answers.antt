use Rattle.std.proofs.Common.{ℕ, List, sym, ◌∙◌, ap, subst}
use Rattle.std.specs.Option.{option_map}
use Rattle.server_list.specs.declared.entry.ServerEntry.{ServerEntry}
use Rattle.server_list.specs.declared.list.Standing.{Standing}
use Rattle.server_list.specs.Servers.{server_named}
use Rattle.server_list.proofs.ListLemmas.{PlaceTells, FoundAt, place_tells}
use Rattle.server_list.proofs.list.ServerList.session_of.Goals as goal

pub returns-in-Some-get_index : goal.returns-in-Some-get_index
returns-in-Some-get_index c =
    let name = c.args.name.now in
    let entries = c.self.inside.servers.entries in
    let found : FoundAt name entries c.in-Some.at = subst (PlaceTells name entries) (sym c.index_of.ensures ∙ c.in-Some.is) (place_tells name entries) in
    ap (option_map (λ (e : List ℕ × Standing). e.0)) (c.in-Some-get_index.ensures.entry ∙ found.there) ∙ sym (ap (option_map (λ (s : ServerEntry). s.session)) found.found)
    ∙ ap (λ s. option_map (λ (e : ServerEntry). e.session) (server_named name s)) c.self.view_is

pub returns-in-None : goal.returns-in-None
returns-in-None c =
    let name = c.args.name.now in
    let entries = c.self.inside.servers.entries in
    sym (ap (option_map (λ (s : ServerEntry). s.session)) (subst (PlaceTells name entries) (sym c.index_of.ensures ∙ c.in-None.is) (place_tells name entries)))
    ∙ ap (λ s. option_map (λ (e : ServerEntry). e.session) (server_named name s)) c.self.view_is
