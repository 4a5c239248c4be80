use Rattle.std.proofs.Common.{sym, ◌∙◌, ap}
use Rattle.server_list.specs.Places.{place_of, place_of_session, place_until}
use Rattle.server_list.proofs.ListLemmas.{placed, place_in}
use Rattle.server_list.proofs.list.ServerList.place.Goals as goal

pub returns-in_default-get : goal.returns-in_default-get
returns-in_default-get c =
    let session = c.in-Some.holder.session in
    ap (place_in c.self.inside.clock) (c.in_default-get.ensures.value) ∙ sym (placed session c.self.inside.clock c.self.inside.servers.entries)
    ∙ ap (place_of_session session) c.self.view_is ∙ ap (λ loc. place_of loc c.args.self.now) (sym c.in-Some.is)

pub returns : goal.returns
returns c =
    let session = c.in-Some.holder.session in
    let clock = c.self.inside.clock in
    let standing = c.in-Some-get.standing.now in
    c.place_until.ensures ∙ ap (λ name. place_until clock name standing.expires) c.in_ok-name.ensures.ok
    ∙ ap (place_in clock) c.in-Some-get.ensures.value ∙ sym (placed session clock c.self.inside.servers.entries)
    ∙ ap (place_of_session session) c.self.view_is ∙ ap (λ loc. place_of loc c.args.self.now) (sym c.in-Some.is)
