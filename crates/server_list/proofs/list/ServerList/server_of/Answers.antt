use Rattle.std.proofs.Common.{Some, sym, ◌∙◌, ap}
use Rattle.server_list.specs.Servers.{server_of}
use Rattle.server_list.proofs.ListLemmas.{none_of_session, of_session}
use Rattle.server_list.proofs.list.ServerList.server_of.Goals as goal

pub returns-in_ok-entry_of-in-Some : goal.returns-in_ok-entry_of-in-Some
returns-in_ok-entry_of-in-Some c =
    let session = c.args.session.now in
    let found = of_session session c.self.inside.servers.entries c.in-Some.session.now c.in-Some.standing.now (sym c.in-Some.ensures.key) (sym c.in-Some.ensures.value) in
    ap Some c.in_ok-entry_of-in-Some.ensures ∙ sym found ∙ ap (server_of session) c.self.view_is

pub returns-in-None : goal.returns-in-None
returns-in-None c =
    let session = c.args.session.now in
    sym (none_of_session session c.self.inside.servers.entries (sym c.in-None.ensures.value)) ∙ ap (server_of session) c.self.view_is
