use Rattle.std.proofs.Common.{◌∙◌, ap}
use Rattle.server_list.specs.Servers.{started, server_of}
use Rattle.server_list.proofs.ListLemmas.{new_entry}
use Rattle.server_list.proofs.list.ServerList.start.Goals as goal

pub returns-clause-ok : goal.returns-clause-ok
returns-clause-ok c =
    let entries = c.self.inside.servers.entries in
    let none = ap (server_of c.args.session) c.self.view_is ∙ c.requires.new_session in
    ap (λ l. record { list = l; clock = c.self.inside.clock }) (new_entry c.self.inside.servers c.args.session c.args.name c.insert.new.self.entries none c.in_ok-insert.ensures.entries)
    ∙ ap (started c.args.name c.args.session) c.self.view_is
