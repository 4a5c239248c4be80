use Rattle.std.proofs.Common.{is_some, ◌∙◌, ap}
use Rattle.server_list.specs.Servers.{server_of}
use Rattle.server_list.proofs.ListLemmas.{listed_session}
use Rattle.server_list.proofs.list.ServerList.has_session.Goals as goal

pub returns : goal.returns
returns c =
    let session = c.args.session.now in
    c.contains_key.ensures ∙ listed_session session c.self.inside.servers.entries ∙ ap (λ s. is_some (server_of session s)) c.self.view_is
