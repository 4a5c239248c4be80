use Rattle.std.proofs.Common.{◌∙◌, ap, is_some}
use Rattle.server_list.specs.Servers.{is_listed}
use Rattle.server_list.proofs.ListLemmas.{listed}
use Rattle.server_list.proofs.list.ServerList.is_listed.Goals as goal

pub returns : goal.returns
returns c =
    c.is_some.ensures ∙ ap is_some c.index_of.ensures ∙ listed c.args.name.now c.self.inside.servers.entries
    ∙ ap (is_listed c.args.name.now) c.self.view_is
