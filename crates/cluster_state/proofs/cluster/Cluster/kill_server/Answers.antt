use Rattle.std.proofs.Common.{◌≡◌, ℕ, List, true, false, None, sym, ◌∙◌, ap, subst}
use Rattle.std.specs.Prelude.{MatchOption}
use Rattle.std.specs.FinMap as map
use Rattle.std.specs.Option.{option_map, option_map_or}
use Rattle.server_list.specs.declared.entry.ServerEntry.{ServerEntry}
use Rattle.server_list.specs.Servers.{is_live, server_named}
use Rattle.hosted_memories.specs.Hosted.{of_others}
use Rattle.cluster_state.specs.Value.{ClusterValue}
use Rattle.cluster_state.specs.Served.{IsCluster}
use Rattle.cluster_state.specs.Station.{StaysStation}
use Rattle.cluster_state.specs.Killing.{KillsServer}
use Rattle.cluster_state.proofs.Going.{live_there, killed_cluster}
use Rattle.cluster_state.proofs.Stations.{killed_station}
use Rattle.cluster_state.proofs.cluster.Cluster.kill_server.Goals as goal

pub invariant_of-self : goal.invariant_of-self
invariant_of-self g c = λ runs. subst (IsCluster c.self.inside.base) (sym c.kill.ensures) (killed_cluster c.self.inside.base c.args.name.now c.self.inside.servers (c.self.invariant runs))

pub returns-clause-station : goal.returns-clause-station
returns-clause-station g c =
    let in_it = c.self.inside in
    let old : ClusterValue g.row.H.Denot = record { base = in_it.base; servers = in_it.servers; book = in_it.book; hosted = in_it.hosted; metadata = in_it.metadata; users = in_it.users } in
    let new : ClusterValue g.row.H.Denot = record old { servers = c.kill.new.self; hosted = c.drop_hosted.new.hosted } in
    let name = c.args.name.now in
    subst (λ o. option_map_or is_live (server_named name o.servers) false ≡ true → StaysStation g.H.Host.state None o new) c.self.view_is
    (λ live reading catalog known plain is.
    let there = live_there (server_named name old.servers) live in
    let dropped = subst (λ o. MatchOption o (c.drop_hosted.new.hosted ≡ in_it.hosted) (λ dead. (row : List ℕ) → map.get c.drop_hosted.new.hosted row ≡ of_others dead (map.get in_it.hosted row)))
    (c.session_of.ensures ∙ ap (option_map (λ (s : ServerEntry). s.session)) there.is) c.drop_hosted.ensures in
    let kills : KillsServer name old new = record { server = there.server; named = there.is; hosted = dropped; rest = ap (λ s. record old { servers = s; hosted = c.drop_hosted.new.hosted }) c.kill.ensures } in
    killed_station g.H.Host.state reading catalog known plain name old new kills (c.self.invariant is.runs).apart is)
    c.requires
