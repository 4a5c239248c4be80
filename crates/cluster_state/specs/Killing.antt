-- How a server is killed.
use Rattle.std.specs.Prelude.{◌≡◌, ℕ, List, Some}
use Rattle.std.specs.FinMap as map
use Rattle.server_list.specs.declared.entry.ServerEntry.{ServerEntry}
use Rattle.server_list.specs.Servers.{server_named, killed}
use Rattle.hosted_memories.specs.Hosted.{of_others}
use Rattle.cluster_state.specs.Value.{ClusterValue}

-- It is in the list still, with its expiry; the tablets that it hosted are hosted no longer, and all else is as it was.
pub record KillsServer {H : Type 0} (name : List ℕ) (old new : ClusterValue H) : Type 0 where
  pub server : ServerEntry
  pub named : server_named name old.servers ≡ Some server
  pub hosted : (row : List ℕ) → map.get new.hosted row ≡ of_others server.session (map.get old.hosted row)
  pub rest : new ≡ record old { servers = killed name old.servers; hosted = new.hosted }
