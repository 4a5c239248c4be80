-- What contracts see of a cluster.
use Rattle.std.specs.Prelude.{Option, refl}
use Rattle.std.specs.Coded.{Coded, code_by, coded×, coded_option}
use Rattle.entry_book.specs.Book.{Book}
use Rattle.entry_book.specs.Codes.{book_code}
use Rattle.ground_store.specs.Value.{GroundValue}
use Rattle.ground_store.specs.Codes.{ground_code}
use Rattle.server_list.specs.Servers.{Servers}
use Rattle.hosted_memories.specs.Hosted.{HostedTablets}
use Rattle.level_index.specs.Entries.{LevelMap}

pub record ClusterValue (H : Type 0) : Type 0 where
  -- the ground: the host, the nodes and the logs
  pub base : GroundValue H
  -- the servers in order of start, and the clock
  pub servers : Servers
  -- the history, and the entry that is offered
  pub book : Book
  -- the tablets on live servers, by their metadata rows
  pub hosted : HostedTablets
  -- the records of `!0`, and those of user tables, once they have been read
  pub metadata : Option LevelMap
  pub users : Option LevelMap

-- how it is stored
abbrev pub cluster_code : {H : Type 0} → Coded H → Coded Servers → Coded HostedTablets → Coded LevelMap → Coded (ClusterValue H)
cluster_code {H} host servers hosted level =
    code_by (GroundValue H × (Servers × (Book × (HostedTablets × (Option LevelMap × Option LevelMap)))))
    (coded× (ground_code host) (coded× servers (coded× book_code (coded× hosted (coded× (coded_option level) (coded_option level))))))
    (λ c. (c.base, (c.servers, (c.book, (c.hosted, (c.metadata, c.users))))))
    (λ p. record { base = p.0; servers = p.1.0; book = p.1.1.0; hosted = p.1.1.1.0; metadata = p.1.1.1.1.0; users = p.1.1.1.1.1 }) (λ _. refl)
