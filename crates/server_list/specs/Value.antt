-- How a list of servers is kept.
use Rattle.std.specs.Prelude.{ℕ, List, refl}
use Rattle.std.specs.Coded.{Coded, code_by, coded×, coded_list, coded_ℕ}
use Rattle.server_list.specs.declared.entry.ServerEntry.{ServerEntry}
use Rattle.server_list.specs.declared.list.Standing.{Standing}
use Rattle.server_list.specs.Servers.{Servers}

-- the server of this session
abbrev pub entry_of : List ℕ × Standing → ServerEntry
entry_of at = record { name = at.1.name; session = at.0; expires = at.1.expires }

-- how it is stored
abbrev pub servers_code : Coded ServerEntry → Coded Servers
servers_code server = code_by (List ServerEntry × ℕ) (coded× (coded_list server) coded_ℕ) (λ s. (s.list, s.clock)) (λ p. record { list = p.0; clock = p.1 }) (λ _. refl)
