-- The servers of a cluster in order of start, live or killed, and its clock.
use Rattle.std.specs.Prelude.{◌+◌, ℕ, not, Bool, false, if◌then◌else◌, nat_le, List, [], ◌∷◌, ◌++◌, find, is_some, Option, Some, None}
use Rattle.std.specs.List.{list_any}
use Rattle.std.specs.Option.{option_map_or}
use Rattle.metadata_schema.specs.Bytes.{same}
use Rattle.server_list.specs.declared.entry.ServerEntry.{ServerEntry}

pub record Servers : Type 0 where
  -- in order of start
  pub list : List ServerEntry
  pub clock : ℕ

-- no server was started, and no tick has passed
abbrev pub at_opening : Servers
at_opening = record { list = []; clock = 0 }

-- ---- one server

abbrev pub is_named : List ℕ → ServerEntry → Bool
is_named name server = same name server.name

abbrev pub is_of_session : List ℕ → ServerEntry → Bool
is_of_session session server = same session server.session

-- a killed server has an expiry, a live one none
abbrev pub is_live : ServerEntry → Bool
is_live server = not (is_some server.expires)

-- it was killed, and its expiry has come
abbrev pub has_expired : ℕ → ServerEntry → Bool
has_expired clock server = option_map_or (λ at. nat_le at clock) server.expires false

-- ---- all of them

-- a server of this name is in the list
abbrev pub is_listed : List ℕ → Servers → Bool
is_listed name servers = list_any (is_named name) servers.list

-- the server of this name, if it is in the list
abbrev pub server_named : List ℕ → Servers → Option ServerEntry
server_named name servers = find (is_named name) servers.list

-- the server of this session, if it is in the list
abbrev pub server_of : List ℕ → Servers → Option ServerEntry
server_of session servers = find (is_of_session session) servers.list

-- ---- what becomes of them

-- a live server of this name and session comes last
abbrev pub started : List ℕ → List ℕ → Servers → Servers
started name session servers = record servers { list = servers.list ++ record { name = name; session = session; expires = None } ∷ [] }

-- so many ticks after it was killed a server has expired
abbrev pub ticks_to_expiry : ℕ
ticks_to_expiry = 30

-- the server of this name gets this expiry; of several with one name the first counts
abbrev pub with_expiry : List ℕ → ℕ → List ServerEntry → List ServerEntry
with_expiry name at [] = []
with_expiry name at (server ∷ more) = if is_named name server then record server { expires = Some at } ∷ more else server ∷ with_expiry name at more

-- the servers without that of this name
abbrev pub without : List ℕ → List ServerEntry → List ServerEntry
without name [] = []
without name (server ∷ more) = if is_named name server then more else server ∷ without name more

-- the server of this name is killed at the clock's value
abbrev pub killed : List ℕ → Servers → Servers
killed name servers = record servers { list = with_expiry name (servers.clock + ticks_to_expiry) servers.list }

-- the server of this name is out of the list
abbrev pub ended : List ℕ → Servers → Servers
ended name servers = record servers { list = without name servers.list }

-- the clock goes on by so many ticks
abbrev pub ticked : ℕ → Servers → Servers
ticked ticks servers = record servers { clock = servers.clock + ticks }
