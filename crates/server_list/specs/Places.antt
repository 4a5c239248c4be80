-- Where a tablet is, by its record and the servers.
use Rattle.std.specs.Prelude.{ℕ, if◌then◌else◌, nat_le, List, Option, Some, None}
use Rattle.metadata_schema.specs.declared.tablet.Holder.{Holder}
use Rattle.server_list.specs.declared.entry.ServerEntry.{ServerEntry}
use Rattle.server_list.specs.declared.entry.Place.{Place}
use Rattle.server_list.specs.declared.entry.Place.TheVariants.{Live, Unreachable, Unhosted}
use Rattle.server_list.specs.Servers.{Servers, server_of}

-- a killed server is unreachable until it has expired
abbrev pub place_until : ℕ → List ℕ → Option ℕ → Place
place_until clock name None = Live name
place_until clock name (Some at) = if nat_le at clock then Unhosted else Unreachable name at

-- on this server of the list, if it is there
abbrev pub place_on : ℕ → Option ServerEntry → Place
place_on clock None = Unhosted
place_on clock (Some server) = place_until clock server.name server.expires

-- where a session's tablets are
abbrev pub place_of_session : List ℕ → Servers → Place
place_of_session session servers = place_on servers.clock (server_of session servers)

-- where the tablet of a `loc` is
abbrev pub place_of : Option Holder → Servers → Place
place_of None servers = Unhosted
place_of (Some holder) servers = place_of_session holder.session servers
