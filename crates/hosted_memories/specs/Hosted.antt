-- Hosted tablets, by their metadata rows.
use Rattle.std.specs.Prelude.{ℕ, if◌then◌else◌, List, Option, Some, None}
use Rattle.std.specs.FinMap as map
use Rattle.std.specs.Option.{option_map}
use Rattle.std.specs.Coded.{Coded, coded_list, coded_ℕ}
use Rattle.metadata_schema.specs.Bytes.{same}
use Rattle.node_store.specs.PathsTo.{PathsTo}
use Rattle.tablet_mem.specs.Memory.{Memory}
use Rattle.hosted_memories.specs.declared.hosting.Hosting.{Hosting}

-- where each tablet is, and its memory
abbrev pub HostedTablets : Type 0
HostedTablets = PathsTo Hosting

-- how they are stored
abbrev pub hosted_code : Coded Hosting → Coded HostedTablets
hosted_code hosting = map.code (coded_list coded_ℕ) hosting

-- the memory of the tablet of a row
abbrev pub memories_of : HostedTablets → List ℕ → Option Memory
memories_of hosted row = option_map (λ hosting. hosting.memory) (map.get hosted row)

-- the session of its server
abbrev pub sessions_of : HostedTablets → List ℕ → Option (List ℕ)
sessions_of hosted row = option_map (λ hosting. hosting.session) (map.get hosted row)

-- the tablet where it was, with this memory; none where it wasn't hosted
abbrev pub with_memory_of : HostedTablets → List ℕ → Memory → Option Hosting → HostedTablets
with_memory_of hosted row memory None = hosted
with_memory_of hosted row memory (Some hosting) = map.insert hosted row (record hosting { memory = memory })

-- the tablet of this row has this memory
abbrev pub with_memory : HostedTablets → List ℕ → Memory → HostedTablets
with_memory hosted row memory = with_memory_of hosted row memory (map.get hosted row)

-- where it is on another server
abbrev pub of_others : List ℕ → Option Hosting → Option Hosting
of_others session None = None
of_others session (Some hosting) = if same hosting.session session then None else Some hosting
