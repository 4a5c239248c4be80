-- What a write into a hosted tablet makes of the memories.
use Rattle.std.specs.Prelude.{ℕ, List, unwrap_or}
use Rattle.metadata_schema.specs.declared.mutation.Mutation.{Mutation}
use Rattle.tablet_mem.specs.Memory.{Memory, started, put, next_time}
use Rattle.hosted_memories.specs.Hosted.{HostedTablets, memories_of, with_memory}
use Rattle.hosted_writes.specs.declared.row_updates.RowUpdates.{RowUpdates}

-- the mutation that the updates are at this time
abbrev pub timed : RowUpdates → ℕ → Mutation
timed write time = record { table = write.table; row = write.row; time = time; updates = write.updates }

-- the mutation that they are at the next time of a memory
abbrev pub next_mutation : Memory → RowUpdates → Mutation
next_mutation memory write = timed write (next_time memory)

-- no cells, and no time yet
abbrev pub nothing : Memory
nothing = started 0 0

-- the memory of the tablet of this row, which is hosted
abbrev pub memory_at : HostedTablets → List ℕ → Memory
memory_at hosted tablet = unwrap_or (memories_of hosted tablet) nothing

-- its next time
abbrev pub time_at : HostedTablets → List ℕ → ℕ
time_at hosted tablet = next_time (memory_at hosted tablet)

-- the mutation that the updates are at that time
abbrev pub mutation_at : HostedTablets → List ℕ → RowUpdates → Mutation
mutation_at hosted tablet write = next_mutation (memory_at hosted tablet) write

-- that memory with this mutation put, and every other one as it was
abbrev pub with_put : HostedTablets → List ℕ → Mutation → HostedTablets
with_put hosted tablet mutation = with_memory hosted tablet (put (memory_at hosted tablet) mutation)
