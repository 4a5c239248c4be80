-- What single actions make of the files.
use Rattle.std.specs.Prelude.{◌≡◌, ◌⊎◌, ℕ, List, Option, Some, None, Result, Ok, Err}
use Rattle.host_model.specs.Picture.{Image, ChangesFile, OnBytes, Becomes, MayBecome}
use Rattle.journal_core.specs.Changes.{MayGain, Gains}
use Rattle.metadata_schema.specs.declared.mutation.Mutation.{Mutation}
use Rattle.log_files.specs.Sorted.{BecomesSortOf}
use Rattle.node_store.specs.declared.changes.NodeOp.{NodeOp}
use Rattle.node_store.specs.declared.changes.NodeStop.{NodeStop}
use Rattle.node_store.specs.Value.{StoreValue}
use Rattle.node_store.specs.Steps.{Gives}

-- nothing changes
abbrev pub Stays : Image → Image → Type 0
Stays old new = new ≡ old

-- anything may be in the file
abbrev pub Anything : Option (List ℕ) → Option (List ℕ) → Type 0
Anything old new = Unit {0}

-- this file alone changes, and anything may be in it
abbrev pub MayWrite : List ℕ → Image → Image → Type 0
MayWrite name = ChangesFile name Anything

-- this file alone changes, and has these bytes
abbrev pub Writes : List ℕ → List ℕ → Image → Image → Type 0
Writes name bytes = ChangesFile name (Becomes (Some bytes))

-- this file alone goes, or nothing does
abbrev pub MayTake : List ℕ → Image → Image → Type 0
MayTake name = ChangesFile name (MayBecome None)

abbrev pub Takes : List ℕ → Image → Image → Type 0
Takes name = ChangesFile name (Becomes None)

-- this file alone changes, and is the sorted log of these mutations, sorted
abbrev pub WritesSort : List ℕ → List Mutation → Image → Image → Type 0
WritesSort name mutations = ChangesFile name (BecomesSortOf mutations)

-- the file stays, or is appended to and keeps its records, or has this one more
abbrev pub MayHaveOne : ℕ → List ℕ → Option (List ℕ) → Option (List ℕ) → Type 0
MayHaveOne end payload old new = (new ≡ old) ⊎ OnBytes (MayGain end payload) old new

-- this log alone changes: it keeps its records, or has this one more
abbrev pub MayAppend : List ℕ → ℕ → List ℕ → Image → Image → Type 0
MayAppend log end payload = ChangesFile log (MayHaveOne end payload)

-- it has this record more
abbrev pub Appends : List ℕ → ℕ → List ℕ → Image → Image → Type 0
Appends log end payload = ChangesFile log (OnBytes (Gains end payload))

-- the changes are made, or refused and nothing changes
abbrev pub Gave : {T : Type 0} → List NodeOp → StoreValue → Result T NodeStop → Image → Image → Type 0
Gave ops store (Ok done) old new = Gives ops store old new
Gave ops store (Err stop) old new = Stays old new
