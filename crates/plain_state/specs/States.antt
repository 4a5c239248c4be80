-- Tables and staged files that are put into a plain state.
use Rattle.std.specs.Prelude.{◌≡◌, ◌≢◌, ℕ, List, true}
use Rattle.std.specs.FinMap as map
use Rattle.plain_model.specs.State.{PlainState}
use Rattle.plain_model.specs.Apply.{has_name}
use Rattle.plain_model.specs.Laws.{AreNamedApart}
use Rattle.level_rows.specs.Chain.{Rows}
use Rattle.store_layout.specs.declared.tables.Mark.{Mark}
use Rattle.store_layout.specs.declared.tables.TableNode.{TableNode}
use Rattle.store_layout.specs.Tables.{Catalog}
use Rattle.store_meaning.specs.Ground.{Ground}
use Rattle.store_meaning.specs.Levels.{Reading}
use Rattle.store_meaning.specs.Stands.{TableAt, StagedAt, StandsAs}
use Rattle.plain_reader.specs.declared.fault.TableFault.{TableFault}
use Rattle.plain_reader.specs.declared.fault.TableFault.TheVariants.{NoMemory as NoRoom}
use Rattle.plain_reader.specs.Parts.{TableCause}
use Rattle.plain_state.specs.declared.fault.StateFault.{StateFault}
use Rattle.plain_state.specs.declared.fault.StateFault.TheVariants.{Unread, Root, Metadata, Lacks, LacksFlagged, LacksLog, Unlisted, UnlistedSorted, Unsorted, StrayTable, StrayFile, LacksMarked, Table, NameTaken, LacksStaged, NoMemory}
use Rattle.plain_state.specs.Catalogs.{HasByteBounds, table_of, path_of}

-- ---- tables and files one after another

-- the state has these tables where they are ONLINE, as the ground stands for them, and no others; no two have the same name, and no file is staged
pub record ArePut (known : Ground) (reading : Reading) (tables : List TableNode) (state : PlainState) : Type 0 where
  pub each : (id : List ℕ) → TableAt known (reading.users.records id) (table_of tables id) (map.get state.tables id)
  pub apart : AreNamedApart state
  pub staged : state.staged ≡ map.empty

-- the state has these files staged, as the ground stands for them, and no others; the tables are as before
pub record AreStagedIn (known : Ground) (files : List (List ℕ × List ℕ)) (old new : PlainState) : Type 0 where
  pub each : (name : List ℕ) → StagedAt known (path_of files name) (map.get new.staged name)
  pub tables : new.tables ≡ old.tables

-- ---- why a table isn't put

-- the table has no parts for this reason, which is no want of memory
pub record TableFails (known : Ground) (rows : Rows) (mark : Mark) (fault : TableFault) : Type 0 where
  pub why : TableCause known rows mark fault
  pub firm : fault ≢ NoRoom

-- why the table isn't put into the state; want of memory is free
abbrev pub PutFails : Ground → Rows → TableNode → PlainState → StateFault → Type 0
PutFails known rows node state (Unread fault) = ⊥
PutFails known rows node state (Root fault) = ⊥
PutFails known rows node state (Metadata fault) = ⊥
PutFails known rows node state (Lacks untold) = ⊥
PutFails known rows node state (LacksFlagged path) = ⊥
PutFails known rows node state (LacksLog log) = ⊥
PutFails known rows node state (Unlisted log) = ⊥
PutFails known rows node state (UnlistedSorted log) = ⊥
PutFails known rows node state (Unsorted log) = ⊥
PutFails known rows node state StrayTable = ⊥
PutFails known rows node state StrayFile = ⊥
PutFails known rows node state (LacksMarked path) = ⊥
PutFails known rows node state (Table id fault) = (id ≡ node.id) × TableFails known rows node.mark fault
PutFails known rows node state (NameTaken name) = (name ≡ node.name) × (has_name node.name state ≡ true)
PutFails known rows node state (LacksStaged path) = ⊥
PutFails known rows node state NoMemory = Unit {0}

-- ---- the state

-- The ground stands for the state, so read and with these nodes, whose bounds are of bytes.
pub record StandsSo (known : Ground) (state : PlainState) : Type 0 where
  pub reading : Reading
  pub catalog : Catalog
  pub stands : StandsAs reading catalog known state
  pub bytes : HasByteBounds catalog

-- the ground stands for no state
pub record HasNoState (known : Ground) : Type 0 where
  pub none : (reading : Reading) (catalog : Catalog) (state : PlainState) → StandsAs reading catalog known state → ⊥

-- the ground stands for no state with nodes whose bounds are of bytes
pub record HasNoByteState (known : Ground) : Type 0 where
  pub none : (state : PlainState) → StandsSo known state → ⊥
