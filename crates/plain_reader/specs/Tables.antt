-- A table that is put into a plain state.
use Rattle.std.specs.Prelude.{◌≡◌, ◌≢◌, ℕ, true, List}
use Rattle.std.specs.FinMap as map
use Rattle.std.specs.List.{filter_map}
use Rattle.metadata_schema.specs.declared.tablet.TabletRecord.{TabletRecord}
use Rattle.plain_model.specs.State.{Table, PlainState, with_points}
use Rattle.plain_model.specs.Apply.{has_name}
use Rattle.level_rows.specs.Chain.{Rows}
use Rattle.store_layout.specs.declared.tables.TableNode.{TableNode}
use Rattle.store_meaning.specs.Ground.{Ground}
use Rattle.store_meaning.specs.Stands.{IsTableOf}
use Rattle.plain_reader.specs.declared.fault.PutFault.{PutFault}
use Rattle.plain_reader.specs.declared.fault.PutFault.TheVariants.{Table as NoTable, NameTaken, NoMemory}
use Rattle.plain_reader.specs.Parts.{TableCause}

-- the end rows of tablets
abbrev pub ends_of : List TabletRecord → List (List ℕ)
ends_of chain = filter_map (λ tablet. tablet.end) chain

-- a table of this name, split at these rows, without pairs
abbrev pub bare_table : List ℕ → List (List ℕ) → Table
bare_table name rows = record { name = name; points = with_points rows map.empty; pairs = map.empty }

-- the table stands in the new state as the ground has it, and all others and the staged files are as before
pub record PutsTable (known : Ground) (rows : Rows) (node : TableNode) (old new : PlainState) : Type 0 where
  pub stands : IsTableOf known rows node (map.get new.tables node.id)
  pub others : (other : List ℕ) → other ≢ node.id → map.get new.tables other ≡ map.get old.tables other
  pub staged : new.staged ≡ old.staged

-- why a name isn't free
abbrev pub NameCause : List ℕ → PlainState → PutFault → Type 0
NameCause name state (NoTable fault) = ⊥
NameCause name state NameTaken = has_name name state ≡ true
NameCause name state NoMemory = Unit {0}

-- why a table isn't put into a state; want of memory is free
abbrev pub PutCause : Ground → Rows → TableNode → PlainState → PutFault → Type 0
PutCause known rows node state (NoTable fault) = TableCause known rows node.mark fault
PutCause known rows node state NameTaken = has_name node.name state ≡ true
PutCause known rows node state NoMemory = Unit {0}
