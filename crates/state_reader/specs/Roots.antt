-- What the value of `/root` spells.
use Rattle.std.specs.Prelude.{◌≡◌, ℕ, List, None}
use Rattle.metadata_schema.specs.declared.mutation.Update.{Update}
use Rattle.metadata_schema.specs.declared.tablet.TabletRecord.{TabletRecord}
use Rattle.metadata_schema.specs.Refusals.{AreColumns}
use Rattle.log_files.specs.Mutations.{spelled_updates, AreUpdates}
use Rattle.store_layout.specs.Nodes.{root_value}
use Rattle.store_meaning.specs.Levels.{IsRecordAt, root_id}

-- the value is the record of the root tablet
pub record IsRootValue (value : List ℕ) (root : TabletRecord) : Type 0 where
  pub is : value ≡ root_value root
  pub at : IsRecordAt root_id None root

-- the value is no record of the root tablet
pub record IsNoRootValue (value : List ℕ) : Type 0 where
  pub none : (root : TabletRecord) → IsRootValue value root → ⊥

-- the value spells these columns
pub record SpellsColumns (value : List ℕ) (columns : List Update) : Type 0 where
  pub is : value ≡ spelled_updates columns
  pub fit : AreUpdates columns
  pub are : AreColumns columns
