-- Names of tables that stand apart.
use Rattle.std.specs.Prelude.{◌≡◌, ◌≢◌, ℕ, List, Option, Some, None, if◌then◌else◌}
use Rattle.metadata_schema.specs.Bytes.{same}
use Rattle.store_layout.specs.declared.tables.TableNode.{TableNode}
use Rattle.store_layout.specs.declared.tables.TableState.TheVariants.{Online}
use Rattle.store_layout.specs.Tables.{Catalog}

-- an ONLINE table of this name has this id
pub record IsOnlineAs (catalog : Catalog) (name id : List ℕ) : Type 0 where
  pub table : TableNode
  pub there : catalog.tables id ≡ Some table
  pub online : table.state ≡ Online
  pub named : table.name ≡ name

-- no two ONLINE tables have the same name
pub record AreNamesApart (catalog : Catalog) : Type 0 where
  pub apart : (name id other : List ℕ) → IsOnlineAs catalog name id → IsOnlineAs catalog name other → id ≡ other

-- the tables with this one at its id, and the same staged files
abbrev pub with_table : Catalog → TableNode → Catalog
with_table catalog table = record { tables = λ id. if same id table.id then Some table else catalog.tables id; staged = catalog.staged }

-- where the table is ONLINE, no ONLINE table with another id has its name
pub record IsNameFree (catalog : Catalog) (table : TableNode) : Type 0 where
  pub free : table.state ≡ Online → (id : List ℕ) → IsOnlineAs catalog table.name id → id ≡ table.id
