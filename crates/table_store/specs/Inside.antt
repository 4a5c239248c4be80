-- What a store of tables keeps.
use Rattle.std.specs.Prelude.{◌≡◌, ◌+◌, ◌≤◌, None, IfSome, take, drop, length}
use Rattle.store_layout.specs.Names.{nodes_name}
use Rattle.table_store.specs.Reading.{IsReading}
use Rattle.table_store.specs.StoreValue.{StoreValue}
use Rattle.table_store.specs.Creating.{IsUnnamed}
use Rattle.table_store.specs.declared.store.TableStore.TheInside.{Inside}

-- the committed entries, and then the one in doubt
abbrev pub view_of : Inside → StoreValue
view_of inside = record {
  nodes = inside.nodes;
  tables = record { by_name = inside.by_name; next = inside.next };
  history = take inside.committed inside.entries.items;
  doubt = drop inside.committed inside.entries.items;
  stop = inside.stop;
}

pub record IsSound (inside : Inside) : Type 0 where
  pub name : inside.nodes.name ≡ nodes_name
  pub within : inside.committed ≤ length inside.entries.items
  pub few : length inside.entries.items ≤ inside.committed + 1
  -- what it answers again names no file
  pub unnamed : IfSome inside.stop IsUnnamed
  -- while it runs, nothing is in doubt, and its nodes say its tables
  pub settled : inside.stop ≡ None → length inside.entries.items ≤ inside.committed
  pub reading : inside.stop ≡ None → IsReading inside.nodes.nodes (record { by_name = inside.by_name; next = inside.next })
