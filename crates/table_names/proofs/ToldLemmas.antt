-- What the value of a node tells of tables and staged files.
use Rattle.std.proofs.Common.{◌≡◌, ℕ, List, [], ◌∷◌, ◌++◌, map as mapped, Some, None, sym, ◌∙◌, ap, subst}
use Rattle.std.proofs.lemmas.List.{map-append}
use Rattle.std.proofs.lemmas.List.Elements.{All-push}
use Rattle.std.specs.FinMap as map
use Rattle.std.proofs.lemmas.Option.{same_Some, none-some}
use Rattle.row_keys.specs.Forms.{IsWordName}
use Rattle.node_store.specs.declared.changes.Node.{Node}
use Rattle.node_store.specs.Nodes.{Nodes}
use Rattle.store_layout.specs.declared.tables.TableNode.{TableNode}
use Rattle.store_layout.specs.Tables.{table_path, staged_path, IsStagedPath, IsStagedAt}
use Rattle.table_names.specs.Marks.{IsTableValue, IsNoTableValue}
use Rattle.table_names.specs.Tables.{IsTold, IsNoTable, IsStray, AreTablesAt}
use Rattle.table_names.specs.Staged.{IsNoStaged, IsStrayFile, AreStagedAt}

-- ---- staged files

pub staged_at : (nodes : Nodes) (name path : List ℕ) (node : Node) → IsWordName name → map.get nodes (staged_path name) ≡ Some node → path ≡ node.value → IsStagedPath node.value → IsStagedAt nodes name path
staged_at nodes name path node name_form there is form = record { node = node; there = there; value = sym is; name_form = name_form; path_form = subst IsStagedPath (sym is) form }

-- ---- one more

pub tables_more : (nodes : Nodes) (paths : List (List ℕ)) (path : List ℕ) (tables : List TableNode) (table : TableNode) → AreTablesAt nodes paths tables → path ≡ table_path table.id → IsTold nodes table.id table
    → AreTablesAt nodes (paths ++ path ∷ []) (tables ++ table ∷ [])
tables_more nodes paths path tables table are at told = record {
  told = All-push (λ (t : TableNode). IsTold nodes t.id t) tables table are.told told;
  are = map-append (λ (t : TableNode). table_path t.id) tables (table ∷ []) ∙ ap (λ ps. ps ++ table_path table.id ∷ []) are.are ∙ ap (λ p. paths ++ p ∷ []) (sym at);
}
