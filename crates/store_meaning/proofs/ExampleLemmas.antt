-- The small store stands for its table.
use Rattle.std.proofs.Common.{◌≡◌, ◌⊎◌, ◌||◌, inl, inr, ℕ, Bool, true, false, cond, is_some, lit≤, codes, List, [], ◌∷◌, ◌++◌, Contains, Option, Some, None, refl, sym, ◌∙◌, ap, subst}
use Rattle.std.specs.Cmp.Lexicographic.{nat_list_cmp_total}
use Rattle.std.specs.FinMap as map_of
use Rattle.std.specs.FinMap.{get-insert, get-empty, get-from_entries}
use Rattle.std.specs.List.{list_any}
use Rattle.std.specs.Option.{option_and_then}
use Rattle.std.specs.Ordering.{eq_by_cmp, is_eq}
use Rattle.std.specs.declared.cmp.Ordering.{Ordering}
use Rattle.std.specs.declared.cmp.Ordering.TheVariants.{Less, Equal, Greater}
use Rattle.std.proofs.lemmas.Cmp.{tied_itself}
use Rattle.std.proofs.lemmas.Map.Lookups.{exact_bytes}
use Rattle.std.proofs.lemmas.Option.{same_Some, none-some, cond_some}
use Rattle.row_keys.specs.declared.key.Key.{Key}
use Rattle.row_keys.specs.Keys.{key_cmp}
use Rattle.row_keys.specs.RowOrder.{bytes_cmp}
use Rattle.plain_model.specs.State.{Table, has_point}
use Rattle.metadata_schema.specs.declared.tablet.FileEntry.{FileEntry}
use Rattle.metadata_schema.specs.declared.tablet.TabletRecord.{TabletRecord}
use Rattle.metadata_schema.specs.Bytes.{same}
use Rattle.cell_merge.specs.declared.cell.Cell.{Cell}
use Rattle.cell_merge.specs.Newest.{is_same_key, later, newest_at}
use Rattle.cell_merge.specs.Changes.{AreConsistent}
use Rattle.cell_merge.proofs.KeyLemmas.{key_cmp_total, same_key-true, same_key-refl}
use Rattle.level_rows.specs.Chain.{Rows}
use Rattle.level_rows.proofs.EndLemmas.{same-true, same-refl}
use Rattle.level_rows.proofs.LookupLemmas.{row-there}
use Rattle.level_rows.proofs.Membership.{Contains-nil, Contains-cons_cases}
use Rattle.node_store.specs.declared.changes.Node.{Node}
use Rattle.store_layout.specs.declared.tables.TableNode.{TableNode}
use Rattle.store_layout.specs.Nodes.{root_path, root_value}
use Rattle.store_layout.specs.NewStore.{last_metadata}
use Rattle.store_layout.specs.Tables.{TellsTable, IsTableAt, IsCatalogOf, table_path, staged_path, table_value}
use Rattle.store_meaning.specs.Content.{logs_of, tablet_content}
use Rattle.store_meaning.specs.Levels.{IsReadingOf, root_rows, metadata_rows}
use Rattle.store_meaning.specs.InUse.{IsRecord, IsFileInUse, IsLogInUse, IsListedLog, IsListedSorted}
use Rattle.store_meaning.specs.Readable.{IsTold, HaveConsistentTablets, IsReadAs}
use Rattle.store_meaning.specs.Marked.{mark_paths}
use Rattle.store_meaning.specs.Stands.{TableStands, TableAt, StandsAs, is_ending}
use Rattle.store_meaning.specs.Example.{session, log, low, high, tablets_cells, info, levels_cells, root, key, insert, node, nodes, entries, ground_of_example, reading, catalog, table, state}
use Rattle.store_meaning.proofs.NewLevel.{FormsNew}
use Rattle.store_meaning.proofs.NewStoreLemmas.{consistent, none_consistent}
use Rattle.store_meaning.proofs.TwoRecords.{one_of_two}
use Rattle.store_meaning.proofs.ExampleForms.{tablets_entry, levels_entry, root_form, users_is, metadata_is, levels_rising, tablets_rising}
use Rattle.store_meaning.proofs.ExampleUse.{ties, key_ties, levels, lone, files_of_five, log_of_five, is_listed, listed_is, none_sorted, file_told, log_used}

-- ---- read

in_order : (rows : Rows) (tablet : TabletRecord) (all : List Cell) → tablet_content ground_of_example rows tablet ≡ Some all → AreConsistent all → (cells : List Cell) → tablet_content ground_of_example rows tablet ≡ Some cells → AreConsistent cells
in_order rows tablet all is fine cells told = subst AreConsistent (same_Some all cells (sym is ∙ told)) fine

root_consistent : HaveConsistentTablets ground_of_example (root_rows reading) (root ∷ [])
root_consistent tablet cells there told =
    subst (λ t. tablet_content ground_of_example (root_rows reading) t ≡ Some cells → AreConsistent cells) (lone root tablet there) (in_order (root_rows reading) root levels_cells refl (consistent levels_cells levels_rising) cells) told

metadata_consistent : HaveConsistentTablets ground_of_example (metadata_rows reading) (last_metadata ∷ info ∷ [])
metadata_consistent tablet cells there told = elim (one_of_two last_metadata info tablet there) [
  | inl is ↦ subst (λ t. tablet_content ground_of_example (metadata_rows reading) t ≡ Some cells → AreConsistent cells) is (in_order (metadata_rows reading) last_metadata [] refl none_consistent cells) told
  | inr is ↦ subst (λ t. tablet_content ground_of_example (metadata_rows reading) t ≡ Some cells → AreConsistent cells) is (in_order (metadata_rows reading) info tablets_cells refl (consistent tablets_cells tablets_rising) cells) told
]

pub read_so : FormsNew → IsReadAs reading ground_of_example
read_so forms = record {
  levels = levels forms;
  in_use = record {
    files = file_told;
    logs = λ name used. subst (λ l. IsTold (ground_of_example.mutations_of l)) (log_used name used) (record { value = insert ∷ []; is = refl });
    sorted = λ name sorted. absurd (none_sorted name sorted);
  };
  logs = record {
    named = λ name named. subst (IsListedLog nodes) (log_of_five named.tablet named.of name named.there) is_listed;
    sorted = λ name sorted. absurd (none_sorted name sorted);
  };
  root = root_consistent;
  metadata = metadata_consistent;
}

-- ---- the table

-- the one cell of the insert
abbrev cell : Cell
cell = record { key = key; time = 1; value = Some (codes "v") }

cell_consistent : AreConsistent (cell ∷ [])
cell_consistent = record { one = λ a b p q k t. sym (lone cell a p) ∙ lone cell b q }

user_consistent : HaveConsistentTablets ground_of_example (reading.users.records (codes "1")) (high ∷ low ∷ [])
user_consistent tablet cells there told = elim (one_of_two high low tablet there) [
  | inl is ↦ subst (λ t. tablet_content ground_of_example (reading.users.records (codes "1")) t ≡ Some cells → AreConsistent cells) is (in_order (reading.users.records (codes "1")) high [] refl none_consistent cells) told
  | inr is ↦ subst (λ t. tablet_content ground_of_example (reading.users.records (codes "1")) t ≡ Some cells → AreConsistent cells) is (in_order (reading.users.records (codes "1")) low (cell ∷ []) refl cell_consistent cells) told
]

last_false : (one : List ℕ) (row : List ℕ) → same row one ≡ false → same one row || false ≡ false
last_false one row e = by (same one row) refl
  where
    by : (b : Bool) → same one row ≡ b → b || false ≡ false
    by true f = absurd (let wrong : true ≡ false = sym (same-refl row) ∙ ap (same row) (sym (same-true one row f)) ∙ e in cc)
    by false f = refl

abbrev split_here : Option (Unit {0})
split_here = Some tt

split_at : (row : List ℕ) → map_of.get table.points row ≡ cond (same row (codes "m")) split_here None
split_at row =
    get-insert nat_list_cmp_total (map_of.empty {R = bytes_cmp}) (codes "m") tt row
    ∙ ap (λ b. cond b split_here (map_of.get (map_of.empty {R = bytes_cmp}) row)) (ties row (codes "m"))
    ∙ ap (cond (same row (codes "m")) split_here) (get-empty bytes_cmp row)

points_are : (row : List ℕ) → has_point table.points row ≡ list_any (is_ending row) (high ∷ low ∷ [])
points_are row = ap is_some (split_at row) ∙ by (same row (codes "m")) refl
  where
    by : (b : Bool) → same row (codes "m") ≡ b → is_some (cond b split_here None) ≡ list_any (is_ending row) (high ∷ low ∷ [])
    by true e = ap (λ r. list_any (is_ending r) (high ∷ low ∷ [])) (sym (same-true row (codes "m") e))
    by false e = sym (last_false (codes "m") row e)

pairs_are : (other : Key) → map_of.get table.pairs other ≡ newest_at (cell ∷ []) other
pairs_are other = get-insert key_cmp_total (map_of.empty {R = key_cmp}) key (codes "v") other ∙ ap (λ b. cond b (Some (codes "v")) (map_of.get (map_of.empty {R = key_cmp}) other)) (key_ties other key) ∙ by (is_same_key key other)
  where
    value_of : Option Cell → Option (List ℕ)
    value_of = option_and_then (λ c. c.value)

    by : (b : Bool) → cond b (Some (codes "v")) (map_of.get (map_of.empty {R = key_cmp}) other) ≡ option_and_then (λ c. c.value) (later (cond b (Some cell) None) None)
    by true = refl
    by false = get-empty key_cmp other

table_stands : TableStands ground_of_example (reading.users.records (codes "1")) node table
table_stands = record {
  chain = high ∷ low ∷ [];
  is_chain = (refl, refl, (tt, (refl, refl, refl)));
  cells = cell ∷ [];
  content = refl;
  consistent = user_consistent;
  layers = [];
  brought = refl;
  name = refl;
  points = points_are;
  pairs = pairs_are;
}

-- ---- the state

one_at : (id : List ℕ) → map_of.get state.tables id ≡ cond (same id (codes "1")) (Some table) None
one_at id =
    get-insert nat_list_cmp_total (map_of.empty {R = bytes_cmp}) (codes "1") table id
    ∙ ap (λ b. cond b (Some table) (map_of.get (map_of.empty {R = bytes_cmp}) id)) (ties id (codes "1"))
    ∙ ap (cond (same id (codes "1")) (Some table)) (get-empty bytes_cmp id)

node_at : (id : List ℕ) → map_of.get nodes (table_path id) ≡ cond (same id (codes "1")) (Some (record { value = table_value node; version = 0 })) None
node_at id =
    get-from_entries nat_list_cmp_total entries (table_path id) ∙ ap (λ b. cond b (Some (record { value = table_value node; version = 0 })) None) (ties id (codes "1"))

catalog_is : IsCatalogOf nodes catalog
catalog_is = record { tables = λ id. by id (same id (codes "1")) refl; staged = λ name. get-from_entries nat_list_cmp_total entries (staged_path name) }
  where
    here : IsTableAt nodes (codes "1") node
    here = record {
      node = record { value = table_value node; version = 0 };
      there = node_at (codes "1");
      value = refl;
      id_is = refl;
      form = record { id = record { least = lit≤ tt; most = lit≤ tt; each = refl }; name = record { least = lit≤ tt; most = lit≤ tt; each = refl }; mark = tt };
    }

    by : (id : List ℕ) (b : Bool) → same id (codes "1") ≡ b → TellsTable nodes id (cond b (Some node) None)
    by id true e = subst (λ i. IsTableAt nodes i node) (sym (same-true id (codes "1") e)) here
    by id false e = node_at id ∙ ap (λ b. cond b (Some (record { value = table_value node; version = 0 })) None) e

pub stands : FormsNew → StandsAs reading catalog ground_of_example state
stands forms = record {
  read = read_so forms;
  nodes = catalog_is;
  marked = λ path marked. absurd (by marked.id (same marked.id (codes "1")) marked.table marked.there path marked.marked);
  tables = λ id. at id (same id (codes "1")) refl;
  staged = λ name. get-empty bytes_cmp name;
  names = record { apart = λ id other one another p q alike. only id one p ∙ sym (only other another q) };
}
  where
    by : (id : List ℕ) (b : Bool) (named : TableNode) → cond b (Some node) None ≡ Some named → (path : List ℕ) → Contains (mark_paths named.mark) path → ⊥
    by id true named e path there = Contains-nil path (subst (λ (n : TableNode). Contains (mark_paths n.mark) path) (sym (same_Some node named e)) there)
    by id false named e path there = none-some named e

    at : (id : List ℕ) (b : Bool) → same id (codes "1") ≡ b → TableAt ground_of_example (reading.users.records id) (cond b (Some node) None) (map_of.get state.tables id)
    at id true e = subst (λ i. TableAt ground_of_example (reading.users.records i) (Some node) (map_of.get state.tables i)) (sym (same-true id (codes "1") e)) (record { table = table; is = one_at (codes "1"); stands = table_stands })
    at id false e = one_at id ∙ ap (λ b. cond b (Some table) None) e

    only : (id : List ℕ) (one : Table) → map_of.get state.tables id ≡ Some one → id ≡ codes "1"
    only id one p = same-true id (codes "1") (cond_some (same id (codes "1")) table one (sym (one_at id) ∙ p)).0
