-- What one change makes of the tables and staged files.
use Rattle.std.proofs.Common.{◌≡◌, ◌≢◌, inl, inr, ⊎_elim, ℕ, ◌+◌, ◌<◌, ◌^◌, ◌++◌, Bool, true, false, cond, nat_lt, get_or, arith, List, Option, Some, None, Result, Ok, Err, refl, sym, ◌∙◌, ap, subst}
use Rattle.std.specs.Prelude.{codes}
use Rattle.std.specs.FinMap as map
use Rattle.std.specs.Ordering.{eq_by_cmp}
use Rattle.std.specs.Cmp.{eq_by_cmp_equiv}
use Rattle.std.specs.Cmp.Lexicographic.{nat_list_cmp_total}
use Rattle.std.specs.Result.{result_ok}
use Rattle.std.proofs.lemmas.Option.{same_Some}
use Rattle.std.proofs.lemmas.Slice.Eq.{bytes_eq-Decides}
use Rattle.std.proofs.lemmas.Map.Lookups.{exact_bytes}
use Rattle.std.proofs.lemmas.Map.Views.{tells_apart}
use Rattle.host_model.specs.declared.fault.Stop.TheVariants.{Full}
use Rattle.row_keys.specs.Forms.{IsWordName}
use Rattle.metadata_schema.specs.Bytes.{same}
use Rattle.node_store.specs.declared.changes.Node.{Node}
use Rattle.node_store.specs.declared.changes.NodeOp.{NodeOp}
use Rattle.node_store.specs.declared.changes.NodeOp.TheVariants.{Create}
use Rattle.node_store.specs.declared.changes.NodeStop.{NodeStop}
use Rattle.node_store.specs.declared.changes.NodeStop.TheVariants.{Stop}
use Rattle.node_store.specs.PathsTo.{PathsTo, path_cmp, with_entry}
use Rattle.node_store.specs.Nodes.{Nodes, allows, raised, turned, path_of, and_then, applied}
use Rattle.node_store.proofs.PathMaps.{get-with_entry}
use Rattle.store_layout.specs.declared.tables.TableNode.{TableNode}
use Rattle.store_layout.specs.Tables.{table_path, table_value, staged_path, IsTableForm, IsStagedPath, IsTableAt, IsStagedAt, Catalog, TellsTable, TellsStaged, IsCatalogOf}
use Rattle.table_names.specs.Changes.{set_table, make_table, stage, unstage, StaysBut, WritesTable, StagesFile, UnstagesFile}
use Rattle.table_names.specs.Names.{with_table}

-- ---- one change

-- what a change that applies makes
pub record Makes (op : NodeOp) (before after : Nodes) : Type 0 where
  pub entry : Option Node
  pub turned_is : turned op (map.get before (path_of op)) ≡ Ok entry
  pub here : map.get after (path_of op) ≡ entry
  pub others : StaysBut (path_of op) before after

same_path : (path : List ℕ) → eq_by_cmp path_cmp path path ≡ true
same_path path = (eq_by_cmp_equiv nat_list_cmp_total).refl path

apart : (path other : List ℕ) → path ≢ other → eq_by_cmp path_cmp path other ≡ false
apart path other differ = by (eq_by_cmp path_cmp path other) refl
  where
    by : (b : Bool) → eq_by_cmp path_cmp path other ≡ b → b ≡ false
    by true alike = absurd (differ (tells_apart exact_bytes path other alike))
    by false is = refl

pub makes : (op : NodeOp) (before after : Nodes) → applied op before ≡ Ok after → Makes op before after
makes op before after is = by (turned op (map.get before (path_of op))) refl is
  where
    by : (r : Result (Option Node) NodeStop) → turned op (map.get before (path_of op)) ≡ r → and_then r (λ entry. Ok (with_entry before (path_of op) entry)) ≡ Ok after → Makes op before after
    by (Err stop) was e = cc
    by (Ok entry) was e =
        let whole : with_entry before (path_of op) entry ≡ after = same_Some _ _ (ap result_ok e) in
        record {
          entry = entry;
          turned_is = was;
          here = ap (λ nodes. map.get nodes (path_of op)) (sym whole) ∙ get-with_entry before (path_of op) entry (path_of op) ∙ ap (λ b. cond b entry (map.get before (path_of op))) (same_path (path_of op));
          others = record { each = λ path other. ap (λ nodes. map.get nodes path) (sym whole) ∙ get-with_entry before (path_of op) entry path ∙ ap (λ b. cond b entry (map.get before path)) (apart path (path_of op) other) };
        }

-- a set or a creation leaves a node with its value
pub record HasValue (value : List ℕ) (entry : Option Node) : Type 0 where
  pub node : Node
  pub is : entry ≡ Some node
  pub value_is : node.value ≡ value

raised_value : (node : Node) (value : List ℕ) (entry : Option Node) → raised node value ≡ Ok entry → HasValue value entry
raised_value node value entry is = by (nat_lt (node.version + 1) (2 ^ 63)) is
  where
    by : (b : Bool) → cond b (Ok (Some (record { value = value; version = node.version + 1 }))) (Err (Stop Full)) ≡ Ok entry → HasValue value entry
    by true e = record { node = record { value = value; version = node.version + 1 }; is = sym (same_Some _ _ (ap result_ok e)); value_is = refl }
    by false e = cc

set_value : (table : TableNode) (old entry : Option Node) → turned (set_table table) old ≡ Ok entry → HasValue (table_value table) entry
set_value table None entry is = cc
set_value table (Some node) entry is = raised_value node (table_value table) entry is

create_value : (path value : List ℕ) (old entry : Option Node) → turned (Create path value) old ≡ Ok entry → HasValue value entry
create_value path value None entry is = record { node = record { value = value; version = 0 }; is = sym (same_Some _ _ (ap result_ok is)); value_is = refl }
create_value path value (Some node) entry is = cc

-- ---- tables

tells_still : (before after : Nodes) (id : List ℕ) (o : Option TableNode) → map.get after (table_path id) ≡ map.get before (table_path id) → TellsTable before id o → TellsTable after id o
tells_still before after id None same none = same ∙ none
tells_still before after id (Some table) same at = record { node = at.node; there = same ∙ at.there; value = at.value; id_is = at.id_is; form = at.form }

staged_still : (before after : Nodes) (name : List ℕ) (o : Option (List ℕ)) → map.get after (staged_path name) ≡ map.get before (staged_path name) → TellsStaged before name o → TellsStaged after name o
staged_still before after name None same none = same ∙ none
staged_still before after name (Some path) same at = record { node = at.node; there = same ∙ at.there; value = at.value; name_form = at.name_form; path_form = at.path_form }

-- no path is a table's and a staged file's
staged_apart : (name id : List ℕ) → staged_path name ≡ table_path id → ⊥
staged_apart name id is = (let second : ◌≡◌ {A = ℕ} 115 116 = ap (λ (l : List ℕ). get_or l 1 0) is in omega (arith, second))

writes : (table : TableNode) (before after : Nodes) (entry : Option Node) → IsTableForm table → map.get after (table_path table.id) ≡ entry → HasValue (table_value table) entry → StaysBut (table_path table.id) before after → WritesTable table before after
writes table before after entry form here has others = record {
  told = told;
  others = others;
  catalog = λ catalog of. record { tables = λ id. tables catalog of id; staged = λ name. staged_still before after name (catalog.staged name) (others.each (staged_path name) (λ e. staged_apart name table.id e)) (of.staged name) };
}
  where
    told : IsTableAt after table.id table
    told = record { node = has.node; there = here ∙ has.is; value = has.value_is; id_is = refl; form = form }

    tables : (catalog : Catalog) → IsCatalogOf before catalog → (id : List ℕ) → TellsTable after id ((with_table catalog table).tables id)
    tables catalog of id = by (same id table.id) refl
      where
        by : (b : Bool) → same id table.id ≡ b → TellsTable after id (cond b (Some table) (catalog.tables id))
        by true alike = subst (λ i. IsTableAt after i table) (sym ((bytes_eq-Decides id table.id).0 alike)) told
        by false differ = tells_still before after id (catalog.tables id) (others.each (table_path id) (λ e. let alike : id ≡ table.id = cc in let wrong : false ≡ true = sym differ ∙ (bytes_eq-Decides id table.id).1 alike in cc)) (of.tables id)

pub set_writes : (table : TableNode) (before after : Nodes) → IsTableForm table → applied (set_table table) before ≡ Ok after → WritesTable table before after
set_writes table before after form is =
    let made = makes (set_table table) before after is in
    writes table before after made.entry form made.here (set_value table (map.get before (table_path table.id)) made.entry made.turned_is) made.others

pub make_writes : (table : TableNode) (before after : Nodes) → IsTableForm table → applied (make_table table) before ≡ Ok after → WritesTable table before after
make_writes table before after form is =
    let made = makes (make_table table) before after is in
    writes table before after made.entry form made.here (create_value (table_path table.id) (table_value table) (map.get before (table_path table.id)) made.entry made.turned_is) made.others

-- ---- staged files

pub stage_tells : (name path : List ℕ) (before after : Nodes) → IsWordName name → IsStagedPath path → applied (stage name path) before ≡ Ok after → StagesFile name path before after
stage_tells name path before after name_form path_form is =
    let made = makes (stage name path) before after is in
    let has = create_value (staged_path name) path (map.get before (staged_path name)) made.entry made.turned_is in
    record { told = record { node = has.node; there = made.here ∙ has.is; value = has.value_is; name_form = name_form; path_form = path_form }; others = made.others }

nothing_left : (name : List ℕ) (old entry : Option Node) → turned (unstage name) old ≡ Ok entry → entry ≡ None
nothing_left name None entry is = cc
nothing_left name (Some node) entry is = sym (same_Some _ _ (ap result_ok is))

pub unstage_tells : (name : List ℕ) (before after : Nodes) → applied (unstage name) before ≡ Ok after → UnstagesFile name before after
unstage_tells name before after is =
    let made = makes (unstage name) before after is in
    record { gone = made.here ∙ nothing_left name (map.get before (staged_path name)) made.entry made.turned_is; others = made.others }
