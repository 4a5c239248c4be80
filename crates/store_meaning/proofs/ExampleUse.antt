-- What is read of the small store, and what is in use.
use Rattle.std.proofs.Common.{◌≡◌, ◌⊎◌, ◌||◌, inl, inr, ℕ, Bool, true, false, cond, is_some, lit≤, codes, List, [], ◌∷◌, ◌++◌, Contains, Option, Some, None, refl, sym, ◌∙◌, ap, subst}
use Rattle.std.specs.Cmp.Lexicographic.{nat_list_cmp_total}
use Rattle.std.specs.FinMap as map_of
use Rattle.std.specs.FinMap.{get-insert, get-empty, get-from_entries}
use Rattle.std.specs.List.{list_any}
use Rattle.std.specs.Option.{option_and_then}
use Rattle.std.specs.Ordering.{eq_by_cmp, is_eq}
use Rattle.std.specs.declared.cmp.Ordering.{Ordering}
use Rattle.std.specs.declared.cmp.Ordering.TheVariants.{Less, Equal, Greater}
use Rattle.std.proofs.lemmas.Cmp.{tied_itself}
use Rattle.std.proofs.lemmas.Map.Lookups.{exact_bytes}
use Rattle.std.proofs.lemmas.Option.{same_Some, none-some, cond_some}
use Rattle.row_keys.specs.declared.key.Key.{Key}
use Rattle.row_keys.specs.Keys.{key_cmp}
use Rattle.row_keys.specs.RowOrder.{bytes_cmp}
use Rattle.plain_model.specs.State.{Table, has_point}
use Rattle.metadata_schema.specs.declared.tablet.FileEntry.{FileEntry}
use Rattle.metadata_schema.specs.declared.tablet.TabletRecord.{TabletRecord}
use Rattle.metadata_schema.specs.Bytes.{same}
use Rattle.cell_merge.specs.declared.cell.Cell.{Cell}
use Rattle.cell_merge.specs.Newest.{is_same_key, later, newest_at}
use Rattle.cell_merge.specs.Changes.{AreConsistent}
use Rattle.cell_merge.proofs.KeyLemmas.{key_cmp_total, same_key-true, same_key-refl}
use Rattle.level_rows.specs.Chain.{Rows}
use Rattle.level_rows.proofs.EndLemmas.{same-true, same-refl}
use Rattle.level_rows.proofs.LookupLemmas.{row-there}
use Rattle.level_rows.proofs.Membership.{Contains-nil, Contains-cons_cases}
use Rattle.node_store.specs.declared.changes.Node.{Node}
use Rattle.store_layout.specs.declared.tables.TableNode.{TableNode}
use Rattle.store_layout.specs.Nodes.{root_path, root_value}
use Rattle.store_layout.specs.NewStore.{last_metadata}
use Rattle.store_layout.specs.Tables.{TellsTable, IsTableAt, IsCatalogOf, table_path, staged_path, table_value}
use Rattle.store_meaning.specs.Content.{logs_of, tablet_content}
use Rattle.store_meaning.specs.Levels.{IsReadingOf, root_rows, metadata_rows}
use Rattle.store_meaning.specs.InUse.{IsRecord, IsFileInUse, IsLogInUse, IsListedLog, IsListedSorted}
use Rattle.store_meaning.specs.Readable.{IsTold, HaveConsistentTablets, IsReadAs}
use Rattle.store_meaning.specs.Marked.{mark_paths}
use Rattle.store_meaning.specs.Stands.{TableStands, TableAt, StandsAs, is_ending}
use Rattle.store_meaning.specs.Example.{session, log, low, high, tablets_cells, info, levels_cells, root, key, insert, node, nodes, entries, ground_of_example, reading, catalog, table, state}
use Rattle.store_meaning.proofs.NewLevel.{FormsNew}
use Rattle.store_meaning.proofs.NewStoreLemmas.{consistent, none_consistent}
use Rattle.store_meaning.proofs.TwoRecords.{one_of_two}
use Rattle.store_meaning.proofs.ExampleForms.{tablets_entry, levels_entry, root_form, users_is, metadata_is, levels_rising, tablets_rising}

-- ---- look-ups at one name

equal : (o : Ordering) → is_eq o ≡ true → o ≡ Equal
equal Less e = cc
equal Equal e = refl
equal Greater e = cc

-- bytes tie in their order just where they are the same
pub ties : (one other : List ℕ) → eq_by_cmp bytes_cmp one other ≡ same one other
ties one other = by (eq_by_cmp bytes_cmp one other) (same one other) refl refl
  where
    by : (b d : Bool) → eq_by_cmp bytes_cmp one other ≡ b → same one other ≡ d → b ≡ d
    by true true e f = refl
    by false false e f = refl
    by true false e f = absurd (
        let at : one ≡ other = exact_bytes one other (equal (bytes_cmp one other) e) in
        let wrong : true ≡ false = sym (same-refl one) ∙ ap (same one) at ∙ f in
        cc)
    by false true e f = absurd (
        let right : eq_by_cmp bytes_cmp one one ≡ true = ap is_eq (tied_itself nat_list_cmp_total one) in
        let wrong : true ≡ false = sym right ∙ ap (eq_by_cmp bytes_cmp one) (same-true one other f) ∙ e in
        cc)

-- and so do keys
pub key_ties : (one other : Key) → eq_by_cmp key_cmp one other ≡ is_same_key other one
key_ties one other = by (eq_by_cmp key_cmp one other) (is_same_key other one) refl refl
  where
    by : (b d : Bool) → eq_by_cmp key_cmp one other ≡ b → is_same_key other one ≡ d → b ≡ d
    by true true e f = refl
    by false false e f = refl
    by true false e f = absurd (
        let at : one ≡ other = same_key-true one other e in
        let wrong : true ≡ false = sym (same_key-refl other) ∙ ap (is_same_key other) (sym at) ∙ f in
        cc)
    by false true e f = absurd (
        let at : other ≡ one = same_key-true other one f in
        let wrong : true ≡ false = sym (same_key-refl one) ∙ ap (is_same_key one) (sym at) ∙ e in
        cc)

-- ---- the levels

root_there : map_of.get nodes root_path ≡ Some (record { value = root_value root; version = 0 })
root_there = get-from_entries nat_list_cmp_total entries root_path

pub levels : FormsNew → IsReadingOf ground_of_example reading
levels forms = record {
  root = record { node = record { value = root_value root; version = 0 }; there = root_there; value = refl; at = record { name = record { id = inl refl; short = tt }; table_is = refl; end_is = refl; form = root_form } };
  root_chain = (refl, refl, refl);
  root_content = refl;
  metadata = metadata_is forms;
  chain = (refl, refl, (tt, (refl, refl, refl)));
  content = refl;
  users = users_is;
}

-- ---- what is in use

-- a record is one of five
pub of_five : (P : TabletRecord → Type 0) → P root → P info → P last_metadata → P low → P high → (tablet : TabletRecord) → IsRecord reading tablet → P tablet
of_five P a b c d e tablet (inl is) = subst P is a
of_five P a b c d e tablet (inr (inl of)) = elim (one_of_two info last_metadata tablet (row-there of.table (info ∷ last_metadata ∷ []) of.end tablet of.there).0) [ inl is ↦ subst P is b | inr is ↦ subst P is c ]
of_five P a b c d e tablet (inr (inr of)) = elim (one_of_two low high tablet (row-there of.table (low ∷ high ∷ []) of.end tablet of.there).0) [ inl is ↦ subst P is d | inr is ↦ subst P is e ]

pub lone : {X : Type 0} (x y : X) → Contains (x ∷ []) y → x ≡ y
lone x y there = elim (Contains-cons_cases x y [] there) [ inl is ↦ is | inr none ↦ absurd (Contains-nil y none) ]

pub files_of_five : (tablet : TabletRecord) → IsRecord reading tablet → (file : FileEntry) → Contains tablet.files file → (levels_entry ≡ file) ⊎ (tablets_entry ≡ file)
files_of_five = of_five (λ tablet. (file : FileEntry) → Contains tablet.files file → (levels_entry ≡ file) ⊎ (tablets_entry ≡ file))
    (λ file there. inl (lone levels_entry file there))
    (λ file there. inr (lone tablets_entry file there))
    (λ file there. absurd (Contains-nil file there))
    (λ file there. absurd (Contains-nil file there))
    (λ file there. absurd (Contains-nil file there))

pub log_of_five : (tablet : TabletRecord) → IsRecord reading tablet → (name : List ℕ) → Contains (logs_of tablet) name → log ≡ name
log_of_five = of_five (λ tablet. (name : List ℕ) → Contains (logs_of tablet) name → log ≡ name)
    (λ name there. absurd (Contains-nil name there))
    (λ name there. absurd (Contains-nil name there))
    (λ name there. absurd (Contains-nil name there))
    (λ name there. lone log name there)
    (λ name there. lone log name there)

-- the node of the log is that of its session, and no other is under `/logs`
abbrev pub log_node : Node
log_node = record { value = log; version = 0 }

pub log_at : (name : List ℕ) → map_of.get nodes (codes "/logs/" ++ name) ≡ cond (eq_by_cmp bytes_cmp name session) (Some log_node) None
log_at name = get-from_entries nat_list_cmp_total entries (codes "/logs/" ++ name)

pub is_listed : IsListedLog nodes log
is_listed = record { session = session; node = log_node; there = log_at session; is = refl }

pub listed_is : (name : List ℕ) → IsListedLog nodes name → log ≡ name
listed_is name listed = ap (λ (n : Node). n.value) (cond_some (eq_by_cmp bytes_cmp listed.session session) log_node listed.node (sym (log_at listed.session) ∙ listed.there)).1 ∙ listed.is

pub none_sorted : (name : List ℕ) → IsListedSorted nodes name → ⊥
none_sorted name sorted = none-some sorted.node (sym (get-from_entries nat_list_cmp_total entries (codes "/sorted/" ++ name)) ∙ sorted.there)

pub file_told : (path : List ℕ) → IsFileInUse reading path → IsTold (ground_of_example.cells_of path)
file_told path (inl named) = elim (files_of_five named.tablet named.of named.file named.there) [
  | inl is ↦ subst (λ p. IsTold (ground_of_example.cells_of p)) (ap (λ (f : FileEntry). f.path) is ∙ named.is) (record { value = levels_cells; is = refl })
  | inr is ↦ subst (λ p. IsTold (ground_of_example.cells_of p)) (ap (λ (f : FileEntry). f.path) is ∙ named.is) (record { value = tablets_cells; is = refl })
]
file_told path (inr (inl flagged)) = absurd (none-some flagged.flag flagged.is)
file_told path (inr (inr flagged)) = absurd (none-some flagged.flag flagged.is)

pub log_used : (name : List ℕ) → IsLogInUse nodes reading name → log ≡ name
log_used name (inl named) = log_of_five named.tablet named.of name named.there
log_used name (inr (inl listed)) = listed_is name listed
log_used name (inr (inr sorted)) = absurd (none_sorted name sorted)
