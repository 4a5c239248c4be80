-- The small store is kept.
use Rattle.std.proofs.Common.{◌≡◌, ◌⊎◌, inl, inr, ℕ, ◌<◌, ◌≤◌, ◌==◌, Bool, true, false, cond, codes, List, [], ◌∷◌, ◌++◌, Contains, Some, None, refl, sym, ◌∙◌, ap, subst, arith, lit<}
use Rattle.std.specs.Cmp.Lexicographic.{nat_list_cmp_total}
use Rattle.std.specs.List.{list_all}
use Rattle.std.specs.FinMap.{get-from_entries}
use Rattle.std.specs.Fmt.{decimal}
use Rattle.std.specs.Ordering.{eq_by_cmp}
use Rattle.std.proofs.lemmas.List.{append_cancel_left}
use Rattle.std.proofs.lemmas.Option.{same_Some, none-some, cond_some}
use Rattle.row_keys.specs.Forms.{IsUserTableId, IsLogName}
use Rattle.row_keys.specs.RowOrder.{bytes_cmp}
use Rattle.metadata_schema.specs.declared.mutation.Mutation.{Mutation}
use Rattle.metadata_schema.specs.declared.tablet.FileEntry.{FileEntry}
use Rattle.metadata_schema.specs.declared.tablet.Holder.{Holder}
use Rattle.metadata_schema.specs.declared.tablet.TabletRecord.{TabletRecord}
use Rattle.metadata_schema.specs.Bytes.{same}
use Rattle.metadata_schema.specs.Paths.{IsFilePath}
use Rattle.cell_merge.specs.declared.cell.Cell.{Cell}
use Rattle.level_rows.specs.Chain.{Rows}
use Rattle.level_rows.proofs.EndLemmas.{same-true}
use Rattle.level_rows.proofs.LookupLemmas.{row-there}
use Rattle.level_rows.proofs.Membership.{Contains-nil, Contains-here}
use Rattle.level_rows.proofs.WayLemmas.{row_of}
use Rattle.node_store.specs.declared.changes.Node.{Node}
use Rattle.store_layout.specs.declared.tables.TableNode.{TableNode}
use Rattle.store_layout.specs.Names.{file_of}
use Rattle.store_layout.specs.Nodes.{next_name_path, next_table_path, next_session_path}
use Rattle.store_layout.specs.Numbers.{base36_number, base16_number, name_number, log_number, IsDirectoryBelow}
use Rattle.store_meaning.specs.Content.{file_cells, logs_of}
use Rattle.store_meaning.specs.InUse.{IsRecord}
use Rattle.store_meaning.specs.Marked.{mark_paths, IsFileCounted}
use Rattle.store_meaning.specs.Stands.{StandsAs}
use Rattle.store_meaning.specs.Kept.{IsCandidate, IsInSomeLog, IsServerSession, IsLogSession, IsHolderSession, AreRowsOf, IsChainTablet, IsPastBar, IsKeptAs}
use Rattle.store_meaning.specs.Example.{session, log, holder, low, high, tablets_path, tablets_cells, levels_path, levels_cells, insert, node, nodes, entries, ground_of_example, reading, catalog, state}
use Rattle.store_meaning.proofs.NewState.{first_byte, second_byte, true_false, one_number, one_time}
use Rattle.store_meaning.proofs.CountedLemmas.{chain_record, told}
use Rattle.store_meaning.proofs.TwoRecords.{one_of_two}
use Rattle.store_meaning.proofs.ExampleForms.{tablets_form, levels_form, tablets_entry, levels_entry}
use Rattle.store_meaning.proofs.ExampleUse.{lone, of_five, files_of_five, log_used, log_at, log_node, listed_is, ties}

-- ---- names

number_below : (path : List ℕ) (known : IsFilePath path) → name_number known < 5 → (other : List ℕ) → path ≡ other → (form : IsFilePath other) → name_number form < 5
number_below path known small other same = subst (λ p. (form : IsFilePath p) → name_number form < 5) same (λ form. (let number = one_number path form known in omega (arith, number, small)))

no_candidate : (path : List ℕ) → IsCandidate nodes reading path → ⊥
no_candidate path (inl is) = true_false is
no_candidate path (inr (inl is)) = true_false is
no_candidate path (inr (inr listed)) = none-some listed.node (sym (get-from_entries nat_list_cmp_total entries (codes "/gc/" ++ file_of path)) ∙ listed.there)

names_below : (path : List ℕ) → IsFileCounted reading catalog path ⊎ IsCandidate nodes reading path → (form : IsFilePath path) → name_number form < 5
names_below path (inl (inl (inl named))) = elim (files_of_five named.tablet named.of named.file named.there) [
  | inl is ↦ number_below levels_path levels_form (lit< tt) path (ap (λ (f : FileEntry). f.path) is ∙ named.is)
  | inr is ↦ number_below tablets_path tablets_form (lit< tt) path (ap (λ (f : FileEntry). f.path) is ∙ named.is)
]
names_below path (inl (inl (inr (inl flagged)))) = absurd (none-some flagged.flag flagged.is)
names_below path (inl (inl (inr (inr flagged)))) = absurd (none-some flagged.flag flagged.is)
names_below path (inl (inr (inl marked))) = absurd (by (same marked.id (codes "1")) marked.table marked.there path marked.marked)
  where
    by : (b : Bool) (named : TableNode) → cond b (Some node) None ≡ Some named → (path : List ℕ) → Contains (mark_paths named.mark) path → ⊥
    by true named e path there = Contains-nil path (subst (λ (n : TableNode). Contains (mark_paths n.mark) path) (sym (same_Some node named e)) there)
    by false named e path there = none-some named e
names_below path (inl (inr (inr staged))) = absurd (none-some path staged.there)
names_below path (inr candidate) = absurd (no_candidate path candidate)

directories : (tablet : TabletRecord) → IsRecord reading tablet → IsDirectoryBelow 5 tablet.dir
directories = of_five (λ tablet. IsDirectoryBelow 5 tablet.dir)
    (λ text e. absurd (let wrong : ◌≡◌ {A = ℕ} 114 116 = ap first_byte e in omega (arith, wrong)))
    (λ text e. absurd (let wrong : ◌≡◌ {A = ℕ} 97 45 = ap second_byte e in omega (arith, wrong)))
    (λ text e. absurd (let wrong : ◌≡◌ {A = ℕ} 100 116 = ap first_byte e in omega (arith, wrong)))
    (λ text e. (let number : base36_number text ≡ 3 = ap base36_number (sym (append_cancel_left (codes "t-") (codes "0000003") text e)) in omega (arith, number)))
    (λ text e. absurd (let wrong : ◌≡◌ {A = ℕ} 100 116 = ap first_byte e in omega (arith, wrong)))

-- ---- ids

tables_below : (id : List ℕ) (named : TableNode) → catalog.tables id ≡ Some named → base36_number id < 2
tables_below id named there =
    let at : id ≡ codes "1" = same-true id (codes "1") (cond_some (same id (codes "1")) node named there).0 in
    let number : base36_number id ≡ 1 = ap base36_number at in
    omega (arith, number)

records_below : (tablet : TabletRecord) → IsRecord reading tablet → IsUserTableId tablet.table → base36_number tablet.table < 2
records_below = of_five (λ tablet. IsUserTableId tablet.table → base36_number tablet.table < 2)
    (λ is. absurd (true_false is.each)) (λ is. absurd (true_false is.each)) (λ is. absurd (true_false is.each)) (λ is. lit< tt) (λ is. lit< tt)

-- the one mutation is the insert
insert_is : (name : List ℕ) (mutation : Mutation) → IsInSomeLog ground_of_example name mutation → insert ≡ mutation
insert_is name mutation is =
    let all : insert ∷ [] ≡ is.mutations = (cond_some (same name log) (insert ∷ []) is.mutations is.told).1 in
    lone insert mutation (subst (λ l. Contains l mutation) (sym all) is.there)

-- ---- sessions

session_below : (name : List ℕ) → session ≡ name → base16_number name < 2
session_below name is = let number : 1 ≡ base16_number name = ap base16_number is in omega (arith, number)

server_session : (name : List ℕ) → IsServerSession nodes name → session ≡ name
server_session name is =
    ap (λ (n : Node). n.value) (cond_some (eq_by_cmp bytes_cmp is.server (codes "a")) (record { value = session; version = 0 }) is.node (sym (get-from_entries nat_list_cmp_total entries (codes "/servers/" ++ is.server)) ∙ is.there)).1
    ∙ is.is

log_session : (name : List ℕ) → IsLogSession nodes name → session ≡ name
log_session name is = sym (same-true name session (sym (ties name session) ∙ (cond_some (eq_by_cmp bytes_cmp name session) log_node is.node (sym (log_at name) ∙ is.there)).0))

holders : (tablet : TabletRecord) → IsRecord reading tablet → (other : Holder) → (tablet.loc ≡ Some other) ⊎ (tablet.future ≡ Some other) → session ≡ other.session
holders = of_five (λ tablet. (other : Holder) → (tablet.loc ≡ Some other) ⊎ (tablet.future ≡ Some other) → session ≡ other.session) none none none one one
  where
    none : (other : Holder) → (None ≡ Some other) ⊎ (None ≡ Some other) → session ≡ other.session
    none other (inl e) = absurd (none-some other e)
    none other (inr e) = absurd (none-some other e)

    one : (other : Holder) → (Some holder ≡ Some other) ⊎ (None ≡ Some other) → session ≡ other.session
    one other (inl e) = ap (λ (h : Holder). h.session) (same_Some holder other e)
    one other (inr e) = absurd (none-some other e)

sessions_below : (name : List ℕ) → IsServerSession nodes name ⊎ IsLogSession nodes name ⊎ IsHolderSession reading name → base16_number name < 2
sessions_below name (inl is) = session_below name (server_session name is)
sessions_below name (inr (inl is)) = session_below name (log_session name is)
sessions_below name (inr (inr is)) = session_below name (holders is.tablet is.of is.holder is.there ∙ is.is)

logs_below : (name : List ℕ) → log ≡ name → (form : IsLogName name) → log_number form < 2
logs_below name is form = session_below form.session (append_cancel_left (codes "log-") session form.session (is ∙ form.is))

-- ---- tablets

logged : (table : List ℕ) (rows : Rows) (tablet : TabletRecord) (name : List ℕ) (mutation : Mutation) → IsChainTablet reading catalog table rows tablet → IsInSomeLog ground_of_example name mutation → IsPastBar table rows tablet mutation → Contains (logs_of tablet) name
logged table rows tablet name mutation of there past = subst (Contains (logs_of tablet)) (listed_is name there.listed) (by of.of)
  where
    table_is : codes "1" ≡ table
    table_is = ap (λ (m : Mutation). m.table) (insert_is name mutation there) ∙ past.of

    found : (other : Rows) → rows ≡ other → other tablet.end ≡ Some tablet
    found other same = ap (λ r. r tablet.end) (sym same) ∙ row_of rows None of.chain tablet of.is_chain of.there

    users : (id : List ℕ) → reading.users.records id tablet.end ≡ Some tablet → Contains (logs_of tablet) log
    users id at = elim (one_of_two low high tablet (row-there id (low ∷ high ∷ []) tablet.end tablet at).0) [
      | inl is ↦ subst (λ t. Contains (logs_of t) log) is (Contains-here log [])
      | inr is ↦ subst (λ t. Contains (logs_of t) log) is (Contains-here log [])
    ]

    by : AreRowsOf reading catalog table rows → Contains (logs_of tablet) log
    by (inl root) = absurd (let wrong : ◌≡◌ {A = ℕ} 49 43 = ap first_byte (table_is ∙ root.0) in omega (arith, wrong))
    by (inr (inl metadata)) = absurd (let wrong : ◌≡◌ {A = ℕ} 49 33 = ap first_byte (table_is ∙ metadata.0) in omega (arith, wrong))
    by (inr (inr user)) = users table (found (reading.users.records table) user.is)

early : (all : List Cell) → list_all (λ c. c.time == 1) all ≡ true → (file : FileEntry) (cells : List Cell) (cell : Cell) → file_cells ground_of_example file ≡ Some all → file_cells ground_of_example file ≡ Some cells → Contains cells cell → cell.time ≤ 1
early all first file cells cell is told there = let time = one_time cells cell (subst (λ l. list_all (λ c. c.time == 1) l ≡ true) (same_Some all cells (sym is ∙ told)) first) there in omega (arith, time)

removals : (tablet : TabletRecord) → IsRecord reading tablet → (file : FileEntry) (cells : List Cell) (cell : Cell) → Contains tablet.files file → file_cells ground_of_example file ≡ Some cells → Contains cells cell → cell.time ≤ tablet.time
removals = of_five (λ tablet. (file : FileEntry) (cells : List Cell) (cell : Cell) → Contains tablet.files file → file_cells ground_of_example file ≡ Some cells → Contains cells cell → cell.time ≤ tablet.time)
    (λ file cells cell named told there. early levels_cells refl file cells cell (subst (λ f. file_cells ground_of_example f ≡ Some levels_cells) (lone levels_entry file named) refl) told there)
    (λ file cells cell named told there. early tablets_cells refl file cells cell (subst (λ f. file_cells ground_of_example f ≡ Some tablets_cells) (lone tablets_entry file named) refl) told there)
    (λ file cells cell named told there. absurd (Contains-nil file named))
    (λ file cells cell named told there. absurd (Contains-nil file named))
    (λ file cells cell named told there. absurd (Contains-nil file named))

-- ---- kept

counter : ℕ → Node
counter number = record { value = decimal number; version = 0 }

pub kept : StandsAs reading catalog ground_of_example state → IsKeptAs reading catalog ground_of_example state
unfolding counter
kept stands = record {
  stands = stands;
  names = record { next = 5; counter = record { node = counter 5; there = get-from_entries nat_list_cmp_total entries next_name_path; value = record { is = refl; least = lit< tt; most = lit< tt } }; files = names_below; directories = directories };
  ids = record {
    next = 2;
    counter = record { node = counter 2; there = get-from_entries nat_list_cmp_total entries next_table_path; value = record { is = refl; least = lit< tt; most = lit< tt } };
    tables = tables_below;
    records = records_below;
    mutations = λ name mutation there user. (let number : 1 ≡ base36_number mutation.table = ap (λ (m : Mutation). base36_number m.table) (insert_is name mutation there) in omega (arith, number));
  };
  sessions = record {
    next = 2;
    counter = record { node = counter 2; there = get-from_entries nat_list_cmp_total entries next_session_path; value = record { is = refl; least = lit< tt; most = lit< tt } };
    sessions = sessions_below;
    logs = λ name used. logs_below name (log_used name used);
  };
  logged = logged;
  removals = λ table rows tablet file cells cell of named told there removed. removals tablet (chain_record reading catalog table rows tablet of) file cells cell named told there;
}
