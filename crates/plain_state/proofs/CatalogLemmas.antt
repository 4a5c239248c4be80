-- The catalog of the tables and staged files that nodes tell of.
use Rattle.std.proofs.Common.{◌≡◌, inl, inr, ℕ, ◌<◌, true, List, [], ◌∷◌, ◌++◌, length, take, get_or, codes, Contains, map as mapped, Option, Some, None, is_some, refl, sym, ◌∙◌, ap, subst}
use Rattle.std.specs.Prelude.{find}
use Rattle.std.specs.FinMap as map
use Rattle.std.specs.Option.{option_map}
use Rattle.std.proofs.lemmas.Bool.{false≢true}
use Rattle.std.proofs.lemmas.Option.{none-some, same_Some}
use Rattle.std.proofs.lemmas.List.{length-map, get_or-map, take-map}
use Rattle.std.proofs.lemmas.List.Elements.{All-contains, Contains-append_cases}
use Rattle.metadata_schema.specs.Bytes.{same}
use Rattle.level_rows.proofs.EndLemmas.{same-true, same-itself}
use Rattle.level_rows.proofs.LookupLemmas.{find-there, find-some}
use Rattle.level_rows.proofs.Membership.{Contains-nil}
use Rattle.node_store.specs.declared.changes.Node.{Node}
use Rattle.node_store.specs.Nodes.{Nodes}
use Rattle.store_layout.specs.declared.tables.TableNode.{TableNode}
use Rattle.store_layout.specs.Tables.{table_path, staged_path, IsTableAt, IsStagedAt, TellsTable, TellsStaged, Catalog, IsCatalogOf}
use Rattle.store_meaning.specs.Ground.{Ground}
use Rattle.store_meaning.specs.Marked.{IsMarkedFile, mark_paths}
use Rattle.store_meaning.specs.Readable.{IsTold as IsToldOf}
use Rattle.table_names.specs.Tables.{IsTold}
use Rattle.table_names.proofs.ListLemmas.{Contains-map, same_id, same_table}
use Rattle.state_reader.proofs.RowLists.{last_is}
use Rattle.plain_state.specs.Paths.{paths_behind}
use Rattle.plain_state.specs.Records.{ArePathsTold}
use Rattle.plain_state.specs.Catalogs.{AreAllTables, AreAllFiles, table_of, file_of, path_of, catalog_of, HasByteBounds, AreMarksTold}
use Rattle.plain_state.proofs.ListLemmas.{none_unless, Contains-in_map}
use Rattle.plain_state.proofs.PathLemmas.{among_behind, behind_once}

-- ---- tables

pub table_found : (tables : List TableNode) (id : List ℕ) (table : TableNode) → table_of tables id ≡ Some table → Contains tables table × (table.id ≡ id)
table_found tables id table e = let r = find-there (λ (t : TableNode). same t.id id) tables table e in (r.0, same-true table.id id r.1)

pub table_none : (tables : List TableNode) (id : List ℕ) (table : TableNode) → table_of tables id ≡ None → Contains tables table → table.id ≡ id → ⊥
table_none tables id table none there is =
    false≢true (sym (ap is_some none) ∙ find-some (λ (t : TableNode). same t.id id) tables table there (same-itself table.id id is))

module _ (nodes : Nodes) (tables : List TableNode) (are : AreAllTables nodes tables) where
  told : (table : TableNode) → Contains tables table → IsTold nodes table.id table
  told table there = All-contains (λ (t : TableNode). IsTold nodes t.id t) tables table are.told there

  pub table_at : (table : TableNode) → Contains tables table → IsTableAt nodes table.id table
  table_at table there = (told table there).at

  listed : (id : List ℕ) (node : Node) → map.get nodes (table_path id) ≡ Some node → (table : TableNode) × Contains tables table × (table.id ≡ id)
  listed id node there =
      let among = among_behind (codes "/tables/") id nodes node there in
      let found = Contains-map (λ (t : TableNode). table_path t.id) tables (table_path id) (subst (λ ps. Contains ps (table_path id)) (sym are.are) among) in
      (found.0, found.1, same_id found.0.id id found.2)

  pub tells_table : (id : List ℕ) → TellsTable nodes id (table_of tables id)
  tells_table id = by (table_of tables id) refl
    where
      by : (o : Option TableNode) → table_of tables id ≡ o → TellsTable nodes id o
      by None e = none_unless (map.get nodes (table_path id)) (λ node there. (let one = listed id node there in table_none tables id one.0 e one.1 one.2))
      by (Some table) e = let r = table_found tables id table e in subst (λ i. IsTableAt nodes i table) r.1 (table_at table r.0)

  pub byte_bounds : (files : List (List ℕ × List ℕ)) → HasByteBounds (catalog_of tables files)
  byte_bounds files = record { each = λ id table e. (told table (table_found tables id table e).0).bytes }

  -- no table stands twice
  pub table_once : (i : ℕ) (table : TableNode) → i < length tables → table ≡ get_or tables i table → table_of (take i tables) table.id ≡ None
  table_once i table lt at = none_unless (table_of (take i tables) table.id) (λ other e. by other (table_found (take i tables) table.id other e))
    where
      paths : List (List ℕ)
      paths = mapped (λ (t : TableNode). table_path t.id) tables

      within : i < length paths
      within = subst (λ n. i < n) (sym (length-map tables (λ (t : TableNode). table_path t.id))) lt

      at_path : table_path table.id ≡ get_or paths i (table_path table.id)
      at_path = ap (λ (t : TableNode). table_path t.id) at ∙ sym (get_or-map (λ (t : TableNode). table_path t.id) tables i table (table_path table.id) lt)

      among : (other : TableNode) → Contains (take i tables) other → other.id ≡ table.id → Contains (take i paths) (table_path table.id)
      among other there same_ids = subst (Contains (take i paths)) (ap table_path same_ids)
          (subst (λ l. Contains l (table_path other.id)) (sym (take-map (λ (t : TableNode). table_path t.id) i tables)) (Contains-in_map (λ (t : TableNode). table_path t.id) (take i tables) other there))

      by : (other : TableNode) → Contains (take i tables) other × (other.id ≡ table.id) → ⊥
      by other found =
          behind_once (codes "/tables/") nodes i (table_path table.id) (subst (λ l. i < length l) are.are within) (subst (λ l. table_path table.id ≡ get_or l i (table_path table.id)) are.are at_path)
          (subst (λ l. Contains (take i l) (table_path table.id)) are.are (among other found.0 found.1))

-- ---- staged files

file_found : (files : List (List ℕ × List ℕ)) (name : List ℕ) (file : List ℕ × List ℕ) → file_of files name ≡ Some file → Contains files file × (file.0 ≡ name)
file_found files name file e = let r = find-there (λ (f : List ℕ × List ℕ). same f.0 name) files file e in (r.0, same-true file.0 name r.1)

file_none : (files : List (List ℕ × List ℕ)) (name : List ℕ) (file : List ℕ × List ℕ) → file_of files name ≡ None → Contains files file → file.0 ≡ name → ⊥
file_none files name file none there is =
    false≢true (sym (ap is_some none) ∙ find-some (λ (f : List ℕ × List ℕ). same f.0 name) files file there (same-itself file.0 name is))

same_name : (one other : List ℕ) → staged_path one ≡ staged_path other → one ≡ other
same_name one other is = cc

module _ (nodes : Nodes) (files : List (List ℕ × List ℕ)) (are : AreAllFiles nodes files) where
  pub file_at : (file : List ℕ × List ℕ) → Contains files file → IsStagedAt nodes file.0 file.1
  file_at file there = All-contains (λ (f : List ℕ × List ℕ). IsStagedAt nodes f.0 f.1) files file are.told there

  staged : (name : List ℕ) (node : Node) → map.get nodes (staged_path name) ≡ Some node → (file : List ℕ × List ℕ) × Contains files file × (file.0 ≡ name)
  staged name node there =
      let among = among_behind (codes "/staged/") name nodes node there in
      let found = Contains-map (λ (f : List ℕ × List ℕ). staged_path f.0) files (staged_path name) (subst (λ ps. Contains ps (staged_path name)) (sym are.are) among) in
      (found.0, found.1, same_name found.0.0 name found.2)

  pub tells_staged : (name : List ℕ) → TellsStaged nodes name (path_of files name)
  tells_staged name = by (file_of files name) refl
    where
      by : (o : Option (List ℕ × List ℕ)) → file_of files name ≡ o → TellsStaged nodes name (option_map (λ (f : List ℕ × List ℕ). f.1) o)
      by None e = none_unless (map.get nodes (staged_path name)) (λ node there. (let one = staged name node there in file_none files name one.0 e one.1 one.2))
      by (Some file) e = let r = file_found files name file e in subst (λ n. IsStagedAt nodes n file.1) r.1 (file_at file r.0)

-- ---- both

pub is_catalog : (nodes : Nodes) (tables : List TableNode) (files : List (List ℕ × List ℕ)) → AreAllTables nodes tables → AreAllFiles nodes files → IsCatalogOf nodes (catalog_of tables files)
is_catalog nodes tables files are stand = record { tables = tells_table nodes tables are; staged = tells_staged nodes files stand }

-- a file that a mark names is told
pub marked_told : (known : Ground) (tables : List TableNode) (files : List (List ℕ × List ℕ)) → AreMarksTold known tables → (path : List ℕ) → IsMarkedFile (catalog_of tables files) path → IsToldOf (known.cells_of path)
marked_told known tables files told path is = (told.each is.table (table_found tables is.id is.table is.there).0).each path is.marked

pub marks_none : (known : Ground) → AreMarksTold known []
marks_none known = record { each = λ table there. absurd (Contains-nil table there) }

pub marks_more : (known : Ground) (tables : List TableNode) (table : TableNode) → AreMarksTold known tables → ArePathsTold known (mark_paths table.mark) → AreMarksTold known (tables ++ table ∷ [])
marks_more known tables table told here = record {
  each = λ other there. (elim (Contains-append_cases tables (table ∷ []) other there) [
    | inl front ↦ told.each other front
    | inr last ↦ subst (λ (t : TableNode). ArePathsTold known (mark_paths t.mark)) (last_is table other last) here
  ]);
}
