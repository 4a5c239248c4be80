-- A new store stands for no tables and no files, and is kept.
use Rattle.std.proofs.Common.{◌≡◌, ◌⊎◌, inl, inr, ℕ, ◌<◌, ◌≤◌, ◌^◌, ◌==◌, true, false, codes, List, [], ◌∷◌, ◌++◌, length, Contains, Some, None, refl, sym, ◌∙◌, ap, subst, arith, lit<}
use Rattle.std.specs.Fmt.{decimal}
use Rattle.std.specs.FinMap.{get-empty}
use Rattle.std.specs.List.{list_all}
use Rattle.std.proofs.lemmas.Bool.{and_parts}
use Rattle.std.proofs.lemmas.Bool.Decides.{nat_tests}
use Rattle.std.proofs.lemmas.List.{append_cancel_right}
use Rattle.std.proofs.lemmas.Option.{same_Some, none-some}
use Rattle.row_keys.specs.Forms.{IsUserTableId}
use Rattle.row_keys.specs.RowOrder.{bytes_cmp}
use Rattle.plain_model.specs.State.{nothing}
use Rattle.metadata_schema.specs.declared.tablet.FileEntry.{FileEntry}
use Rattle.metadata_schema.specs.declared.tablet.Holder.{Holder}
use Rattle.metadata_schema.specs.declared.tablet.TabletRecord.{TabletRecord}
use Rattle.metadata_schema.specs.Paths.{IsFilePath}
use Rattle.metadata_schema.proofs.LawsLemmas.{same_parts}
use Rattle.cell_merge.specs.declared.cell.Cell.{Cell}
use Rattle.cell_merge.specs.Newest.{HaveRisingKeys}
use Rattle.data_files.specs.Files.{spelled_file}
use Rattle.level_rows.proofs.LookupLemmas.{row-there}
use Rattle.level_rows.proofs.Membership.{Contains-nil, Contains-cons_cases}
use Rattle.node_store.specs.Nodes.{Nodes}
use Rattle.store_layout.specs.Names.{file_of}
use Rattle.store_layout.specs.Nodes.{root_value}
use Rattle.store_layout.specs.NewStore.{table_info, last_metadata, first_cells, first_root, root_file_path}
use Rattle.store_layout.specs.Numbers.{base36_number, name_number, IsDirectoryBelow}
use Rattle.store_layout.specs.Tables.{IsCatalogOf, no_tables}
use Rattle.store_meaning.specs.Content.{file_cells}
use Rattle.store_meaning.specs.InUse.{IsRecord}
use Rattle.store_meaning.specs.Readable.{IsReadAs}
use Rattle.store_meaning.specs.Marked.{IsFileCounted}
use Rattle.store_meaning.specs.Stands.{StandsAs}
use Rattle.store_meaning.specs.Kept.{IsCandidate, IsServerSession, IsLogSession, IsHolderSession, IsKeptAs}
use Rattle.store_meaning.proofs.NewNodes.{HasFirstNodes, HasFirstCounters, fresh}
use Rattle.store_meaning.proofs.NewLevel.{FormsNew, one_of}
use Rattle.store_meaning.proofs.NewStoreLemmas.{root_entry, root_path_form, root_file_only, new_ground, new_reading, new_reading_is, new_in_use, new_lists, new_root_consistent, new_metadata_consistent, no_list, no_log}
use Rattle.store_meaning.proofs.CountedLemmas.{chain_record}

-- its records are the root tablet's and those of the two metadata tablets
three : (tablet : TabletRecord) → IsRecord new_reading tablet → (first_root ≡ tablet) ⊎ (table_info ≡ tablet) ⊎ (last_metadata ≡ tablet)
three tablet (inl is) = inl is
three tablet (inr (inl of)) = elim (one_of tablet (row-there of.table (table_info ∷ last_metadata ∷ []) of.end tablet of.there).0) [ inl is ↦ inr (inl is) | inr is ↦ inr (inr is) ]
three tablet (inr (inr of)) = absurd (none-some tablet of.there)

-- what holds of these three holds of all records
of_all : (P : TabletRecord → Type 0) → P first_root → P table_info → P last_metadata → (tablet : TabletRecord) → IsRecord new_reading tablet → P tablet
of_all P one two three_ tablet is = elim (three tablet is) [
  | inl root ↦ subst P root one
  | inr more ↦ elim more [ inl info ↦ subst P info two | inr last ↦ subst P last three_ ]
]

-- ---- numbers

pub true_false : false ≡ true → ⊥
true_false e = cc

-- a path has one number
pub one_number : (path : List ℕ) (form known : IsFilePath path) → name_number form ≡ name_number known
one_number path form known =
    let same = same_parts form.id form.dir form.name known.id known.dir known.name form.parts known.parts (sym form.is ∙ known.is) in
    let name : form.parts.is_name.kind ∷ form.parts.is_name.text ++ codes ".rf" ≡ known.parts.is_name.kind ∷ known.parts.is_name.text ++ codes ".rf" = sym form.parts.is_name.is ∙ same.2 ∙ known.parts.is_name.is in
    ap base36_number (append_cancel_right form.parts.is_name.text known.parts.is_name.text (codes ".rf") cc)

-- the name of the root tablet's file was the first one drawn
root_number : (form : IsFilePath root_file_path) → name_number form < 2
root_number form = let number : name_number form ≡ 1 = one_number root_file_path form root_path_form in omega (arith, number)

abbrev pub first_byte : List ℕ → ℕ
first_byte [] = 0
first_byte (b ∷ more) = b

abbrev pub second_byte : List ℕ → ℕ
second_byte [] = 0
second_byte (b ∷ more) = first_byte more

directories : (tablet : TabletRecord) → IsRecord new_reading tablet → IsDirectoryBelow 2 tablet.dir
directories = of_all (λ tablet. IsDirectoryBelow 2 tablet.dir)
    (λ text e. absurd (let wrong : ◌≡◌ {A = ℕ} 114 116 = ap first_byte e in omega (arith, wrong)))
    (λ text e. absurd (let wrong : ◌≡◌ {A = ℕ} 97 45 = ap second_byte e in omega (arith, wrong)))
    (λ text e. absurd (let wrong : ◌≡◌ {A = ℕ} 100 116 = ap first_byte e in omega (arith, wrong)))

no_user : (tablet : TabletRecord) → IsRecord new_reading tablet → IsUserTableId tablet.table → ⊥
no_user = of_all (λ tablet. IsUserTableId tablet.table → ⊥) (λ is. true_false is.each) (λ is. true_false is.each) (λ is. true_false is.each)

no_holder : (tablet : TabletRecord) → IsRecord new_reading tablet → (holder : Holder) → (tablet.loc ≡ Some holder) ⊎ (tablet.future ≡ Some holder) → ⊥
no_holder = of_all (λ tablet. (holder : Holder) → (tablet.loc ≡ Some holder) ⊎ (tablet.future ≡ Some holder) → ⊥) none none none
  where
    none : (holder : Holder) → (None ≡ Some holder) ⊎ (None ≡ Some holder) → ⊥
    none holder (inl e) = none-some holder e
    none holder (inr e) = none-some holder e

-- ---- removals

pub one_time : (cells : List Cell) (cell : Cell) → list_all (λ c. c.time == 1) cells ≡ true → Contains cells cell → cell.time ≡ 1
one_time [] cell all there = absurd (Contains-nil cell there)
one_time (c ∷ cells) cell all there =
    let parts = and_parts (c.time == 1) (list_all (λ d. d.time == 1) cells) all in
    elim (Contains-cons_cases c cell cells there) [
      | inl is ↦ ap (λ (d : Cell). d.time) (sym is) ∙ tested c.time parts.0
      | inr rest ↦ one_time cells cell parts.1 rest
    ]
  where
    tested : (time : ℕ) → (time == 1) ≡ true → time ≡ 1
    tested time is = grind (arith, nat_tests)

module _ (nodes : Nodes) (has : HasFirstNodes (root_value first_root) nodes) (counters : HasFirstCounters (decimal 1) (decimal 2) (decimal 1) nodes) where
  root_removals : (file : FileEntry) (cells : List Cell) (cell : Cell) → Contains first_root.files file → file_cells (new_ground nodes) file ≡ Some cells → Contains cells cell → cell.time ≤ 1
  root_removals file cells cell named told there = elim (Contains-cons_cases root_entry file [] named) [
    | inl is ↦
        let all : first_cells ≡ cells = same_Some first_cells cells (subst (λ f. file_cells (new_ground nodes) f ≡ Some cells) (sym is) told) in
        let time = one_time first_cells cell refl (subst (λ l. Contains l cell) (sym all) there) in
        omega (arith, time)
    | inr none ↦ absurd (Contains-nil file none)
  ]

  removals : (tablet : TabletRecord) → IsRecord new_reading tablet → (file : FileEntry) (cells : List Cell) (cell : Cell) → Contains tablet.files file → file_cells (new_ground nodes) file ≡ Some cells → Contains cells cell → cell.time ≤ tablet.time
  removals = of_all (λ tablet. (file : FileEntry) (cells : List Cell) (cell : Cell) → Contains tablet.files file → file_cells (new_ground nodes) file ≡ Some cells → Contains cells cell → cell.time ≤ tablet.time)
      root_removals
      (λ file cells cell named told there. absurd (Contains-nil file named))
      (λ file cells cell named told there. absurd (Contains-nil file named))

  -- ---- the state

  new_catalog : IsCatalogOf nodes no_tables
  new_catalog = record { tables = counters.no_tables; staged = counters.no_staged }

  pub new_stands : IsReadAs new_reading (new_ground nodes) → StandsAs new_reading no_tables (new_ground nodes) nothing
  new_stands read = record {
    read = read;
    nodes = new_catalog;
    marked = λ path marked. absurd (none-some marked.table marked.there);
    tables = λ id. get-empty bytes_cmp id;
    staged = λ name. get-empty bytes_cmp name;
    names = record { apart = λ id other table another one two same. absurd (none-some table (sym (get-empty bytes_cmp id) ∙ one)) };
  }

  -- ---- kept

  no_candidate : (path : List ℕ) → IsCandidate nodes new_reading path → ⊥
  no_candidate path (inl is) = true_false is
  no_candidate path (inr (inl is)) = true_false is
  no_candidate path (inr (inr listed)) = none-some listed.node (sym (counters.no_candidates (file_of path)) ∙ listed.there)

  root_file_counts : (path : List ℕ) → IsFileCounted new_reading no_tables path ⊎ IsCandidate nodes new_reading path → root_file_path ≡ path
  root_file_counts path (inl (inl (inl named))) = root_file_only named.tablet named.of named.file named.there ∙ named.is
  root_file_counts path (inl (inl (inr (inl flagged)))) = absurd (none-some flagged.flag flagged.is)
  root_file_counts path (inl (inl (inr (inr flagged)))) = absurd (none-some flagged.flag flagged.is)
  root_file_counts path (inl (inr (inl marked))) = absurd (none-some marked.table marked.there)
  root_file_counts path (inl (inr (inr staged))) = absurd (none-some path staged.there)
  root_file_counts path (inr candidate) = absurd (no_candidate path candidate)

  no_session : (session : List ℕ) → IsServerSession nodes session ⊎ IsLogSession nodes session ⊎ IsHolderSession new_reading session → ⊥
  no_session session (inl is) = none-some is.node (sym (counters.no_servers is.server) ∙ is.there)
  no_session session (inr (inl is)) = none-some is.node (sym (has.no_logs session) ∙ is.there)
  no_session session (inr (inr is)) = no_holder is.tablet is.of is.holder is.there

  pub new_kept : IsReadAs new_reading (new_ground nodes) → IsKeptAs new_reading no_tables (new_ground nodes) nothing
  new_kept read = record {
    stands = new_stands read;
    names = record {
      next = 2;
      counter = record { node = fresh (decimal 2); there = counters.name_is; value = record { is = refl; least = lit< tt; most = lit< tt } };
      files = λ path used. subst (λ p. (form : IsFilePath p) → name_number form < 2) (root_file_counts path used) root_number;
      directories = directories;
    };
    ids = record {
      next = 1;
      counter = record { node = fresh (decimal 1); there = counters.table_is; value = record { is = refl; least = lit< tt; most = lit< tt } };
      tables = λ id node there. absurd (none-some node there);
      records = λ tablet of user. absurd (no_user tablet of user);
      mutations = λ log mutation there. absurd (no_list nodes has log there.listed);
    };
    sessions = record {
      next = 1;
      counter = record { node = fresh (decimal 1); there = counters.session_is; value = record { is = refl; least = lit< tt; most = lit< tt } };
      sessions = λ session used. absurd (no_session session used);
      logs = λ log used. absurd (no_log nodes has log used);
    };
    logged = λ table rows tablet log mutation of there past. absurd (no_list nodes has log there.listed);
    removals = λ table rows tablet file cells cell of named told there removed. removals tablet (chain_record new_reading no_tables table rows tablet of) file cells cell named told there;
  }

-- ---- read

pub new_read : FormsNew → (nodes : Nodes) → HasFirstNodes (root_value first_root) nodes → length (spelled_file first_cells) < 2 ^ 64 → HaveRisingKeys first_cells → IsReadAs new_reading (new_ground nodes)
new_read forms nodes has small rising = record {
  levels = new_reading_is forms nodes has small;
  in_use = new_in_use nodes has;
  logs = new_lists nodes has;
  root = new_root_consistent nodes rising;
  metadata = new_metadata_consistent nodes;
}
