-- A new store as a ground, and what is read of it.
use Rattle.std.proofs.Common.{◌≡◌, inl, inr, ℕ, ◌<◌, ◌^◌, true, false, cond, codes, List, [], ◌∷◌, length, Contains, Some, None, refl, sym, ◌∙◌, ap, subst, arith, lit<, lit≤}
use Rattle.std.proofs.lemmas.Option.{same_Some, none-some, cond_some}
use Rattle.std.proofs.lemmas.List.Elements.{All-nil, All-cons}
use Rattle.host_model.specs.Picture.{Image}
use Rattle.row_keys.specs.Forms.{IsLogName}
use Rattle.metadata_schema.specs.declared.tablet.FileEntry.{FileEntry}
use Rattle.metadata_schema.specs.declared.tablet.TabletRecord.{TabletRecord}
use Rattle.metadata_schema.specs.Bytes.{same}
use Rattle.metadata_schema.specs.Paths.{IsFilePath}
use Rattle.metadata_schema.specs.Records.{IsFile, IsLoaded, IsWellFormed}
use Rattle.cell_merge.specs.declared.cell.Cell.{Cell}
use Rattle.cell_merge.specs.Newest.{HaveRisingKeys, latest}
use Rattle.cell_merge.specs.Changes.{AreConsistent}
use Rattle.cell_merge.proofs.MergedLemmas.{latest-rising}
use Rattle.level_rows.proofs.EndLemmas.{same-true, same-refl}
use Rattle.level_rows.proofs.LookupLemmas.{row-there}
use Rattle.level_rows.proofs.Membership.{Contains-nil, Contains-cons_cases}
use Rattle.node_store.specs.Nodes.{Nodes}
use Rattle.node_store.specs.Image.{HasNodes}
use Rattle.data_files.specs.Files.{HoldsCells, spelled_file}
use Rattle.store_layout.specs.Names.{nodes_name, file_of}
use Rattle.store_layout.specs.Nodes.{root_value}
use Rattle.store_layout.specs.NewStore.{table_info, last_metadata, first_cells, first_root, root_file_path, root_file}
use Rattle.store_meaning.specs.Ground.{Ground, IsGroundOf}
use Rattle.store_meaning.specs.Content.{logs_of, tablet_content}
use Rattle.store_meaning.specs.Levels.{Reading, IsReadingOf, root_rows, metadata_rows}
use Rattle.store_meaning.specs.InUse.{IsRecord, IsFileInUse, IsLogInUse, IsNamedLog, IsListedLog, IsListedSorted}
use Rattle.store_meaning.specs.Readable.{IsTold, HasAllInUse, ListsLogs, HaveConsistentTablets}
use Rattle.store_meaning.proofs.NewNodes.{HasFirstNodes}
use Rattle.store_meaning.proofs.NewLevel.{new_level, no_level, one_of, FormsNew, new_level_is}

-- ---- the root tablet

abbrev pub root_path_form : IsFilePath root_file_path
root_path_form = record {
  id = codes "+r";
  dir = codes "root_tablet";
  name = codes "A0000001.rf";
  parts = record {
    is_id = inl refl;
    is_dir = inl refl;
    is_name = record {
      kind = 65;
      text = codes "0000001";
      is_kind = refl;
      drawn = record {
        form = record { least = lit≤ tt; most = lit≤ tt; each = refl };
        plain = λ rest e. (let lengths : 7 ≡ length (48 ∷ rest) = ap (length {A = ℕ}) e in omega (arith, lengths));
      };
      is = refl;
    };
  };
  is = refl;
}

abbrev pub root_entry : FileEntry
root_entry = record { path = root_file_path; size = length (spelled_file first_cells); entries = length first_cells; time = None }

root_form : length (spelled_file first_cells) < 2 ^ 64 → IsWellFormed first_root
root_form small = record {
  order = record { files = refl; logs = refl; loaded = refl };
  dir = inl refl;
  bar = lit< tt;
  prev = tt;
  old_prev = tt;
  merged = tt;
  loc = tt;
  future = tt;
  files = All-cons IsFile root_entry [] (record { path = root_path_form; facts = record { small_size = small; few_entries = lit< tt; small_time = tt } }) (All-nil IsFile);
  logs = All-nil IsLogName;
  loaded = All-nil IsLoaded;
}

-- ---- the ground and its reading

abbrev pub new_ground : Nodes → Ground
new_ground nodes = record { nodes = nodes; cells_of = λ path. cond (same path root_file_path) (Some first_cells) None; mutations_of = λ log. None; sorted_of = λ log. None }

pub new_ground_is : (image : Image) (nodes : Nodes) → HasNodes nodes_name image nodes → HoldsCells root_file first_cells image → IsGroundOf image (new_ground nodes)
new_ground_is image nodes has holds = record {
  nodes = has;
  cells = λ path cells at. (
      let p = cond_some (same path root_file_path) first_cells cells at in
      let is : root_file_path ≡ path = sym (same-true path root_file_path p.0) in
      record { form = subst IsFilePath is root_path_form; holds = subst (λ f. HoldsCells (file_of f) cells image) is (subst (λ l. HoldsCells root_file l image) p.1 holds) });
  mutations = λ log mutations at. absurd (none-some mutations at);
  sorted = λ log mutations at. absurd (none-some mutations at);
}

abbrev pub new_reading : Reading
new_reading = record { root = first_root; root_cells = first_cells; metadata = new_level; chain = last_metadata ∷ table_info ∷ []; metadata_cells = []; users = no_level }

pub new_reading_is : FormsNew → (nodes : Nodes) → HasFirstNodes (root_value first_root) nodes → length (spelled_file first_cells) < 2 ^ 64 → IsReadingOf (new_ground nodes) new_reading
new_reading_is forms nodes has small = record {
  root = record { node = record { value = root_value first_root; version = 0 }; there = has.root_is; value = refl; at = record { name = record { id = inl refl; short = tt }; table_is = refl; end_is = refl; form = root_form small } };
  root_chain = (refl, refl, refl);
  root_content = refl;
  metadata = new_level_is forms;
  chain = (refl, refl, (tt, (refl, refl, refl)));
  content = refl;
  users = record {
    records = λ table end of name. record { each = λ family qualifier. refl };
    own_tables = λ table end tablet e. absurd (none-some tablet e);
    forms = λ table end tablet e. absurd (none-some tablet e);
    candidates = λ path. record { each = λ family qualifier. refl };
    candidate_paths = λ path e. absurd (let wrong : false ≡ true = e in cc);
    flags = λ path. record { each = λ family qualifier. refl };
    flag_forms = λ path flag e. absurd (none-some flag e);
  };
}

-- ---- what is in use

pub root_file_only : (tablet : TabletRecord) → IsRecord new_reading tablet → (file : FileEntry) → Contains tablet.files file → root_file_path ≡ file.path
root_file_only tablet (inl is) file there = elim (Contains-cons_cases root_entry file [] (subst (λ t. Contains t.files file) (sym is) there)) [
  | inl one ↦ ap (λ f. f.path) one
  | inr none ↦ absurd (Contains-nil file none)
]
root_file_only tablet (inr (inl of)) file there = elim (one_of tablet (row-there of.table (table_info ∷ last_metadata ∷ []) of.end tablet of.there).0) [
  | inl is ↦ absurd (Contains-nil file (subst (λ t. Contains t.files file) (sym is) there))
  | inr is ↦ absurd (Contains-nil file (subst (λ t. Contains t.files file) (sym is) there))
]
root_file_only tablet (inr (inr of)) file there = absurd (none-some tablet of.there)

no_named_log : (log : List ℕ) → IsNamedLog new_reading log → ⊥
no_named_log log named = by named.of
  where
    by : IsRecord new_reading named.tablet → ⊥
    by (inl is) = Contains-nil log (subst (λ t. Contains (logs_of t) log) (sym is) named.there)
    by (inr (inl of)) = elim (one_of named.tablet (row-there of.table (table_info ∷ last_metadata ∷ []) of.end named.tablet of.there).0) [
      | inl is ↦ Contains-nil log (subst (λ t. Contains (logs_of t) log) (sym is) named.there)
      | inr is ↦ Contains-nil log (subst (λ t. Contains (logs_of t) log) (sym is) named.there)
    ]
    by (inr (inr of)) = none-some named.tablet of.there

module _ (nodes : Nodes) (has : HasFirstNodes (root_value first_root) nodes) where
  pub no_list : (log : List ℕ) → IsListedLog nodes log → ⊥
  no_list log listed = none-some listed.node (sym (has.no_logs listed.session) ∙ listed.there)

  no_sorted : (log : List ℕ) → IsListedSorted nodes log → ⊥
  no_sorted log sorted = none-some sorted.node (sym (has.no_sorted log) ∙ sorted.there)

  pub no_log : (log : List ℕ) → IsLogInUse nodes new_reading log → ⊥
  no_log log (inl named) = no_named_log log named
  no_log log (inr (inl listed)) = no_list log listed
  no_log log (inr (inr sorted)) = no_sorted log sorted

  file_told : (path : List ℕ) → IsFileInUse new_reading path → IsTold ((new_ground nodes).cells_of path)
  file_told path (inl named) =
      let is : root_file_path ≡ path = root_file_only named.tablet named.of named.file named.there ∙ named.is in
      record { value = first_cells; is = ap (λ b. cond b (Some first_cells) None) (ap (λ p. same p root_file_path) (sym is) ∙ same-refl root_file_path) }
  file_told path (inr (inl flagged)) = absurd (none-some flagged.flag flagged.is)
  file_told path (inr (inr flagged)) = absurd (none-some flagged.flag flagged.is)

  pub new_in_use : HasAllInUse (new_ground nodes) new_reading
  new_in_use = record {
    files = file_told;
    logs = λ log used. absurd (no_log log used);
    sorted = λ log used. absurd (no_sorted log used);
  }

  pub new_lists : ListsLogs (new_ground nodes) new_reading
  new_lists = record { named = λ log named. absurd (no_named_log log named); sorted = λ log used. absurd (no_sorted log used) }

-- ---- the cells of its tablets

pub consistent : (cells : List Cell) → HaveRisingKeys cells → AreConsistent cells
consistent cells rising = record { one = λ a b p q key time. same_Some a b (sym (latest-rising cells a rising p) ∙ ap (latest cells) key ∙ latest-rising cells b rising q) }

pub none_consistent : AreConsistent []
none_consistent = record { one = λ a b p q key time. absurd (Contains-nil a p) }

pub new_root_consistent : (nodes : Nodes) → HaveRisingKeys first_cells → HaveConsistentTablets (new_ground nodes) (root_rows new_reading) (first_root ∷ [])
new_root_consistent nodes rising tablet cells there is = elim (Contains-cons_cases first_root tablet [] there) [
  | inl one ↦ subst AreConsistent (same_Some first_cells cells (subst (λ t. tablet_content (new_ground nodes) (root_rows new_reading) t ≡ Some cells) (sym one) is)) (consistent first_cells rising)
  | inr none ↦ absurd (Contains-nil tablet none)
]

pub new_metadata_consistent : (nodes : Nodes) → HaveConsistentTablets (new_ground nodes) (metadata_rows new_reading) (last_metadata ∷ table_info ∷ [])
new_metadata_consistent nodes tablet cells there is = elim (Contains-cons_cases last_metadata tablet (table_info ∷ []) there) [
  | inl one ↦ subst AreConsistent (same_Some [] cells (subst (λ t. tablet_content (new_ground nodes) (metadata_rows new_reading) t ≡ Some cells) (sym one) is)) none_consistent
  | inr rest ↦ elim (Contains-cons_cases table_info tablet [] rest) [
    | inl one ↦ subst AreConsistent (same_Some [] cells (subst (λ t. tablet_content (new_ground nodes) (metadata_rows new_reading) t ≡ Some cells) (sym one) is)) none_consistent
    | inr none ↦ absurd (Contains-nil tablet none)
  ]
]
