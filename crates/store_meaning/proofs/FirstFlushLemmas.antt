-- The first flush of a user table's tablet in a new store.
use Rattle.std.proofs.Common.{◌≡◌, inl, inr, ℕ, true, codes, List, [], ◌∷◌, ◌++◌, map, filter, length, Contains, Some, None, refl, sym, ◌∙◌, ap, subst, arith, lit≤, lit<}
use Rattle.std.specs.List.{flat_map}
use Rattle.std.specs.Option.{option_map}
use Rattle.std.specs.List.Sorted.{IsStrictlySortedBy}
use Rattle.row_keys.specs.Keys.{key_cmp}
use Rattle.std.proofs.lemmas.Option.{same_Some}
use Rattle.std.proofs.lemmas.List.Elements.{All-nil, All-cons, Contains-append_cases}
use Rattle.host_model.specs.Picture.{Image}
use Rattle.row_keys.specs.MetadataRow.{metadata_row}
use Rattle.metadata_schema.specs.declared.mutation.Mutation.{Mutation}
use Rattle.metadata_schema.specs.declared.mutation.Update.{Update}
use Rattle.metadata_schema.specs.declared.tablet.FileEntry.{FileEntry}
use Rattle.metadata_schema.specs.declared.tablet.Holder.{Holder}
use Rattle.metadata_schema.specs.declared.tablet.TabletRecord.{TabletRecord}
use Rattle.metadata_schema.specs.Between.{LeadsBetween}
use Rattle.metadata_schema.specs.Bytes.{same}
use Rattle.metadata_schema.specs.Paths.{IsFilePath}
use Rattle.metadata_schema.specs.Records.{IsFile, IsHolder, IsWellFormed}
use Rattle.cell_merge.specs.declared.cell.Cell.{Cell}
use Rattle.cell_merge.specs.Newest.{clipped, latest, is_kept}
use Rattle.cell_merge.proofs.LatestLemmas.{latest-some}
use Rattle.level_rows.proofs.Membership.{Contains-nil, Contains-here, Contains-there, Contains-cons_cases, Contains-filter}
use Rattle.store_layout.specs.NewStore.{IsNewStore, last_metadata}
use Rattle.store_meaning.specs.Ground.{Ground, with_cells}
use Rattle.store_meaning.specs.Content.{both_told, cells_of_mutation, counts_for, log_of_holder, content_of}
use Rattle.store_meaning.specs.Levels.{record_columns, metadata_id}
use Rattle.store_meaning.specs.InUse.{IsListedLog}
use Rattle.store_meaning.specs.Readable.{IsTold}
use Rattle.store_meaning.specs.Writes.{appended}
use Rattle.store_meaning.specs.RowWrites.{RecordRow, RowWrite}
use Rattle.store_meaning.specs.ChainWrites.{RewritesUserTablet}
use Rattle.store_meaning.specs.Flushes.{Flushes}
use Rattle.store_meaning.specs.FirstWrites.{WritesFirst}
use Rattle.store_meaning.proofs.NewLevel.{FormsNew}
use Rattle.store_meaning.proofs.LeadLemmas.{record_lead}
use Rattle.store_meaning.proofs.FirstHolder.{log_named, held_nodes, held_unsorted, held_listed}
use Rattle.row_keys.specs.RowOrder.{is_within}
use Rattle.store_meaning.proofs.MemberLemmas.{Contains-flat_map}
use Rattle.store_meaning.proofs.ContentLemmas.{of_mutation}
use Rattle.std.specs.Prelude.{IsTrue}
use Rattle.store_meaning.proofs.FirstRowLemmas.{told_more, log_content, own_log, loc_write, hosted, known, reading, table, tablet, row_write, known_with_row, reading_with_row, put, hosted_read, told_two, tablet_form, tablet_at, row_writes, user_table, tablet_chain, put_puts}

module _ (image : Image) (new : IsNewStore image) (forms : FormsNew) (holder : Holder) (form : IsHolder holder) where
  abbrev path : List ℕ
  path = codes "1/default_tablet/F0000002.rf"

  path_form : IsFilePath path
  path_form = record {
    id = codes "1";
    dir = codes "default_tablet";
    name = codes "F0000002.rf";
    parts = record {
      is_id = (tablet_at image new forms holder form).name.id;
      is_dir = inr (inr (inl refl));
      is_name = record {
        kind = 70;
        text = codes "0000002";
        is_kind = refl;
        drawn = record {
          form = record { least = lit≤ tt; most = lit≤ tt; each = refl };
          plain = λ rest e. (let lengths : 7 ≡ length (48 ∷ rest) = ap (length {A = ℕ}) e in omega (arith, lengths));
        };
        is = refl;
      };
    };
    is = refl;
  }

  abbrev put_cells : List Cell
  put_cells = cells_of_mutation (put image new forms holder form)

  abbrev known_with_file : Ground
  known_with_file = with_cells (appended (known_with_row image new forms holder form) (own_log image new forms holder form) (put image new forms holder form)) path (Some put_cells)

  told_three : known_with_file.mutations_of (own_log image new forms holder form) ≡ Some ((loc_write image new forms holder form).mutation ∷ (row_write image new forms holder form).mutation ∷ (put image new forms holder form) ∷ [])
  told_three = told_more (known_with_row image new forms holder form) (own_log image new forms holder form) (put image new forms holder form) ((loc_write image new forms holder form).mutation ∷ (row_write image new forms holder form).mutation ∷ []) (told_two image new forms holder form)

  abbrev file : FileEntry
  file = record { path = path; size = 1; entries = 1; time = None }

  abbrev flushed : TabletRecord
  flushed = record (tablet image new forms holder form) { files = file ∷ []; time = 1 }

  one_file : (other : FileEntry) → Contains (file ∷ []) other → file ≡ other
  one_file other there = elim (Contains-cons_cases file other [] there) [ inl is ↦ is | inr none ↦ absurd (Contains-nil other none) ]

  put_rising : IsStrictlySortedBy key_cmp (map (λ (cell : Cell). cell.key) put_cells)
  unfolding IsStrictlySortedBy
  put_rising = (tt, tt)

  flushes : Flushes known_with_file None (tablet image new forms holder form) flushed
  flushes = record {
    same = record { table = refl; end = refl; logs = λ other there. there };
    memory = put_cells;
    in_memory = ap (λ o. option_map (clipped None None) (both_told (option_map (λ ms. flat_map cells_of_mutation (filter (counts_for (tablet image new forms holder form)) ms)) o) (Some []))) told_three;
    file = file;
    own_times = refl;
    cells = put_cells;
    told = refl;
    newest = record {
      rising = put_rising;
      each = λ cell. (
        λ there. elim (Contains-cons_cases _ cell [] there) [
          | inl is ↦ subst (λ (x : Cell). (latest put_cells x.key ≡ Some x) × IsTrue (is_kept true x)) is (refl, refl)
          | inr none ↦ absurd (Contains-nil cell none)
        ],
        λ at. (latest-some put_cells cell.key cell at.0).there,
      );
    };
    files = λ other. (λ there. inr (one_file other there), λ either. elim either [ inl before ↦ absurd (Contains-nil other before) | inr is ↦ subst (Contains (file ∷ [])) is (Contains-here file []) ]);
    bar = lit≤ tt;
    past = λ cell there. (let time = (of_mutation (put image new forms holder form) cell there).1 in omega (arith, time));
  }

  flushed_form : IsWellFormed flushed
  flushed_form =
      let f = (tablet_form image new forms holder form) in
      record {
        order = record { files = refl; logs = f.order.logs; loaded = f.order.loaded };
        dir = f.dir;
        bar = lit< tt;
        prev = f.prev;
        old_prev = f.old_prev;
        merged = f.merged;
        loc = form;
        future = f.future;
        files = All-cons IsFile file [] (record { path = path_form; facts = record { small_size = lit< tt; few_entries = lit< tt; small_time = tt } }) (All-nil IsFile);
        logs = f.logs;
        loaded = f.loaded;
      }

  flush_lead : (updates : List Update) × LeadsBetween (record_columns (Some (tablet image new forms holder form))) (record_columns (Some flushed)) updates
  flush_lead = record_lead (Some (tablet image new forms holder form)) (Some flushed) (tablet_form image new forms holder form).order flushed_form.order

  abbrev flush_write : RowWrite
  flush_write = record { log = own_log image new forms holder form; mutation = record { table = metadata_id; row = metadata_row (table image new forms holder form) None; time = 4; updates = flush_lead.0 }; row = RecordRow (table image new forms holder form) None (Some flushed) }

  -- the cells of the first (tablet image new forms holder form) of `!0` are those of the record
  hosted_time : (cells : List Cell) → content_of known_with_file None (hosted image new forms holder form) ≡ Some cells → (cell : Cell) → Contains cells cell → cell.time ≡ 3
  hosted_time cells is cell there =
      let now = log_content known_with_file None (hosted image new forms holder form) (own_log image new forms holder form) ((loc_write image new forms holder form).mutation ∷ (row_write image new forms holder form).mutation ∷ (put image new forms holder form) ∷ []) refl refl told_three in
      let kept = (Contains-filter (λ (c : Cell). is_within None (hosted image new forms holder form).end c.key.row) (flat_map cells_of_mutation ((row_write image new forms holder form).mutation ∷ []) ++ []) cell
      (subst (λ l. Contains l cell) (same_Some _ _ (sym is ∙ now)) there)).0 in
      elim (Contains-append_cases (flat_map cells_of_mutation ((row_write image new forms holder form).mutation ∷ [])) [] cell kept) [
        | inl one ↦
            let m = Contains-flat_map cells_of_mutation ((row_write image new forms holder form).mutation ∷ []) cell one in
            elim (Contains-cons_cases (row_write image new forms holder form).mutation m.0 [] m.1) [
              | inl same ↦ (of_mutation m.0 cell m.2).1 ∙ ap (λ (x : Mutation). x.time) (sym same)
              | inr none ↦ absurd (Contains-nil m.0 none)
            ]
        | inr none ↦ absurd (Contains-nil cell none)
      ]

  rewrites : RewritesUserTablet known_with_file (reading_with_row image new forms holder form) flush_write (record { above = []; old = tablet image new forms holder form; new = flushed; below = [] })
  rewrites = record {
    writes = record {
      table = refl;
      stands = record {
        holder = hosted image new forms holder form;
        there = Contains-there last_metadata (hosted image new forms holder form) ((hosted image new forms holder form) ∷ []) (Contains-here (hosted image new forms holder form) []);
        named = Contains-here (own_log image new forms holder form) [];
        counts = refl;
        past = λ cells is. record { later = λ cell there row. (let time = hosted_time cells is cell there in omega (arith, time)) };
      };
      leads = record { place = refl; updates = flush_lead.1; form = ((tablet_at image new forms holder form).name.id, (tablet_at image new forms holder form).name, record { name = (tablet_at image new forms holder form).name; table_is = refl; end_is = refl; form = flushed_form }) };
    };
    row = refl;
    user = user_table image new forms holder form;
    keeps = record { chain = (tablet_chain image new forms holder form) ((reading_with_row image new forms holder form).users.records (table image new forms holder form)) refl; end = refl; prev = refl };
  }

  names_log : (other : List ℕ) → Contains (log_of_holder (Some holder)) other → IsListedLog (held_nodes image new forms holder form) other
  names_log other there = subst (IsListedLog (held_nodes image new forms holder form)) (log_named image new forms holder form other there) (held_listed image new forms holder form)

  pub first_row : WritesFirst holder
  first_row = record {
    known = known image new forms holder form;
    reading = reading image new forms holder form;
    is = hosted_read image new forms holder form;
    log = own_log image new forms holder form;
    unsorted = held_unsorted image new forms holder form (own_log image new forms holder form);
    write = row_write image new forms holder form;
    in_log = refl;
    writes = row_writes image new forms holder form;
    names = record { files = λ other there. absurd (Contains-nil other there); logs = names_log };
    tablet = tablet image new forms holder form;
    row = refl;
    mutation = put image new forms holder form;
    puts = put_puts image new forms holder form;
    path = path;
    flushed = flushed;
    flush = flush_write;
    rewrites = rewrites;
    flushes = flushes;
    flush_names = record { files = λ other there. subst (λ (f : FileEntry). IsTold (known_with_file.cells_of f.path)) (one_file other there) (record { value = put_cells; is = refl }); logs = names_log };
  }
