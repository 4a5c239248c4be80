-- The first record of a user table in a new store, and cells that are put in it.
use Rattle.std.proofs.Common.{◌≡◌, ◌≢◌, inl, inr, ℕ, codes, List, [], ◌∷◌, ◌++◌, filter, Contains, Option, Some, None, refl, sym, ◌∙◌, ap, subst, arith, lit≤}
use Rattle.std.specs.List.{flat_map}
use Rattle.std.specs.Option.{option_map}
use Rattle.std.proofs.lemmas.Option.{same_Some}
use Rattle.host_model.specs.Picture.{Image}
use Rattle.row_keys.specs.MetadataRow.{metadata_row}
use Rattle.metadata_schema.specs.declared.mutation.Mutation.{Mutation}
use Rattle.metadata_schema.specs.declared.tablet.Holder.{Holder}
use Rattle.metadata_schema.specs.declared.tablet.TabletRecord.{TabletRecord}
use Rattle.metadata_schema.specs.Columns.{columns_of, written}
use Rattle.metadata_schema.specs.Records.{IsHolder, IsWellFormed, new_tablet}
use Rattle.cell_merge.specs.Newest.{clipped}
use Rattle.level_rows.proofs.Membership.{Contains-nil, Contains-here, Contains-there}
use Rattle.store_layout.specs.NewStore.{IsNewStore, table_info, last_metadata}
use Rattle.store_meaning.specs.Ground.{Ground}
use Rattle.store_meaning.specs.Content.{both_told, all_told, cells_of_mutation, counts_for, logs_of, content_of, file_cells, log_cells}
use Rattle.store_meaning.specs.Levels.{Reading, IsRecordAt, metadata_id}
use Rattle.store_meaning.specs.Readable.{IsReadAs}
use Rattle.store_meaning.specs.Writes.{appended}
use Rattle.store_meaning.specs.RowWrites.{RecordRow, RowWrite, row_written, WritesUserRow, user_row_written, metadata_row_written}
use Rattle.store_meaning.specs.ChainWrites.{PutsCells}
use Rattle.store_meaning.proofs.AppendLemmas.{told_after}
use Rattle.store_meaning.proofs.NewLevel.{FormsNew}
use Rattle.store_meaning.proofs.LeadLemmas.{whole_lead}
use Rattle.store_meaning.proofs.NamingLemmas.{metadata_read}
use Rattle.store_meaning.proofs.ChainWriteLemmas.{metadata_tablet_written}
use Rattle.store_meaning.proofs.FirstHolder.{log, held_ground, held_reading, held_read, held_unsorted, held_empty}
use Rattle.store_meaning.proofs.FirstWriteLemmas.{first_change, first_write, first_writes, first_names}
use Rattle.level_rows.specs.Chain.{Rows, IsChain}

-- what is told of a log with one mutation more
pub told_more : (known : Ground) (name : List ℕ) (mutation : Mutation) (mutations : List Mutation) → known.mutations_of name ≡ Some mutations → (appended known name mutation).mutations_of name ≡ Some (mutations ++ mutation ∷ [])
told_more known name mutation mutations is = elim (told_after known name mutation name mutations is) [ inl here ↦ here.1 | inr elsewhere ↦ absurd (elsewhere.0 refl) ]

-- the cells that a tablet's only log gives
pub log_content : (known : Ground) (low : Option (List ℕ)) (tablet : TabletRecord) (name : List ℕ) (mutations : List Mutation) → tablet.files ≡ [] → logs_of tablet ≡ name ∷ [] → known.mutations_of name ≡ Some mutations
    → content_of known low tablet ≡ Some (clipped low tablet.end (flat_map cells_of_mutation (filter (counts_for tablet) mutations) ++ []))
log_content known low tablet name mutations files logs told =
    (λ i. option_map (clipped low tablet.end) (both_told (all_told (file_cells known) (files i)) (all_told (log_cells known tablet) (logs i))))
    ∙ ap (λ o. option_map (clipped low tablet.end) (both_told (Some []) (both_told (option_map (λ ms. flat_map cells_of_mutation (filter (counts_for tablet) ms)) o) (Some [])))) told

module _ (image : Image) (new : IsNewStore image) (forms : FormsNew) (holder : Holder) (form : IsHolder holder) where
  -- ---- the first tablet of `!0` has the holder

  abbrev pub own_log : List ℕ
  own_log = log image new forms holder form

  abbrev pub held : Ground
  held = held_ground image new forms holder form

  abbrev pub loc_write : RowWrite
  loc_write = first_write image new forms holder form None (Some holder) tt form (λ other there. there)

  abbrev pub hosted : TabletRecord
  hosted = record table_info { loc = Some holder }

  abbrev pub known : Ground
  known = row_written held loc_write

  abbrev pub reading : Reading
  reading = metadata_row_written held (held_reading image new forms holder form) loc_write (last_metadata ∷ hosted ∷ [])

  pub hosted_read : IsReadAs reading known
  hosted_read = metadata_read held (held_reading image new forms holder form) (held_read image new forms holder form) loc_write (last_metadata ∷ hosted ∷ [])
      (metadata_tablet_written held (held_reading image new forms holder form) (held_read image new forms holder form).levels loc_write (first_change image new forms holder form None (Some holder) tt form (λ other there. there))
      (first_writes image new forms holder form None (Some holder) tt form (λ other there. there)))
      (first_names image new forms holder form None (Some holder) tt form (λ other there. there)) (held_unsorted image new forms holder form own_log)

  told_one : known.mutations_of own_log ≡ Some (loc_write.mutation ∷ [])
  told_one = told_more held own_log loc_write.mutation [] (held_empty image new forms holder form)

  hosted_content : content_of known None hosted ≡ Some []
  hosted_content = log_content known None hosted own_log (loc_write.mutation ∷ []) refl refl told_one

  -- ---- the first record of a table

  abbrev pub table : List ℕ
  table = codes "1"

  abbrev pub tablet : TabletRecord
  tablet = record (new_tablet table None None (codes "default_tablet")) { loc = Some holder }

  pub tablet_form : IsWellFormed tablet
  tablet_form =
      let f = forms table None None (codes "default_tablet") tt (inr (inr (inl refl))) in
      record {
        order = record { files = f.order.files; logs = f.order.logs; loaded = f.order.loaded };
        dir = f.dir;
        bar = f.bar;
        prev = f.prev;
        old_prev = f.old_prev;
        merged = f.merged;
        loc = form;
        future = f.future;
        files = f.files;
        logs = f.logs;
        loaded = f.loaded;
      }

  pub tablet_at : IsRecordAt table None tablet
  tablet_at = record { name = record { id = inr (inr (record { least = lit≤ tt; most = lit≤ tt; each = refl })); short = tt }; table_is = refl; end_is = refl; form = tablet_form }

  abbrev pub row_write : RowWrite
  row_write = record { log = own_log; mutation = record { table = metadata_id; row = metadata_row table None; time = 3; updates = columns_of tablet }; row = RecordRow table None (Some tablet) }

  pub row_writes : WritesUserRow known reading row_write
  row_writes = record {
    table = refl;
    stands = record {
      holder = hosted;
      there = Contains-there last_metadata hosted (hosted ∷ []) (Contains-here hosted []);
      named = Contains-here own_log [];
      counts = refl;
      past = λ cells is. record { later = λ cell there row. absurd (Contains-nil cell (subst (λ l. Contains l cell) (same_Some _ _ (sym is ∙ hosted_content)) there)) };
    };
    leads = record { place = refl; updates = whole_lead tablet tablet_form.order; form = (tablet_at.name.id, tablet_at.name, tablet_at) };
  }

  -- ---- cells are put

  abbrev pub known_with_row : Ground
  known_with_row = row_written known row_write

  abbrev pub reading_with_row : Reading
  reading_with_row = user_row_written known reading row_write

  pub told_two : known_with_row.mutations_of own_log ≡ Some (loc_write.mutation ∷ row_write.mutation ∷ [])
  told_two = told_more known own_log row_write.mutation (loc_write.mutation ∷ []) told_one

  abbrev pub put : Mutation
  put = record { table = table; row = codes "r"; time = 1; updates = written (codes "f") (codes "q") (codes "v") ∷ [] }

  first_byte : (a b : ℕ) (more rest : List ℕ) → a ∷ more ≡ b ∷ rest → a ≡ b
  first_byte a b more rest e = cc

  pub user_table : table ≢ metadata_id
  user_table e = (let at = first_byte 49 33 [] (48 ∷ []) e in omega (arith, at))

  pub tablet_chain : (rows : Rows) → rows None ≡ Some tablet → IsChain rows (tablet ∷ [])
  tablet_chain rows is = (is, refl, refl)

  pub put_puts : PutsCells known_with_row reading_with_row own_log put (tablet ∷ [])
  put_puts = record {
    user = user_table;
    not_root = λ e. (let at = first_byte 49 43 [] (114 ∷ []) e in omega (arith, at));
    is_chain = tablet_chain (reading_with_row.users.records table) refl;
    stands = record {
      holder = tablet;
      there = Contains-here tablet [];
      named = Contains-here own_log [];
      counts = refl;
      past = λ cells is. record {
        later = λ cell there row.
            absurd (Contains-nil cell (subst (λ l. Contains l cell) (same_Some _ _ (sym is ∙ log_content known_with_row None tablet own_log (loc_write.mutation ∷ row_write.mutation ∷ []) refl refl told_two)) there));
      };
    };
    order = refl;
  }
