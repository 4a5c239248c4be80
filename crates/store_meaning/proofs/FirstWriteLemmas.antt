-- The first record of `!0` in a new store whose root tablet has a server is given it, too.
use Rattle.std.proofs.Common.{◌≡◌, inl, inr, ℕ, codes, List, [], ◌∷◌, Contains, Option, IfSome, Some, None, refl, sym, ◌∙◌, ap, subst, arith, lit≤}
use Rattle.std.proofs.lemmas.List.Elements.{Contains-append_cases}
use Rattle.std.proofs.lemmas.Option.{same_Some}
use Rattle.host_model.specs.Picture.{Image}
use Rattle.metadata_schema.specs.declared.tablet.Holder.{Holder}
use Rattle.metadata_schema.specs.declared.tablet.TabletRecord.{TabletRecord}
use Rattle.metadata_schema.specs.Columns.{columns_of}
use Rattle.metadata_schema.specs.Records.{IsHolder, IsWellFormed}
use Rattle.row_keys.specs.MetadataRow.{metadata_row}
use Rattle.cell_merge.specs.declared.cell.Cell.{Cell}
use Rattle.level_rows.proofs.Membership.{Contains-nil, Contains-here}
use Rattle.store_layout.specs.NewStore.{IsNewStore, table_info, last_metadata, first_cells, record_cells, cell_of}
use Rattle.store_meaning.specs.Levels.{root_id, metadata_id}
use Rattle.store_meaning.specs.RowWrites.{RecordRow, RowWrite}
use Rattle.store_meaning.specs.ChainWrites.{RewritesMetadataTablet}
use Rattle.store_meaning.specs.FirstWrites.{AssignsFirst}
use Rattle.store_meaning.proofs.MemberLemmas.{Contains-map}
use Rattle.store_meaning.proofs.NewLevel.{FormsNew}
use Rattle.store_meaning.proofs.LeadLemmas.{record_lead}
use Rattle.store_meaning.proofs.FirstHolder.{log, log_named, first_read, held_root, held_same, held_nodes, held_ground, held_reading, held_read, held_unsorted, held_listed, held_empty}
use Rattle.metadata_schema.specs.declared.mutation.Update.{Update}
use Rattle.metadata_schema.specs.Between.{LeadsBetween}
use Rattle.store_meaning.specs.Content.{log_of_holder, content_of}
use Rattle.store_meaning.specs.InUse.{IsListedLog}
use Rattle.store_meaning.specs.Holders.{HoldsNothingFor}
use Rattle.store_meaning.specs.Levels.{record_columns}
use Rattle.store_meaning.specs.ChainWrites.{RecordChange}
use Rattle.store_meaning.specs.Naming.{RowNamesKnown}
use Rattle.store_meaning.proofs.HolderLemmas.{holders_same, same_covered}

module _ (image : Image) (new : IsNewStore image) (forms : FormsNew) (holder : Holder) (form : IsHolder holder) where
  -- its log holds nothing
  pub held_nothing : (low : Option (List ℕ)) (tablet : TabletRecord) (other : List ℕ) → Contains (log_of_holder (Some holder)) other → HoldsNothingFor (held_ground image new forms holder form) low tablet other
  held_nothing low tablet other there = record {
    mutations = [];
    told = ap (held_ground image new forms holder form).mutations_of (sym (log_named image new forms holder form other there)) ∙ held_empty image new forms holder form;
    none = λ mutation in_it. absurd (Contains-nil mutation in_it);
  }

  -- all cells of the root tablet are of time 1
  first_time : (cell : Cell) → Contains first_cells cell → cell.time ≡ 1
  first_time cell there = elim (Contains-append_cases (record_cells table_info) (record_cells last_metadata) cell there) [
    | inl one ↦ (let r = Contains-map (cell_of (metadata_row metadata_id (Some (codes "~"))) 1) (columns_of table_info) cell one in ap (λ (c : Cell). c.time) (sym r.2))
    | inr one ↦ (let r = Contains-map (cell_of (metadata_row metadata_id None) 1) (columns_of last_metadata) cell one in ap (λ (c : Cell). c.time) (sym r.2))
  ]

  -- the first record with these holders, of which `loc` is none or this one
  module _ (future loc : Option Holder) (future_form : IfSome future IsHolder) (loc_form : IfSome loc IsHolder) (own : (other : List ℕ) → Contains (log_of_holder loc) other → Contains (log_of_holder (Some holder)) other) where
    abbrev pub next : TabletRecord
    next = record table_info { future = future; loc = loc }

    abbrev pub first_change : RecordChange
    first_change = record { above = last_metadata ∷ []; old = table_info; new = next; below = [] }

    old_form : IsWellFormed table_info
    old_form = forms metadata_id (Some (codes "~")) None (codes "table_info") tt (inr (inl refl))

    pub next_form : IsWellFormed next
    next_form =
        let f = old_form in
        record {
          order = record { files = f.order.files; logs = f.order.logs; loaded = f.order.loaded };
          dir = f.dir;
          bar = f.bar;
          prev = f.prev;
          old_prev = f.old_prev;
          merged = f.merged;
          loc = loc_form;
          future = future_form;
          files = f.files;
          logs = f.logs;
          loaded = f.loaded;
        }

    pub next_lead : (updates : List Update) × LeadsBetween (record_columns (Some table_info)) (record_columns (Some next)) updates
    next_lead = record_lead (Some table_info) (Some next) old_form.order next_form.order

    abbrev pub first_write : RowWrite
    first_write = record {
      log = log image new forms holder form;
      mutation = record { table = root_id; row = metadata_row metadata_id (Some (codes "~")); time = 2; updates = next_lead.0 };
      row = RecordRow metadata_id (Some (codes "~")) (Some next);
    }

    pub first_writes : RewritesMetadataTablet (held_ground image new forms holder form) (held_reading image new forms holder form) first_write first_change
    first_writes = record {
      table = refl;
      stands = record {
        holder = held_root image new forms holder form;
        there = Contains-here (held_root image new forms holder form) [];
        named = Contains-here (log image new forms holder form) [];
        counts = refl;
        past = λ cells is. record {
          later = λ cell there row.
              let held = held_same image new forms holder form in
              let same : held.cells ≡ cells = same_Some _ _ (sym held.is ∙ is) in
              let time = first_time cell ((held.each cell).0 (subst (λ l. Contains l cell) (sym same) there)) in
              omega (arith, time);
        };
      };
      leads = record {
        place = refl;
        updates = next_lead.1;
        form = (refl, record { id = inr (inl refl); short = lit≤ tt }, record { name = record { id = inr (inl refl); short = lit≤ tt }; table_is = refl; end_is = refl; form = next_form });
      };
      row = refl;
      metadata = refl;
      keeps = record { chain = (first_read image new forms holder form).levels.chain; end = refl; prev = refl };
      was = [];
      content = refl;
      covered = same_covered [] (content_of (held_ground image new forms holder form) None next) (holders_same (held_ground image new forms holder form) None table_info next (record {
        table = refl;
        end = refl;
        bar = refl;
        files = refl;
        comes = λ other there. inr (held_nothing None table_info other (own other there));
        goes = λ other there. absurd (Contains-nil other there);
      }) [] refl);
    }

    pub first_names : RowNamesKnown (held_ground image new forms holder form) first_write.row
    first_names = record {
      files = λ file there. absurd (Contains-nil file there);
      logs = λ other there. subst (IsListedLog (held_nodes image new forms holder form)) (log_named image new forms holder form other (own other there)) (held_listed image new forms holder form);
    }

  -- it is given a `future`
  pub first_assigned : AssignsFirst holder
  first_assigned = record {
    known = held_ground image new forms holder form;
    reading = held_reading image new forms holder form;
    is = held_read image new forms holder form;
    held = refl;
    write = first_write (Some holder) None form tt (λ other there. absurd (Contains-nil other there));
    writes = first_writes (Some holder) None form tt (λ other there. absurd (Contains-nil other there));
    names = first_names (Some holder) None form tt (λ other there. absurd (Contains-nil other there));
    unsorted = held_unsorted image new forms holder form (log image new forms holder form);
  }
