-- Readings as one row is written.
use Rattle.std.proofs.Common.{◌≡◌, ◌≢◌, inl, inr, ℕ, true, List, [], ◌∷◌, Contains, Option, Some, None, sym, ◌∙◌, ap, subst, arith}
use Rattle.std.proofs.lemmas.Bool.{and_parts}
use Rattle.std.proofs.lemmas.Option.{same_Some}
use Rattle.row_keys.specs.declared.key.Key.{Key}
use Rattle.row_keys.specs.Forms.{IsTableId}
use Rattle.row_keys.specs.RowOrder.{is_within}
use Rattle.metadata_schema.specs.declared.mutation.Mutation.{Mutation}
use Rattle.metadata_schema.specs.declared.tablet.TabletRecord.{TabletRecord}
use Rattle.cell_merge.specs.declared.cell.Cell.{Cell}
use Rattle.cell_merge.specs.Newest.{newest_at}
use Rattle.cell_merge.specs.Changes.{AreConsistent, Gains, Covers}
use Rattle.cell_merge.proofs.LatestLemmas.{AreConsistent-within, AreConsistent-gains, newest-covers}
use Rattle.level_rows.specs.Chain.{Rows, IsChain, effective_prev, rows_of}
use Rattle.level_rows.specs.Extents.{holds_row}
use Rattle.level_rows.proofs.Membership.{Contains-nil, Contains-cons_cases}
use Rattle.level_rows.proofs.PartitionLemmas.{partition_at}
use Rattle.level_rows.proofs.WayLemmas.{row_of}
use Rattle.node_store.specs.Nodes.{Nodes}
use Rattle.store_meaning.specs.Ground.{Ground, with_nodes}
use Rattle.store_meaning.specs.Content.{cells_of_mutation, counts_for, tablet_content, contents_of}
use Rattle.store_meaning.specs.Levels.{Level, Reading, IsLevelOf, IsReadingOf, IsMetadataTable, root_id, metadata_id, root_rows, metadata_rows}
use Rattle.store_meaning.specs.Readable.{HaveConsistentTablets}
use Rattle.store_meaning.specs.Writes.{appended, HasGrown, StandsIn}
use Rattle.store_meaning.specs.RowWrites.{RowWrite, row_written, told_cells, WritesUserRow, user_row_written, metadata_rows_with, WritesMetadataRow, metadata_row_written, WritesRoot, root_written, with_level_row}
use Rattle.store_meaning.proofs.MemberLemmas.{all_in, all_has}
use Rattle.store_meaning.proofs.ContentLemmas.{content_has, of_mutation}
use Rattle.store_meaning.proofs.AppendLemmas.{chain_has_grown, other_tables, elsewhere, no_table}
use Rattle.store_meaning.proofs.LevelLemmas.{consistent_mutation, level_led}

-- ---- the cells of a chain

module _ (known : Ground) (rows : Rows) (chain : List TabletRecord) (is_chain : IsChain rows chain) where
  -- a row is of one tablet
  pub one_holder : (row : List ℕ) (tablet other : TabletRecord) → Contains chain tablet → Contains chain other → holds_row rows tablet row ≡ true → holds_row rows other row ≡ true → tablet ≡ other
  one_holder row tablet other there too holds also = let one = partition_at rows chain row is_chain in one.only tablet there holds ∙ sym (one.only other too also)

  -- no two different cells of the chain agree in key and time where none of a tablet do
  pub consistent_contents : HaveConsistentTablets known rows chain → (cells : List Cell) → contents_of known rows chain ≡ Some cells → AreConsistent cells
  consistent_contents tablets cells is = record {
    one = λ a b p q key time.
        let x = all_has (tablet_content known rows) chain cells is a p in
        let y = all_has (tablet_content known rows) chain cells is b q in
        let holds = (content_has known (effective_prev rows x.0) x.0 x.1 x.3 a x.4).0 in
        let also = (content_has known (effective_prev rows y.0) y.0 y.1 y.3 b y.4).0 in
        let same : y.0 ≡ x.0 = one_holder a.key.row y.0 x.0 y.2 x.2 (ap (λ (k : Key). holds_row rows y.0 k.row) key ∙ also) holds in
        let lists : y.1 ≡ x.1 = same_Some _ _ (sym y.3 ∙ ap (tablet_content known rows) same ∙ x.3) in
        (tablets x.0 x.1 x.2 x.3).one a b x.4 (subst (λ l. Contains l b) lists y.4) key time;
  }

  module _ (log : List ℕ) (mutation : Mutation) (stands : StandsIn known rows chain log mutation) (old : List Cell) (was : contents_of known rows chain ≡ Some old) where
    abbrev after : Ground
    after = appended known log mutation

    pub grown : HasGrown mutation old (contents_of after rows chain)
    grown = chain_has_grown known log mutation rows chain old was stands.holder stands.there stands.named stands.counts

    -- the mutation is later than all of its row
    pub gains_cells : Gains (cells_of_mutation mutation) old grown.cells
    gains_cells = record {
      from = λ cell there. (grown.each cell).0 there;
      keeps = λ cell there. (grown.each cell).1 (inl there);
      gains = λ cell there. (grown.each cell).1 (inr there);
      later = λ before fresh p q key.
          let x = all_has (tablet_content known rows) chain old was before p in
          let holds = (content_has known (effective_prev rows x.0) x.0 x.1 x.3 before x.4).0 in
          let at = of_mutation mutation fresh q in
          let row : before.key.row ≡ mutation.row = ap (λ (k : Key). k.row) key ∙ at.0 in
          let also = (and_parts (counts_for stands.holder mutation) (is_within (effective_prev rows stands.holder) stands.holder.end mutation.row) stands.counts).1 in
          let same : x.0 ≡ stands.holder = one_holder mutation.row x.0 stands.holder x.2 stands.there (ap (holds_row rows x.0) (sym row) ∙ holds) also in
          let less = (stands.past x.1 (ap (tablet_content known rows) (sym same) ∙ x.3)).later before x.4 row in
          let time = at.1 in
          omega (arith, less, time);
    }

    -- and so they stay consistent
    pub consistent_after : AreConsistent old → AreConsistent (cells_of_mutation mutation) → HaveConsistentTablets after rows chain
    consistent_after ok fresh tablet cells there is =
        AreConsistent-within cells grown.cells (λ cell in_it. all_in (tablet_content after rows) chain grown.cells grown.is tablet cells cell there is in_it) (AreConsistent-gains (cells_of_mutation mutation) old grown.cells ok fresh gains_cells)

-- tablets of other tables stay consistent
pub consistent_elsewhere : (known : Ground) (log : List ℕ) (mutation : Mutation) (rows : Rows) (chain : List TabletRecord) → ((tablet : TabletRecord) → Contains chain tablet → tablet.table ≢ mutation.table)
    → HaveConsistentTablets known rows chain → HaveConsistentTablets (appended known log mutation) rows chain
consistent_elsewhere known log mutation rows chain apart ok tablet cells there is =
    ok tablet cells there (sym (elsewhere known log mutation (effective_prev rows tablet) tablet (no_table known log mutation (effective_prev rows tablet) tablet (apart tablet there))) ∙ is)

-- tablets whose cells are among consistent ones are consistent
pub covered_tablets : (known : Ground) (rows : Rows) (chain : List TabletRecord) (cells all : List Cell) → contents_of known rows chain ≡ Some cells → AreConsistent all → Covers cells all → HaveConsistentTablets known rows chain
covered_tablets known rows chain cells all told ok covers tablet own there is =
    AreConsistent-within own all (λ cell in_it. covers.within cell (all_in (tablet_content known rows) chain cells told tablet own cell there is in_it)) ok

-- ---- levels over other cells

-- cells that leave each key what it had tell the same level
pub level_of_newest : (is_of : List ℕ → Type 0) (old new : List Cell) (level : Level) → ((key : Key) → newest_at new key ≡ newest_at old key) → IsLevelOf is_of old level → IsLevelOf is_of new level
level_of_newest is_of old new level same is = record {
  records = λ table end of name. record { each = λ family qualifier. same _ ∙ (is.records table end of name).each family qualifier };
  own_tables = is.own_tables;
  forms = is.forms;
  candidates = λ path. record { each = λ family qualifier. same _ ∙ (is.candidates path).each family qualifier };
  candidate_paths = is.candidate_paths;
  flags = λ path. record { each = λ family qualifier. same _ ∙ (is.flags path).each family qualifier };
  flag_forms = is.flag_forms;
}

told_is : (o : Option (List Cell)) (cells : List Cell) → o ≡ Some cells → o ≡ Some (told_cells o)
told_is o cells e = e ∙ ap Some (sym (ap told_cells e))

-- `!0` isn't `+r`
pub root_is_not_metadata : root_id ≢ metadata_id
root_is_not_metadata e = (let at : ◌≡◌ {A = ℕ} 43 33 = cc e in omega (arith, at))

module _ (known : Ground) (reading : Reading) (is : IsReadingOf known reading) where
  pub root_alone : (tablet : TabletRecord) → Contains (reading.root ∷ []) tablet → tablet.table ≡ root_id
  root_alone tablet there = elim (Contains-cons_cases reading.root tablet [] there) [
    | inl same ↦ ap (λ (t : TabletRecord). t.table) (sym same) ∙ is.root.at.table_is
    | inr none ↦ absurd (Contains-nil tablet none)
  ]

  -- ---- a row of the metadata table

  module _ (consistent : HaveConsistentTablets known (metadata_rows reading) reading.chain) (write : RowWrite) (writes : WritesUserRow known reading write) where
    abbrev user_grown : HasGrown write.mutation reading.metadata_cells (contents_of (row_written known write) (metadata_rows reading) reading.chain)
    user_grown = grown known (metadata_rows reading) reading.chain is.chain write.log write.mutation writes.stands reading.metadata_cells is.content

    user_consistent : AreConsistent reading.metadata_cells
    user_consistent = consistent_contents known (metadata_rows reading) reading.chain is.chain consistent reading.metadata_cells is.content

    user_cells : user_grown.cells ≡ told_cells (contents_of (row_written known write) (metadata_rows reading) reading.chain)
    user_cells = sym (ap told_cells user_grown.is)

    user_gains : Gains (cells_of_mutation write.mutation) reading.metadata_cells (told_cells (contents_of (row_written known write) (metadata_rows reading) reading.chain))
    user_gains = subst (Gains (cells_of_mutation write.mutation) reading.metadata_cells) user_cells (gains_cells known (metadata_rows reading) reading.chain is.chain write.log write.mutation writes.stands reading.metadata_cells is.content)

    root_content_stays : contents_of (row_written known write) (root_rows reading) (reading.root ∷ []) ≡ contents_of known (root_rows reading) (reading.root ∷ [])
    root_content_stays = other_tables known write.log write.mutation (root_rows reading) (reading.root ∷ []) (λ tablet there same. root_is_not_metadata (sym (root_alone tablet there) ∙ same ∙ writes.table))

    pub user_reading : IsReadingOf (row_written known write) (user_row_written known reading write)
    user_reading = record {
      root = is.root;
      root_chain = is.root_chain;
      root_content = root_content_stays ∙ is.root_content;
      metadata = is.metadata;
      chain = is.chain;
      content = told_is _ user_grown.cells user_grown.is;
      users = level_led IsTableId reading.users reading.metadata_cells _ write.mutation user_consistent user_gains is.users write.row writes.leads.place writes.leads.updates writes.leads.form;
    }

    pub root_consistent_after : HaveConsistentTablets known (root_rows reading) (reading.root ∷ []) → HaveConsistentTablets (row_written known write) (root_rows reading) (reading.root ∷ [])
    root_consistent_after ok = consistent_elsewhere known write.log write.mutation (root_rows reading) (reading.root ∷ []) (λ tablet there same. root_is_not_metadata (sym (root_alone tablet there) ∙ same ∙ writes.table)) ok

    pub user_consistent_after : HaveConsistentTablets (row_written known write) (metadata_rows reading) reading.chain
    user_consistent_after = consistent_after known (metadata_rows reading) reading.chain is.chain write.log write.mutation writes.stands reading.metadata_cells is.content user_consistent (consistent_mutation write.mutation writes.leads.updates.order)

  -- ---- a row of the root tablet

  module _ (root_consistent : HaveConsistentTablets known (root_rows reading) (reading.root ∷ [])) (consistent : HaveConsistentTablets known (metadata_rows reading) reading.chain)
      (write : RowWrite) (chain : List TabletRecord) (writes : WritesMetadataRow known reading write chain) where
    abbrev metadata_grown : HasGrown write.mutation reading.root_cells (contents_of (row_written known write) (root_rows reading) (reading.root ∷ []))
    metadata_grown = grown known (root_rows reading) (reading.root ∷ []) is.root_chain write.log write.mutation writes.stands reading.root_cells is.root_content

    metadata_consistent : AreConsistent reading.root_cells
    metadata_consistent = consistent_contents known (root_rows reading) (reading.root ∷ []) is.root_chain root_consistent reading.root_cells is.root_content

    metadata_gains : Gains (cells_of_mutation write.mutation) reading.root_cells (told_cells (contents_of (row_written known write) (root_rows reading) (reading.root ∷ [])))
    metadata_gains = subst (Gains (cells_of_mutation write.mutation) reading.root_cells) (sym (ap told_cells metadata_grown.is))
        (gains_cells known (root_rows reading) (reading.root ∷ []) is.root_chain write.log write.mutation writes.stands reading.root_cells is.root_content)

    metadata_level : IsLevelOf IsMetadataTable (told_cells (contents_of (row_written known write) (root_rows reading) (reading.root ∷ []))) (with_level_row reading.metadata write.row)
    metadata_level = level_led IsMetadataTable reading.metadata reading.root_cells _ write.mutation metadata_consistent metadata_gains is.metadata write.row writes.leads.place writes.leads.updates writes.leads.form

    chain_table : (tablet : TabletRecord) → Contains chain tablet → tablet.table ≡ metadata_id
    chain_table tablet there = (metadata_level.forms metadata_id tablet.end tablet (row_of (metadata_rows_with reading write) None chain tablet writes.is_chain there)).table_is

    pub metadata_content_stays : contents_of (row_written known write) (metadata_rows_with reading write) chain ≡ contents_of known (metadata_rows_with reading write) chain
    metadata_content_stays = other_tables known write.log write.mutation (metadata_rows_with reading write) chain (λ tablet there same. root_is_not_metadata (sym writes.table ∙ sym same ∙ chain_table tablet there))

    newest_stays : (key : Key) → newest_at (told_cells (contents_of known (metadata_rows_with reading write) chain)) key ≡ newest_at reading.metadata_cells key
    newest_stays key =
        ap (λ l. newest_at l key) (ap told_cells writes.content)
        ∙ newest-covers writes.cells reading.metadata_cells key (consistent_contents known (metadata_rows reading) reading.chain is.chain consistent reading.metadata_cells is.content) writes.covers

    pub metadata_reading : IsReadingOf (row_written known write) (metadata_row_written known reading write chain)
    metadata_reading = record {
      root = is.root;
      root_chain = is.root_chain;
      root_content = told_is _ metadata_grown.cells metadata_grown.is;
      metadata = metadata_level;
      chain = writes.is_chain;
      content = metadata_content_stays ∙ told_is _ writes.cells writes.content;
      users = level_of_newest IsTableId reading.metadata_cells _ reading.users newest_stays is.users;
    }

    pub metadata_root_after : HaveConsistentTablets (row_written known write) (root_rows reading) (reading.root ∷ [])
    metadata_root_after = consistent_after known (root_rows reading) (reading.root ∷ []) is.root_chain write.log write.mutation writes.stands reading.root_cells is.root_content metadata_consistent (consistent_mutation write.mutation writes.leads.updates.order)

    pub metadata_chain_after : HaveConsistentTablets (row_written known write) (metadata_rows_with reading write) chain
    metadata_chain_after = consistent_elsewhere known write.log write.mutation (metadata_rows_with reading write) chain (λ tablet there same. root_is_not_metadata (sym writes.table ∙ sym same ∙ chain_table tablet there))
        (covered_tablets known (metadata_rows_with reading write) chain writes.cells reading.metadata_cells writes.content (consistent_contents known (metadata_rows reading) reading.chain is.chain consistent reading.metadata_cells is.content) writes.covers)

  -- ---- the node of the root record

  module _ (root_consistent : HaveConsistentTablets known (root_rows reading) (reading.root ∷ [])) (nodes : Nodes) (root : TabletRecord) (writes : WritesRoot known reading nodes root) where
    root_newest : (key : Key) → newest_at (told_cells (contents_of known (rows_of root_id (root ∷ [])) (root ∷ []))) key ≡ newest_at reading.root_cells key
    root_newest key =
        ap (λ l. newest_at l key) (ap told_cells writes.content)
        ∙ newest-covers writes.cells reading.root_cells key (consistent_contents known (root_rows reading) (reading.root ∷ []) is.root_chain root_consistent reading.root_cells is.root_content) writes.covers

    pub root_tablet_after : HaveConsistentTablets known (rows_of root_id (root ∷ [])) (root ∷ [])
    root_tablet_after = covered_tablets known (rows_of root_id (root ∷ [])) (root ∷ []) writes.cells reading.root_cells writes.content
        (consistent_contents known (root_rows reading) (reading.root ∷ []) is.root_chain root_consistent reading.root_cells is.root_content) writes.covers

    pub root_reading : IsReadingOf (with_nodes known nodes) (root_written known reading root)
    root_reading = record {
      root = writes.node;
      root_chain = writes.is_chain;
      root_content = told_is _ writes.cells writes.content;
      metadata = level_of_newest IsMetadataTable reading.root_cells _ reading.metadata root_newest is.metadata;
      chain = is.chain;
      content = is.content;
      users = is.users;
    }
