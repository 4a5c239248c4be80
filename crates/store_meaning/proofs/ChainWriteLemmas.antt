-- The chains of tables and their cells as one row is written, and as cells are put.
use Rattle.std.proofs.Common.{◌≡◌, ◌≢◌, inl, ℕ, Bool, true, false, cond, ◌&&◌, List, [], ◌∷◌, Contains, Option, Some, None, refl, sym, ◌∙◌, ap, subst, arith}
use Rattle.std.proofs.lemmas.List.{append-nil}
use Rattle.metadata_schema.specs.declared.mutation.Mutation.{Mutation}
use Rattle.metadata_schema.specs.declared.tablet.TabletRecord.{TabletRecord}
use Rattle.metadata_schema.specs.Bytes.{same}
use Rattle.cell_merge.specs.declared.cell.Cell.{Cell}
use Rattle.cell_merge.specs.Changes.{Covers}
use Rattle.level_rows.specs.Chain.{Rows, IsChain, same_end}
use Rattle.level_rows.specs.Changes.{with_row, without_row}
use Rattle.level_rows.proofs.EndLemmas.{same-true, same-refl}
use Rattle.level_rows.proofs.WayLemmas.{row_of, one_chain_from}
use Rattle.store_meaning.specs.Ground.{Ground}
use Rattle.store_meaning.specs.Content.{tablet_content, contents_of}
use Rattle.store_meaning.specs.Levels.{Level, Reading, IsReadingOf, IsMetadataTable, root_id, metadata_id, root_rows, metadata_rows}
use Rattle.store_meaning.specs.Readable.{HaveConsistentTablets}
use Rattle.store_meaning.specs.Writes.{appended, HasGained, StandsIn}
use Rattle.store_meaning.specs.RowWrites.{RecordRow, RowWrite, row_written, LeadsRow, with_level_row, WritesUserRow, metadata_rows_with, WritesMetadataRow}
use Rattle.store_meaning.specs.ChainWrites.{PieceChange, chain_before, chain_after, content_with_piece, ReplacesPiece, HasCovered, RecordChange, piece_of, row_of_change, content_in_place, user_rows_with, ReplacesUserPiece, RewritesUserTablet, RewritesMetadataTablet, PutsCells}
use Rattle.store_meaning.proofs.AppendLemmas.{other_tables}
use Rattle.store_meaning.proofs.LevelLemmas.{consistent_mutation}
use Rattle.store_meaning.proofs.WrittenLemmas.{consistent_contents, grown, gains_cells, consistent_after, user_reading, root_alone}
use Rattle.store_meaning.proofs.PieceLemmas.{chains_stand, piece_content, piece_covered, contents_stand}
use Rattle.store_meaning.proofs.RecordPieces.{record_replaced, record_content}
use Rattle.store_meaning.proofs.MemberLemmas.{both_are}

-- ---- the rows of a table once one is written

pub rows_with_record : (level : Level) (table : List ℕ) (tablet : TabletRecord) → (with_level_row level (RecordRow table tablet.end (Some tablet))).records table ≡ with_row (level.records table) tablet
rows_with_record level table tablet = λ i high. ap (λ b. cond (b && same_end high tablet.end) (Some tablet) (level.records table high)) (same-refl table) i

pub rows_without_record : (level : Level) (table : List ℕ) (end : Option (List ℕ)) → (with_level_row level (RecordRow table end None)).records table ≡ without_row (level.records table) end
rows_without_record level table end = λ i high. ap (λ b. cond (b && same_end high end) None (level.records table high)) (same-refl table) i

pub rows_of_other_table : (level : Level) (table other : List ℕ) (end : Option (List ℕ)) (tablet : Option TabletRecord) → other ≢ table → (with_level_row level (RecordRow table end tablet)).records other ≡ level.records other
rows_of_other_table level table other end tablet apart = λ i high. by high (same other table) refl i
  where
    by : (high : Option (List ℕ)) (b : Bool) → same other table ≡ b → cond (b && same_end high end) tablet (level.records other high) ≡ level.records other high
    by high true e = absurd (apart (same-true other table e))
    by high false e = refl

-- the rows with the record of a change
pub rows_after_record : (level : Level) (table : List ℕ) (write : RowWrite) (change : RecordChange) → write.row ≡ row_of_change change → change.new.table ≡ table → (with_level_row level write.row).records table ≡ with_row (level.records table) change.new
rows_after_record level table write change row of =
    ap (λ r. (with_level_row level r).records table) row ∙ ap (λ t. (with_level_row level (RecordRow t change.new.end (Some change.new))).records table) of ∙ rows_with_record level table change.new

-- the cells of a list of one tablet
pub one_content : (known : Ground) (rows : Rows) (tablet : TabletRecord) (cells : List Cell) → tablet_content known rows tablet ≡ Some cells → contents_of known rows (tablet ∷ []) ≡ Some cells
one_content known rows tablet cells e = both_are (tablet_content known rows tablet) (Some []) cells [] e refl ∙ ap Some (append-nil cells)

module _ (known : Ground) (reading : Reading) (is : IsReadingOf known reading) where
  -- a chain's tablets are of its table
  pub chain_of_metadata : (tablet : TabletRecord) → Contains reading.chain tablet → tablet.table ≡ metadata_id
  chain_of_metadata tablet there = (is.metadata.forms metadata_id tablet.end tablet (row_of (metadata_rows reading) None reading.chain tablet is.chain there)).table_is

  pub chain_of_user : (table : List ℕ) (chain : List TabletRecord) → IsChain (reading.users.records table) chain → (tablet : TabletRecord) → Contains chain tablet → tablet.table ≡ table
  chain_of_user table chain is_chain tablet there = (is.users.forms table tablet.end tablet (row_of (reading.users.records table) None chain tablet is_chain there)).table_is

  -- ---- a row of the metadata table

  module _ (consistent : HaveConsistentTablets known (metadata_rows reading) reading.chain) (write : RowWrite) (writes : WritesUserRow known reading write) where
    chain_once_written : (table : List ℕ) (chain : List TabletRecord) → IsChain (user_rows_with reading write table) chain → (tablet : TabletRecord) → Contains chain tablet → tablet.table ≡ table
    chain_once_written table chain is_chain tablet there = ((user_reading known reading is consistent write writes).users.forms table tablet.end tablet (row_of (user_rows_with reading write table) None chain tablet is_chain there)).table_is

    -- the cells of a user table's chain don't depend on the mutation
    user_content : (table : List ℕ) → table ≢ metadata_id → (chain : List TabletRecord) → IsChain (user_rows_with reading write table) chain
        → contents_of (row_written known write) (user_rows_with reading write table) chain ≡ contents_of known (user_rows_with reading write table) chain
    user_content table user chain is_chain = other_tables known write.log write.mutation (user_rows_with reading write table) chain (λ tablet there same. user (sym (chain_once_written table chain is_chain tablet there) ∙ same ∙ writes.table))

    -- the same chain has the cells that it had
    pub user_aside_content : (table : List ℕ) (chain : List TabletRecord) → table ≢ metadata_id → IsChain (reading.users.records table) chain → IsChain (user_rows_with reading write table) chain
        → contents_of (row_written known write) (user_rows_with reading write table) chain ≡ contents_of known (reading.users.records table) chain
    user_aside_content table chain user was is_chain =
        user_content table user chain is_chain
        ∙ contents_stand known (reading.users.records table) (user_rows_with reading write table) chain (chains_stand (reading.users.records table) (user_rows_with reading write table) chain was is_chain)

  module _ (consistent : HaveConsistentTablets known (metadata_rows reading) reading.chain) (write : RowWrite) (table : List ℕ) (piece : PieceChange) (replaces : ReplacesUserPiece known reading write table piece) where
    user_piece_stays : contents_of (row_written known write) (user_rows_with reading write table) (chain_after piece) ≡ contents_of known (user_rows_with reading write table) (chain_after piece)
    user_piece_stays = user_content consistent write replaces.writes table replaces.user (chain_after piece) replaces.replaces.after

    pub user_piece_content : contents_of (row_written known write) (user_rows_with reading write table) (chain_after piece) ≡ content_with_piece known (reading.users.records table) (user_rows_with reading write table) piece
    user_piece_content = user_piece_stays ∙ piece_content known (reading.users.records table) (user_rows_with reading write table) piece replaces.replaces

    pub user_piece_covered : (all was cells : List Cell) → contents_of known (reading.users.records table) (chain_before piece) ≡ Some all → contents_of known (reading.users.records table) piece.gone ≡ Some was
        → contents_of known (user_rows_with reading write table) piece.come ≡ Some cells → Covers cells was → HasCovered all (contents_of (row_written known write) (user_rows_with reading write table) (chain_after piece))
    user_piece_covered all was cells of_all of_was of_cells covers =
        let h = piece_covered known (reading.users.records table) (user_rows_with reading write table) piece replaces.replaces all was cells of_all of_was of_cells covers in
        record { cells = h.cells; is = user_piece_stays ∙ h.is; covers = h.covers }

  -- one record in its place is such a piece
  pub user_tablet_piece : (write : RowWrite) (change : RecordChange) → RewritesUserTablet known reading write change → ReplacesUserPiece known reading write change.new.table (piece_of change)
  user_tablet_piece write change rewrites =
      let rows = reading.users.records change.new.table in
      let after : user_rows_with reading write change.new.table ≡ with_row rows change.new = rows_after_record reading.users change.new.table write change rewrites.row refl in
      record {
        writes = rewrites.writes;
        user = rewrites.user;
        replaces = subst (λ q. ReplacesPiece rows q (piece_of change)) (sym after) (record_replaced rows change rewrites.keeps);
      }

  -- where its cells are covered, those of the table are
  pub user_tablet_covered : HaveConsistentTablets known (metadata_rows reading) reading.chain → (write : RowWrite) (change : RecordChange) → RewritesUserTablet known reading write change → (all was : List Cell)
      → contents_of known (reading.users.records change.new.table) (chain_before (piece_of change)) ≡ Some all → content_in_place known (reading.users.records change.new.table) change change.old ≡ Some was
      → HasCovered was (content_in_place known (reading.users.records change.new.table) change change.new) → HasCovered all (contents_of (row_written known write) (user_rows_with reading write change.new.table) (chain_after (piece_of change)))
  user_tablet_covered consistent write change rewrites all was of_all of_was covered =
      let rows = reading.users.records change.new.table in
      user_piece_covered consistent write change.new.table (piece_of change) (user_tablet_piece write change rewrites) all was covered.cells of_all (one_content known rows change.old was of_was)
      (ap (λ q. contents_of known q (change.new ∷ [])) (rows_after_record reading.users change.new.table write change rewrites.row refl) ∙ one_content known (with_row rows change.new) change.new covered.cells (record_content rows change rewrites.keeps known ∙ covered.is)) covered.covers

  -- ---- a row of the root tablet beside the chain of `!0`

  pub metadata_aside : (write : RowWrite) → write.mutation.table ≡ root_id → StandsIn known (root_rows reading) (reading.root ∷ []) write.log write.mutation → LeadsRow IsMetadataTable reading.metadata write
      → IsChain (metadata_rows_with reading write) reading.chain → WritesMetadataRow known reading write reading.chain
  metadata_aside write table stands leads is_chain = record {
    table = table;
    stands = stands;
    leads = leads;
    is_chain = is_chain;
    cells = reading.metadata_cells;
    content =
        contents_stand known (metadata_rows reading) (metadata_rows_with reading write) reading.chain (chains_stand (metadata_rows reading) (metadata_rows_with reading write) reading.chain is.chain is_chain)
        ∙ is.content;
    covers = record { within = λ cell there. there; covered = λ cell there. inl (cell, record { there = there; key = refl; time = omega arith }) };
  }

  -- ---- a record of `!0` in its place

  module _ (write : RowWrite) (change : RecordChange) (rewrites : RewritesMetadataTablet known reading write change) where
    abbrev rows_before : Rows
    rows_before = metadata_rows reading

    rows_now : metadata_rows_with reading write ≡ with_row rows_before change.new
    rows_now = rows_after_record reading.metadata metadata_id write change rewrites.row rewrites.metadata

    chain_was : reading.chain ≡ chain_before (piece_of change)
    chain_was = one_chain_from rows_before None reading.chain (chain_before (piece_of change)) is.chain rewrites.keeps.chain

    covered_now : HasCovered reading.metadata_cells (contents_of known (with_row rows_before change.new) (chain_after (piece_of change)))
    covered_now = piece_covered known rows_before (with_row rows_before change.new) (piece_of change) (record_replaced rows_before change rewrites.keeps) reading.metadata_cells rewrites.was rewrites.covered.cells
        (ap (contents_of known rows_before) (sym chain_was) ∙ is.content) (one_content known rows_before change.old rewrites.was rewrites.content)
        (one_content known (with_row rows_before change.new) change.new rewrites.covered.cells (record_content rows_before change rewrites.keeps known ∙ rewrites.covered.is)) rewrites.covered.covers

    pub metadata_tablet_written : WritesMetadataRow known reading write (chain_after (piece_of change))
    metadata_tablet_written = record {
      table = rewrites.table;
      stands = rewrites.stands;
      leads = rewrites.leads;
      is_chain = subst (λ q. IsChain q (chain_after (piece_of change))) (sym rows_now) (record_replaced rows_before change rewrites.keeps).after;
      cells = covered_now.cells;
      content = ap (λ q. contents_of known q (chain_after (piece_of change))) rows_now ∙ covered_now.is;
      covers = covered_now.covers;
    }

  -- ---- cells of a user table

  module _ (log : List ℕ) (mutation : Mutation) (chain : List TabletRecord) (puts : PutsCells known reading log mutation chain) where
    pub put_reading : IsReadingOf (appended known log mutation) reading
    put_reading = record {
      root = is.root;
      root_chain = is.root_chain;
      root_content = other_tables known log mutation (root_rows reading) (reading.root ∷ []) (λ tablet there same. puts.not_root (sym same ∙ root_alone known reading is tablet there)) ∙ is.root_content;
      metadata = is.metadata;
      chain = is.chain;
      content = other_tables known log mutation (metadata_rows reading) reading.chain (λ tablet there same. puts.user (sym same ∙ chain_of_metadata tablet there)) ∙ is.content;
      users = is.users;
    }

    pub put_gained : (old : List Cell) → contents_of known (reading.users.records mutation.table) chain ≡ Some old → HasGained mutation old (contents_of (appended known log mutation) (reading.users.records mutation.table) chain)
    put_gained old was =
        let g = grown known (reading.users.records mutation.table) chain puts.is_chain log mutation puts.stands old was in
        record { cells = g.cells; is = g.is; gains = gains_cells known (reading.users.records mutation.table) chain puts.is_chain log mutation puts.stands old was }

    pub put_consistent : (old : List Cell) → contents_of known (reading.users.records mutation.table) chain ≡ Some old → HaveConsistentTablets known (reading.users.records mutation.table) chain
        → HaveConsistentTablets (appended known log mutation) (reading.users.records mutation.table) chain
    put_consistent old was ok = consistent_after known (reading.users.records mutation.table) chain puts.is_chain log mutation puts.stands old was
        (consistent_contents known (reading.users.records mutation.table) chain puts.is_chain ok old was) (consistent_mutation mutation puts.order)

    pub put_elsewhere : (table : List ℕ) (other : List TabletRecord) → table ≢ mutation.table → IsChain (reading.users.records table) other
        → contents_of (appended known log mutation) (reading.users.records table) other ≡ contents_of known (reading.users.records table) other
    put_elsewhere table other apart is_chain = other_tables known log mutation (reading.users.records table) other (λ tablet there same. apart (sym (chain_of_user table other is_chain tablet there) ∙ same))
