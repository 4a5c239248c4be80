-- A record of a user table's chain that is written again in its place.
use Rattle.std.proofs.Common.{◌≡◌, inl, inr, ℕ, true, false, List, ◌∷◌, Some, None, Contains, refl, sym, ◌∙◌, ap, subst}
use Rattle.std.specs.List.{list_any}
use Rattle.std.proofs.lemmas.List.Elements.{Contains-append_left, Contains-append_right, Contains-append_cases}
use Rattle.plain_model.specs.State.{Table, PlainState}
use Rattle.metadata_schema.specs.declared.tablet.TabletRecord.{TabletRecord}
use Rattle.cell_merge.specs.declared.cell.Cell.{Cell}
use Rattle.cell_merge.proofs.LatestLemmas.{newest-covers}
use Rattle.level_rows.specs.Chain.{Rows, IsChain, effective_prev}
use Rattle.level_rows.specs.Changes.{with_row}
use Rattle.level_rows.proofs.Membership.{Contains-here, Contains-there, Contains-cons_cases}
use Rattle.level_rows.proofs.RewireLemmas.{effective_prev-with_row}
use Rattle.level_rows.proofs.WayLemmas.{row_of, one_chain_from}
use Rattle.store_layout.specs.Tables.{Catalog}
use Rattle.store_layout.specs.declared.tables.TableNode.{TableNode}
use Rattle.store_meaning.specs.Ground.{Ground}
use Rattle.store_meaning.specs.Content.{tablet_content, contents_of}
use Rattle.store_meaning.specs.Levels.{Reading}
use Rattle.store_meaning.specs.Marked.{layers_of, layered}
use Rattle.store_meaning.specs.Readable.{HaveConsistentTablets}
use Rattle.store_meaning.specs.RowWrites.{RowWrite, row_written, user_row_written}
use Rattle.store_meaning.specs.ChainWrites.{chain_before, chain_after, ReplacesPiece, HasCovered, RecordChange, piece_of, KeepsExtent, content_in_place, user_rows_with, RewritesUserTablet}
use Rattle.store_meaning.specs.Stands.{is_online, is_ending, TableStands, StandsAs}
use Rattle.store_meaning.specs.Kept.{is_deleting, IsKeptAs}
use Rattle.store_meaning.proofs.ChainWriteLemmas.{rows_after_record, user_tablet_piece, user_tablet_covered}
use Rattle.store_meaning.proofs.MemberLemmas.{all_each}
use Rattle.store_meaning.proofs.WrittenLemmas.{consistent_contents, covered_tablets}
use Rattle.kept_meaning.specs.Rows.{RowFits, IsTabletKept, RewritesKept}
use Rattle.kept_meaning.proofs.AsideLemmas.{by_table, rows_apart, same_rows}
use Rattle.kept_meaning.proofs.LayerLemmas.{lacking_same, layers_in_place, ends_in_place}
use Rattle.kept_meaning.proofs.RowLemmas.{kept_moves, row_stands, aside_table, was_kept, aside_kept, row_kept}

-- ---- a record in its place, in any table

-- the extent begins where it did
pub place_prev : (rows new_rows : Rows) (change : RecordChange) → KeepsExtent rows change → new_rows ≡ with_row rows change.new → effective_prev new_rows change.new ≡ effective_prev rows change.old
place_prev rows new_rows change keeps with_it =
    let among = Contains-append_right change.above (change.old ∷ change.below) change.old (Contains-here change.old change.below) in
    let there : rows change.new.end ≡ Some change.old = ap rows keeps.end ∙ row_of rows None (chain_before (piece_of change)) change.old keeps.chain among in
    ap (λ q. effective_prev q change.new) with_it ∙ effective_prev-with_row rows change.new change.old change.new there ∙ keeps.prev

-- each tablet of the chain is kept where those before were, and the new one where the old one was
pub place_each : (known : Ground) (table : List ℕ) (rows new_rows : Rows) (change : RecordChange) → ReplacesPiece rows new_rows (piece_of change)
    → ((tablet : TabletRecord) → Contains (chain_before (piece_of change)) tablet → IsTabletKept known table rows tablet) → (IsTabletKept known table rows change.old → IsTabletKept known table new_rows change.new)
    → (tablet : TabletRecord) → Contains (chain_after (piece_of change)) tablet → IsTabletKept known table new_rows tablet
place_each known table rows new_rows change replaces before kept tablet among = elim (Contains-append_cases change.above (change.new ∷ change.below) tablet among) [
  | inl a ↦ kept_moves known table rows new_rows tablet (replaces.above.prev tablet a) (before tablet (Contains-append_left change.above (change.old ∷ change.below) tablet a))
  | inr rest ↦ elim (Contains-cons_cases change.new tablet change.below rest) [
    | inl one ↦ subst (IsTabletKept known table new_rows) one (kept (before change.old (Contains-append_right change.above (change.old ∷ change.below) change.old (Contains-here change.old change.below))))
    | inr b ↦ kept_moves known table rows new_rows tablet (replaces.below.prev tablet b)
        (before tablet (Contains-append_right change.above (change.old ∷ change.below) tablet (Contains-there change.old tablet change.below b)))
  ]
]

-- ---- in a user table

module _ (reading : Reading) (catalog : Catalog) (known : Ground) (state : PlainState) (is : StandsAs reading catalog known state) (write : RowWrite) (change : RecordChange) (rewrites : RewritesUserTablet known reading write change) where
  abbrev rows : Rows
  rows = reading.users.records change.new.table

  abbrev new_rows : Rows
  new_rows = user_rows_with reading write change.new.table

  abbrev after : Ground
  after = row_written known write

  replaces : ReplacesPiece rows new_rows (piece_of change)
  replaces = (user_tablet_piece known reading is.read.levels write change rewrites).replaces

  old_among : Contains (chain_before (piece_of change)) change.old
  old_among = Contains-append_right change.above (change.old ∷ change.below) change.old (Contains-here change.old change.below)

  pub same_prev : effective_prev new_rows change.new ≡ effective_prev rows change.old
  same_prev = place_prev rows new_rows change rewrites.keeps (rows_after_record reading.users change.new.table write change rewrites.row refl)

  module _ (loaded : change.new.loaded ≡ change.old.loaded) (covered : (was : List Cell) → content_in_place known rows change change.old ≡ Some was → HasCovered was (content_in_place known rows change change.new))
      (node : TableNode) (table : Table) (was : TableStands known rows node table) where
    same_chain : was.chain ≡ chain_before (piece_of change)
    same_chain = one_chain_from rows None was.chain (chain_before (piece_of change)) was.is_chain rewrites.keeps.chain

    content : contents_of known rows (chain_before (piece_of change)) ≡ Some was.cells
    content = subst (λ c. contents_of known rows c ≡ Some was.cells) same_chain was.content

    consistent : HaveConsistentTablets known rows (chain_before (piece_of change))
    consistent = subst (HaveConsistentTablets known rows) same_chain was.consistent

    brought : layers_of known rows (chain_before (piece_of change)) node.mark ≡ Some was.layers
    brought = subst (λ c. layers_of known rows c node.mark ≡ Some was.layers) same_chain was.brought

    all_covered : HasCovered was.cells (contents_of after new_rows (chain_after (piece_of change)))
    all_covered =
        let old = all_each (tablet_content known rows) (chain_before (piece_of change)) was.cells content change.old old_among in
        user_tablet_covered known reading is.read.levels is.read.metadata write change rewrites was.cells old.0 content old.1 (covered old.0 old.1)

    pub place_table : TableStands after new_rows node table
    place_table =
        let ok = consistent_contents known rows (chain_before (piece_of change)) rewrites.keeps.chain consistent was.cells content in
        record {
          chain = chain_after (piece_of change);
          is_chain = replaces.after;
          cells = all_covered.cells;
          content = all_covered.is;
          consistent = covered_tablets after new_rows (chain_after (piece_of change)) all_covered.cells was.cells all_covered.is ok all_covered.covers;
          layers = was.layers;
          brought =
              layers_in_place known rows new_rows node.mark change.above change.below change.old change.new (lacking_same node.mark change.old change.new loaded) rewrites.keeps.end same_prev replaces.above.prev replaces.below.prev
              ∙ brought;
          name = was.name;
          points = λ row. was.points row ∙ ap (list_any (is_ending row)) same_chain ∙ sym (ends_in_place row change.above change.below change.old change.new rewrites.keeps.end);
          pairs = λ key. was.pairs key ∙ ap (layered was.layers key) (sym (newest-covers all_covered.cells was.cells key ok all_covered.covers));
        }

module _ (reading : Reading) (catalog : Catalog) (known : Ground) (state : PlainState) (write : RowWrite) (change : RecordChange) (rewrites : RewritesUserTablet known reading write change) (fits : RowFits known write)
    (loaded : change.new.loaded ≡ change.old.loaded) (covered : (was : List Cell) → content_in_place known (reading.users.records change.new.table) change change.old ≡ Some was → HasCovered was (content_in_place known (reading.users.records change.new.table) change change.new)) where
  pub place_stands : StandsAs reading catalog known state → StandsAs (user_row_written known reading write) catalog (row_written known write) state
  place_stands is = row_stands reading catalog known state is write rewrites.writes fits
      (by_table (λ id. (node : TableNode) → catalog.tables id ≡ Some node → is_online node.state ≡ true → (t : Table) → TableStands known (reading.users.records id) node t → TableStands (row_written known write) (user_rows_with reading write id) node t) change.new.table
      (λ node there online. place_table reading catalog known state is write change rewrites loaded covered node)
      (λ id apart node there online. aside_table reading catalog known state is write rewrites.writes id node there
      (λ chain. (same_rows (reading.users.records id) (user_rows_with reading write id) (rows_apart reading write change.new.table change.new.end (Some change.new) rewrites.row id apart) chain).0)))

  module _ (is : IsKeptAs reading catalog known state) (kept : IsTabletKept known change.new.table (reading.users.records change.new.table) change.old → IsTabletKept known change.new.table (user_rows_with reading write change.new.table) change.new) where
    own_kept : (node : TableNode) → catalog.tables change.new.table ≡ Some node → is_deleting node.state ≡ false → (chain : List TabletRecord) → IsChain (user_rows_with reading write change.new.table) chain
        → (tablet : TabletRecord) → Contains chain tablet → IsTabletKept known change.new.table (user_rows_with reading write change.new.table) tablet
    own_kept node there stays chain is_chain tablet among =
        let piece = (user_tablet_piece known reading is.stands.read.levels write change rewrites).replaces in
        let same : chain ≡ chain_after (piece_of change) = one_chain_from (user_rows_with reading write change.new.table) None chain (chain_after (piece_of change)) is_chain piece.after in
        place_each known change.new.table (reading.users.records change.new.table) (user_rows_with reading write change.new.table) change piece
        (was_kept reading catalog known state is change.new.table node there stays (chain_before (piece_of change)) rewrites.keeps.chain) kept tablet (subst (λ c. Contains c tablet) same among)

    pub place_kept : IsKeptAs (user_row_written known reading write) catalog (row_written known write) state
    place_kept = row_kept reading catalog known state is write rewrites.writes fits
        (by_table (λ id. (node : TableNode) → catalog.tables id ≡ Some node → is_deleting node.state ≡ false → (chain : List TabletRecord) → IsChain (user_rows_with reading write id) chain → (other : TabletRecord) → Contains chain other → IsTabletKept known id (user_rows_with reading write id) other)
        change.new.table own_kept
        (λ id apart node there stays chain is_chain. aside_kept reading catalog known state is write rewrites.writes fits id node there stays chain
        ((same_rows (reading.users.records id) (user_rows_with reading write id) (rows_apart reading write change.new.table change.new.end (Some change.new) rewrites.row id apart) chain).1 is_chain) is_chain))
        (place_stands is.stands)

pub rewrite_stands : (reading : Reading) (catalog : Catalog) (known : Ground) (state : PlainState) → StandsAs reading catalog known state → (write : RowWrite) (change : RecordChange) → RewritesKept known reading write change
    → StandsAs (user_row_written known reading write) catalog (row_written known write) state
rewrite_stands reading catalog known state is write change r = place_stands reading catalog known state write change r.rewrites r.fits r.loaded r.covered is

pub rewrite_kept : (reading : Reading) (catalog : Catalog) (known : Ground) (state : PlainState) → IsKeptAs reading catalog known state → (write : RowWrite) (change : RecordChange) → RewritesKept known reading write change
    → IsKeptAs (user_row_written known reading write) catalog (row_written known write) state
rewrite_kept reading catalog known state is write change r = place_kept reading catalog known state write change r.rewrites r.fits r.loaded r.covered is r.kept
