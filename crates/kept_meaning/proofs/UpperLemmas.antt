-- Holders that change, and a flush, of a tablet of `!0` and of the root tablet.
use Rattle.std.proofs.Common.{◌≡◌, [], ◌∷◌, None, Contains, sym, ◌∙◌, subst}
use Rattle.metadata_schema.specs.declared.tablet.TabletRecord.{TabletRecord}
use Rattle.level_rows.specs.Chain.{Rows, rows_of, effective_prev}
use Rattle.level_rows.specs.Changes.{with_row}
use Rattle.level_rows.proofs.WayLemmas.{one_chain_from}
use Rattle.node_store.specs.Nodes.{Nodes}
use Rattle.store_meaning.specs.Ground.{Ground}
use Rattle.store_meaning.specs.Levels.{Reading, IsReadingOf, root_id, metadata_id, root_rows, metadata_rows}
use Rattle.store_meaning.specs.RowWrites.{RowWrite, metadata_rows_with, WritesRoot}
use Rattle.store_meaning.specs.ChainWrites.{chain_before, chain_after, ReplacesPiece, RecordChange, piece_of, RewritesMetadataTablet}
use Rattle.store_meaning.proofs.ChainWriteLemmas.{rows_after_record, metadata_tablet_written}
use Rattle.store_meaning.proofs.RecordPieces.{record_replaced}
use Rattle.kept_meaning.specs.Rows.{RowFits, IsTabletKept}
use Rattle.kept_meaning.specs.UpperRows.{WritesMetadataKept, ChangesMetadataHolder, FlushesMetadataTablet, ReplacesMetadataFiles, WritesRootKept, ChangesRootHolder, FlushesRoot, ReplacesRootFiles}
use Rattle.kept_meaning.proofs.PlaceLemmas.{place_prev, place_each}
use Rattle.kept_meaning.proofs.RootLemmas.{lone_prev}
use Rattle.kept_meaning.proofs.TabletLemmas.{holders_kept, flush_kept, files_kept}

-- ---- of `!0`

module _ (reading : Reading) (known : Ground) (is : IsReadingOf known reading) (write : RowWrite) (change : RecordChange) where
  abbrev rows : Rows
  rows = metadata_rows reading

  abbrev new_rows : Rows
  new_rows = metadata_rows_with reading write

  with_it : RewritesMetadataTablet known reading write change → new_rows ≡ with_row rows change.new
  with_it rewrites = rows_after_record reading.metadata metadata_id write change rewrites.row rewrites.metadata

  in_place : (rewrites : RewritesMetadataTablet known reading write change) → RowFits known write → (IsTabletKept known metadata_id rows change.old → IsTabletKept known metadata_id new_rows change.new)
      → WritesMetadataKept known reading write (chain_after (piece_of change))
  in_place rewrites fits kept = record {
    writes = metadata_tablet_written known reading is write change rewrites;
    fits = fits;
    kept = λ were.
        let replaces : ReplacesPiece rows new_rows (piece_of change) = subst (λ q. ReplacesPiece rows q (piece_of change)) (sym (with_it rewrites)) (record_replaced rows change rewrites.keeps) in
        let chain : chain_before (piece_of change) ≡ reading.chain = one_chain_from rows None (chain_before (piece_of change)) reading.chain rewrites.keeps.chain is.chain in
        place_each known metadata_id rows new_rows change replaces (λ tablet among. were tablet (subst (λ c. Contains c tablet) chain among)) kept;
  }

  pub metadata_holder : ChangesMetadataHolder known reading write change → WritesMetadataKept known reading write (chain_after (piece_of change))
  metadata_holder c = in_place c.rewrites c.fits
      (holders_kept known metadata_id rows new_rows change.old change.new (place_prev rows new_rows change c.rewrites.keeps (with_it c.rewrites)) c.rewrites.keeps.end c.rewrites.metadata c.holders)

  pub metadata_flush : FlushesMetadataTablet known reading write change → WritesMetadataKept known reading write (chain_after (piece_of change))
  metadata_flush c = in_place c.rewrites c.fits
      (flush_kept known metadata_id rows new_rows change.old change.new (place_prev rows new_rows change c.rewrites.keeps (with_it c.rewrites)) c.rewrites.keeps.end c.rewrites.metadata c.flushes)

  pub metadata_files : ReplacesMetadataFiles known reading write change → WritesMetadataKept known reading write (chain_after (piece_of change))
  metadata_files c = in_place c.rewrites c.fits
      (files_kept known metadata_id rows new_rows change.old change.new (place_prev rows new_rows change c.rewrites.keeps (with_it c.rewrites)) c.rewrites.keeps.end c.rewrites.metadata c.replaces c.removals)

-- ---- the root record

module _ (reading : Reading) (known : Ground) (is : IsReadingOf known reading) (nodes : Nodes) (root : TabletRecord) where
  same_prev : WritesRoot known reading nodes root → effective_prev (rows_of root_id (root ∷ [])) root ≡ effective_prev (root_rows reading) reading.root
  same_prev writes = lone_prev (rows_of root_id (root ∷ [])) root writes.is_chain ∙ sym (lone_prev (root_rows reading) reading.root is.root_chain)

  same_end : WritesRoot known reading nodes root → root.end ≡ reading.root.end
  same_end writes = writes.node.at.end_is ∙ sym is.root.at.end_is

  pub root_holder : ChangesRootHolder known reading nodes root → WritesRootKept known reading nodes root
  root_holder c = record {
    writes = c.writes;
    names = c.names;
    drawn = c.drawn;
    kept = holders_kept known root_id (root_rows reading) (rows_of root_id (root ∷ [])) reading.root root (same_prev c.writes) (same_end c.writes) c.writes.node.at.table_is c.holders;
  }

  pub root_flush : FlushesRoot known reading nodes root → WritesRootKept known reading nodes root
  root_flush c = record {
    writes = c.writes;
    names = c.names;
    drawn = c.drawn;
    kept = flush_kept known root_id (root_rows reading) (rows_of root_id (root ∷ [])) reading.root root (same_prev c.writes) (same_end c.writes) c.writes.node.at.table_is c.flushes;
  }

  pub root_files : ReplacesRootFiles known reading nodes root → WritesRootKept known reading nodes root
  root_files c = record {
    writes = c.writes;
    names = c.names;
    drawn = c.drawn;
    kept = files_kept known root_id (root_rows reading) (rows_of root_id (root ∷ [])) reading.root root (same_prev c.writes) (same_end c.writes) c.writes.node.at.table_is c.replaces c.removals;
  }
