-- What makes up a reading, and what stands in its way.
use Rattle.std.proofs.Common.{◌≡◌, ℕ, List, [], ◌∷◌, Option, None, refl, sym, ◌∙◌, ap, subst}
use Rattle.metadata_schema.specs.declared.tablet.TabletRecord.{TabletRecord}
use Rattle.cell_merge.specs.declared.cell.Cell.{Cell}
use Rattle.level_rows.specs.Chain.{Rows, IsChain, rows_of}
use Rattle.level_rows.proofs.WayLemmas.{one_chain_from}
use Rattle.store_layout.specs.declared.tables.Mark.{Mark}
use Rattle.store_layout.specs.declared.tables.Mark.TheVariants.{Free}
use Rattle.store_meaning.specs.Ground.{Ground}
use Rattle.store_meaning.specs.Levels.{Reading, IsReadingOf, root_id, root_rows, metadata_rows}
use Rattle.store_meaning.specs.Readable.{HaveConsistentTablets, IsReadAs}
use Rattle.plain_reader.specs.Parts.{AreParts}
use Rattle.plain_state.specs.Read.{AreFilesThere, AreLogsThere}

-- the parts of a table say that the tablets of its chain are consistent
pub consistent_chain : (known : Ground) (rows : Rows) (mark : Mark) (chain own : List TabletRecord) (cells : List Cell) (layers : List (List Cell)) → IsChain rows own → AreParts known rows mark chain cells layers → HaveConsistentTablets known rows own
consistent_chain known rows mark chain own cells layers is parts = subst (HaveConsistentTablets known rows) (one_chain_from rows None chain own parts.is_chain is) parts.consistent

-- the root tablet has the table's id
pub root_table : (known : Ground) (reading : Reading) → IsReadingOf known reading → reading.root.table ≡ root_id
root_table known reading is = is.root.at.table_is

pub read_as : (known : Ground) (reading : Reading) → IsReadingOf known reading → AreFilesThere known reading → AreLogsThere known reading → HaveConsistentTablets known (root_rows reading) (reading.root ∷ [])
    → HaveConsistentTablets known (metadata_rows reading) reading.chain → IsReadAs reading known
read_as known reading is files logs root metadata = record {
  levels = is;
  in_use = record { files = files.each; logs = logs.logs; sorted = logs.sorted };
  logs = logs.lists;
  root = root;
  metadata = metadata;
}
