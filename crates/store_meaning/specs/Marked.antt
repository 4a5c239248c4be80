-- What import marks and staged files name, and what an import mark brings to the tablets of its table.
use Rattle.std.specs.Prelude.{◌≡◌, ◌⊎◌, ℕ, ◌==◌, ◌&&◌, not, Bool, false, List, [], ◌∷◌, Option, Some, Contains, filter}
use Rattle.std.specs.List.{flat_map, list_any, list_all}
use Rattle.std.specs.Option.{option_map}
use Rattle.row_keys.specs.declared.key.Key.{Key}
use Rattle.metadata_schema.specs.declared.tablet.TabletRecord.{TabletRecord}
use Rattle.metadata_schema.specs.Bytes.{same}
use Rattle.cell_merge.specs.declared.cell.Cell.{Cell}
use Rattle.cell_merge.specs.Newest.{clipped, latest}
use Rattle.cell_merge.specs.Changes.{overlaid}
use Rattle.level_rows.specs.Chain.{Rows, effective_prev}
use Rattle.store_layout.specs.declared.tables.Mark.{Mark}
use Rattle.store_layout.specs.declared.tables.Mark.TheVariants.{Free, Merge, Import}
use Rattle.store_layout.specs.declared.tables.TableNode.{TableNode}
use Rattle.store_layout.specs.Tables.{Catalog}
use Rattle.store_meaning.specs.Ground.{Ground}
use Rattle.store_meaning.specs.Content.{all_told}
use Rattle.store_meaning.specs.Levels.{Reading}
use Rattle.store_meaning.specs.InUse.{IsFileInUse, AgreeInUse}

-- the files of an import mark, in their order; no other mark has any
abbrev pub mark_paths : Mark → List (List ℕ)
mark_paths Free = []
mark_paths (Merge tid phase from to) = []
mark_paths (Import tid paths) = paths

-- ---- which files count

-- a table's import mark names this path
pub record IsMarkedFile (catalog : Catalog) (path : List ℕ) : Type 0 where
  pub id : List ℕ
  pub table : TableNode
  pub there : catalog.tables id ≡ Some table
  pub marked : Contains (mark_paths table.mark) path

-- a staged file has this path
pub record IsStagedFile (catalog : Catalog) (path : List ℕ) : Type 0 where
  pub name : List ℕ
  pub there : catalog.staged name ≡ Some path

-- a file that a table's mark or a staged file's node names
abbrev pub IsFileOfNodes : Catalog → List ℕ → Type 0
IsFileOfNodes catalog path = IsMarkedFile catalog path ⊎ IsStagedFile catalog path

-- every data file that counts: named by a record, flagged, or named by the nodes
abbrev pub IsFileCounted : Reading → Catalog → List ℕ → Type 0
IsFileCounted reading catalog path = IsFileInUse reading path ⊎ IsFileOfNodes catalog path

-- The same nodes, and the same of each file, log and sorted log that counts.
pub record AgreeWhereCounted (reading : Reading) (catalog : Catalog) (old new : Ground) : Type 0 where
  pub in_use : AgreeInUse reading old new
  pub of_nodes : (path : List ℕ) → IsFileOfNodes catalog path → new.cells_of path ≡ old.cells_of path

-- ---- what an import mark brings

-- the tablet has the `loaded` column of this transaction and path
abbrev pub has_loaded : ℕ → TabletRecord → List ℕ → Bool
has_loaded tid tablet path = list_any (λ entry. same entry.path path && entry.tid == tid) tablet.loaded

-- the tablet lacks a `loaded` column of an import mark
abbrev pub is_lacking : Mark → TabletRecord → Bool
is_lacking Free tablet = false
is_lacking (Merge tid phase from to) tablet = false
is_lacking (Import tid paths) tablet = not (list_all (has_loaded tid tablet) paths)

-- those of a file's cells that lie in these tablets
abbrev pub cells_within : Rows → List TabletRecord → List Cell → List Cell
cells_within rows tablets cells = flat_map (λ tablet. clipped (effective_prev rows tablet) tablet.end cells) tablets

-- a file as one layer over these tablets
abbrev pub layer_of : Ground → Rows → List TabletRecord → List ℕ → Option (List (List Cell))
layer_of known rows tablets path = option_map (λ cells. cells_within rows tablets cells ∷ []) (known.cells_of path)

-- The layers of a mark's files, in their order, over the tablets of a chain that lack it. None is where a file isn't told.
abbrev pub layers_of : Ground → Rows → List TabletRecord → Mark → Option (List (List Cell))
layers_of known rows chain mark = all_told (layer_of known rows (filter (is_lacking mark) chain)) (mark_paths mark)

-- a file as one layer over all tablets
abbrev pub whole_layer : Ground → List ℕ → Option (List (List Cell))
whole_layer known path = option_map (λ cells. cells ∷ []) (known.cells_of path)

-- what a key has with these layers over it, a later one over an earlier one
abbrev pub layered : List (List Cell) → Key → Option (List ℕ) → Option (List ℕ)
layered [] key below = below
layered (cells ∷ more) key below = layered more key (overlaid (latest cells key) below)
