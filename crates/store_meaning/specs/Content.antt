-- The cells of a tablet: those of its files, and those of its table's mutations past its bar.
use Rattle.std.specs.Prelude.{ℕ, ◌&&◌, nat_lt, Bool, List, [], ◌∷◌, ◌++◌, map, filter, codes, Option, Some, None}
use Rattle.std.specs.List.{flat_map}
use Rattle.std.specs.Option.{option_map}
use Rattle.metadata_schema.specs.declared.mutation.Mutation.{Mutation}
use Rattle.metadata_schema.specs.declared.tablet.FileEntry.{FileEntry}
use Rattle.metadata_schema.specs.declared.tablet.Holder.{Holder}
use Rattle.metadata_schema.specs.declared.tablet.TabletRecord.{TabletRecord}
use Rattle.metadata_schema.specs.Bytes.{same}
use Rattle.cell_merge.specs.declared.cell.Cell.{Cell}
use Rattle.cell_merge.specs.Newest.{clipped}
use Rattle.level_rows.specs.Chain.{Rows, effective_prev}
use Rattle.store_layout.specs.NewStore.{cell_of}
use Rattle.store_meaning.specs.Ground.{Ground}

-- one behind the other, where both are told
abbrev pub both_told : {Y : Type 0} → Option (List Y) → Option (List Y) → Option (List Y)
both_told None back = None
both_told (Some front) None = None
both_told (Some front) (Some back) = Some (front ++ back)

-- what is told of each of these, one behind the other, where all is told
abbrev pub all_told : {X Y : Type 0} → (X → Option (List Y)) → List X → Option (List Y)
all_told tell [] = Some []
all_told tell (x ∷ more) = both_told (tell x) (all_told tell more)

-- the cell with the time of its file's column, where that has one
abbrev pub timed : Option ℕ → Cell → Cell
timed None cell = cell
timed (Some time) cell = record cell { time = time }

-- the cells of a file as its column says
abbrev pub file_cells : Ground → FileEntry → Option (List Cell)
file_cells known file = option_map (map (timed file.time)) (known.cells_of file.path)

-- what a mutation writes at its row and time
abbrev pub cells_of_mutation : Mutation → List Cell
cells_of_mutation mutation = map (cell_of mutation.row mutation.time) mutation.updates

-- the mutation is of the tablet's table, and past its bar
abbrev pub counts_for : TabletRecord → Mutation → Bool
counts_for tablet mutation = same mutation.table tablet.table && nat_lt tablet.time mutation.time

-- the cells that a log has for a tablet
abbrev pub log_cells : Ground → TabletRecord → List ℕ → Option (List Cell)
log_cells known tablet log = option_map (λ mutations. flat_map cells_of_mutation (filter (counts_for tablet) mutations)) (known.mutations_of log)

-- the log of a server's session
abbrev pub log_of_holder : Option Holder → List (List ℕ)
log_of_holder None = []
log_of_holder (Some holder) = (codes "log-" ++ holder.session) ∷ []

-- the logs that a record names, and that of the session in its `loc`
abbrev pub logs_of : TabletRecord → List (List ℕ)
logs_of tablet = tablet.logs ++ log_of_holder tablet.loc

-- The cells of the files and logs, of the rows above this lower bound and up to the end row. None is where a file or log isn't told.
abbrev pub content_of : Ground → Option (List ℕ) → TabletRecord → Option (List Cell)
content_of known low tablet =
    option_map (clipped low tablet.end) (both_told (all_told (file_cells known) tablet.files) (all_told (log_cells known tablet) (logs_of tablet)))

-- the content of a tablet among the rows of its table
abbrev pub tablet_content : Ground → Rows → TabletRecord → Option (List Cell)
tablet_content known rows tablet = content_of known (effective_prev rows tablet) tablet

-- the cells of all tablets of a chain
abbrev pub contents_of : Ground → Rows → List TabletRecord → Option (List Cell)
contents_of known rows chain = all_told (tablet_content known rows) chain
