-- The columns of a record, as the updates that write them, in order.
use Rattle.std.specs.Prelude.{ℕ, ◌&&◌, Bool, List, [], ◌∷◌, ◌++◌, map, drop, codes, Option, Some, None, if◌then◌else◌}
use Rattle.std.specs.Option.{option_map, option_flatten}
use Rattle.std.specs.Ordering.{ordering_then}
use Rattle.std.specs.Fmt.{decimal}
use Rattle.std.specs.declared.cmp.Ordering.{Ordering}
use Rattle.row_keys.specs.RowOrder.{bytes_cmp}
use Rattle.row_keys.specs.MetadataRow.{prev_value}
use Rattle.metadata_schema.specs.declared.mutation.Update.{Update}
use Rattle.metadata_schema.specs.declared.tablet.FileEntry.{FileEntry}
use Rattle.metadata_schema.specs.declared.tablet.LoadedEntry.{LoadedEntry}
use Rattle.metadata_schema.specs.declared.tablet.Holder.{Holder}
use Rattle.metadata_schema.specs.declared.tablet.TabletRecord.{TabletRecord}
use Rattle.metadata_schema.specs.Bytes.{same}
use Rattle.metadata_schema.specs.Values.{file_value, bar_value, chopped_value}

abbrev pub written : List ℕ → List ℕ → List ℕ → Update
written family qualifier value = record { family = family; qualifier = qualifier; value = Some value }

-- a column that stands there or not
abbrev pub at_most_one : List ℕ → List ℕ → Option (List ℕ) → List Update
at_most_one family qualifier None = []
at_most_one family qualifier (Some value) = written family qualifier value ∷ []

abbrev pub file_column : FileEntry → Update
file_column file = written (codes "file") file.path (file_value file.size file.entries file.time)

abbrev pub loaded_column : LoadedEntry → Update
loaded_column entry = written (codes "loaded") entry.path (decimal entry.tid)

-- the session is what stands behind `log-`
abbrev pub log_column : List ℕ → Update
log_column log = written (codes "log") log (drop 4 log)

abbrev pub holder_columns : List ℕ → Option Holder → List Update
holder_columns family None = []
holder_columns family (Some holder) = written family holder.session holder.server ∷ []

-- the columns of the families `srv` and `~tab`
abbrev pub fixed_columns : TabletRecord → List Update
fixed_columns tablet =
    at_most_one (codes "srv") (codes "dir") (Some tablet.dir)
    ++ (at_most_one (codes "srv") (codes "time") (Some (bar_value tablet.time))
    ++ (at_most_one (codes "~tab") (codes "merged") (option_map decimal tablet.merged)
    ++ (at_most_one (codes "~tab") (codes "oldprevrow") (option_map prev_value tablet.old_prev)
    ++ at_most_one (codes "~tab") (codes "~pr") (Some (prev_value tablet.prev)))))

abbrev pub columns_of : TabletRecord → List Update
columns_of tablet =
    at_most_one (codes "chopped") (codes "chopped") (chopped_value tablet.chopped)
    ++ (map file_column tablet.files
    ++ (holder_columns (codes "future") tablet.future
    ++ (map loaded_column tablet.loaded
    ++ (holder_columns (codes "loc") tablet.loc
    ++ (map log_column tablet.logs
    ++ fixed_columns tablet)))))

-- by family, then by qualifier
abbrev pub update_cmp : Update → Update → Ordering
update_cmp a b = ordering_then (bytes_cmp a.family b.family) (bytes_cmp a.qualifier b.qualifier)

abbrev pub is_named : List ℕ → List ℕ → Update → Bool
is_named family qualifier update = same update.family family && same update.qualifier qualifier

-- what updates say of a column: nothing, or a value, or that it is removed
abbrev pub update_at : List Update → List ℕ → List ℕ → Option (Option (List ℕ))
update_at [] family qualifier = None
update_at (update ∷ more) family qualifier = if is_named family qualifier update then Some update.value else update_at more family qualifier

-- the value of a column, among columns
abbrev pub column_at : List Update → List ℕ → List ℕ → Option (List ℕ)
column_at columns family qualifier = option_flatten (update_at columns family qualifier)
