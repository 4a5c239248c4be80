-- Records whose columns are of the table.
use Rattle.std.specs.Prelude.{◌≡◌, ℕ, ◌<◌, ◌≤◌, ◌^◌, List, [], Option, None, false, length, map, IsTrue, IfSome}
use Rattle.std.specs.List.{All}
use Rattle.row_keys.specs.Forms.{IsSessionId, IsLogName, IsServerName}
use Rattle.row_keys.specs.MetadataRow.{IsMetadataRow}
use Rattle.row_keys.specs.RowOrder.{bytes_cmp}
use Rattle.metadata_schema.specs.declared.mutation.Update.{Update}
use Rattle.metadata_schema.specs.declared.tablet.FileEntry.{FileEntry}
use Rattle.metadata_schema.specs.declared.tablet.LoadedEntry.{LoadedEntry}
use Rattle.metadata_schema.specs.declared.tablet.Holder.{Holder}
use Rattle.metadata_schema.specs.declared.tablet.TabletRecord.{TabletRecord}
use Rattle.metadata_schema.specs.Bytes.{is_rising}
use Rattle.metadata_schema.specs.Paths.{IsDirectory, IsFilePath}
use Rattle.metadata_schema.specs.Values.{AreFileFacts}
use Rattle.metadata_schema.specs.Columns.{columns_of}

pub record IsFile (file : FileEntry) : Type 0 where
  pub path : IsFilePath file.path
  pub facts : AreFileFacts file.size file.entries file.time

pub record IsLoaded (entry : LoadedEntry) : Type 0 where
  pub path : IsFilePath entry.path
  pub tid : entry.tid < 2 ^ 64

pub record IsHolder (holder : Holder) : Type 0 where
  pub session : IsSessionId holder.session
  pub server : IsServerName holder.server

-- files, logs and loaded entries strictly increase by their columns
pub record IsInOrder (tablet : TabletRecord) : Type 0 where
  pub files : IsTrue (is_rising bytes_cmp (map (λ file. file.path) tablet.files))
  pub logs : IsTrue (is_rising bytes_cmp tablet.logs)
  pub loaded : IsTrue (is_rising bytes_cmp (map (λ entry. entry.path) tablet.loaded))

-- each part is of its form
pub record IsWellFormed (tablet : TabletRecord) : Type 0 where
  pub order : IsInOrder tablet
  pub dir : IsDirectory tablet.dir
  pub bar : tablet.time < 2 ^ 63
  pub prev : IfSome tablet.prev (λ row. length row ≤ 300)
  pub old_prev : IfSome tablet.old_prev (λ prev. IfSome prev (λ row. length row ≤ 300))
  pub merged : IfSome tablet.merged (λ tid. tid < 2 ^ 64)
  pub loc : IfSome tablet.loc IsHolder
  pub future : IfSome tablet.future IsHolder
  pub files : All IsFile tablet.files
  pub logs : All IsLogName tablet.logs
  pub loaded : All IsLoaded tablet.loaded

-- the record of this row whose columns these are
pub record IsRecordOf (row : List ℕ) (columns : List Update) (tablet : TabletRecord) : Type 0 where
  pub named : IsMetadataRow tablet.table tablet.end row
  pub spelled : columns ≡ columns_of tablet
  pub form : IsWellFormed tablet

-- a tablet with nothing in it
abbrev pub new_tablet : List ℕ → Option (List ℕ) → Option (List ℕ) → List ℕ → TabletRecord
new_tablet table end prev dir = record {
  table = table;
  end = end;
  prev = prev;
  old_prev = None;
  dir = dir;
  time = 0;
  loc = None;
  future = None;
  files = [];
  logs = [];
  loaded = [];
  chopped = false;
  merged = None;
}
