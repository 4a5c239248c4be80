-- What is listed of the entries in a range of rows.
use Rattle.std.specs.Prelude.{ℕ, List, Option, Some, None, if◌then◌else◌}
use Rattle.metadata_schema.specs.declared.tablet.TabletRecord.{TabletRecord}
use Rattle.metadata_schema.specs.Bytes.{same}
use Rattle.state_reader.specs.declared.level.LoadFlag.{LoadFlag}
use Rattle.level_index.specs.declared.entry.LevelEntry.{LevelEntry}
use Rattle.level_index.specs.declared.entry.LevelEntry.TheVariants.{Tablet, Candidate, Flag}

-- the record, where it is one of this table
abbrev pub record_of : List ℕ → LevelEntry → Option TabletRecord
record_of table (Tablet tablet) = if same tablet.table table then Some tablet else None
record_of table (Candidate path) = None
record_of table (Flag flag) = None

abbrev pub candidate_of : LevelEntry → Option (List ℕ)
candidate_of (Tablet tablet) = None
candidate_of (Candidate path) = Some path
candidate_of (Flag flag) = None

abbrev pub flag_of : LevelEntry → Option LoadFlag
flag_of (Tablet tablet) = None
flag_of (Candidate path) = None
flag_of (Flag flag) = Some flag
