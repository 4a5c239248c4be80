-- The table of columns: of each kind its names and its values.
use Rattle.std.specs.Prelude.{◌≡◌, ◌⊎◌, ℕ, List, Option, Some, None, MatchOption, codes, drop, if◌then◌else◌}
use Rattle.row_keys.specs.Forms.{IsSessionId, IsLogName, IsServerName}
use Rattle.row_keys.specs.MetadataRow.{IsPrevValue}
use Rattle.metadata_schema.specs.declared.mutation.Update.{Update}
use Rattle.metadata_schema.specs.declared.kind.Kind.{Kind}
use Rattle.metadata_schema.specs.declared.kind.Kind.TheVariants.{Chopped, File, Future, Loaded, Loc, Log, Dir, Time, Merged, OldPrev, Prev}
use Rattle.metadata_schema.specs.Bytes.{same}
use Rattle.metadata_schema.specs.Paths.{IsDirectory, IsFilePath}
use Rattle.metadata_schema.specs.Values.{IsNumberText, IsBarValue, IsFileValue}

-- `srv:dir` and `srv:time`
abbrev pub server_kind : List ℕ → Option Kind
server_kind qualifier = if same qualifier (codes "dir") then Some Dir else (if same qualifier (codes "time") then Some Time else None)

-- `~tab:merged`, `~tab:oldprevrow` and `~tab:~pr`
abbrev pub tablet_kind : List ℕ → Option Kind
tablet_kind qualifier = if same qualifier (codes "merged") then Some Merged else (if same qualifier (codes "oldprevrow") then Some OldPrev else (if same qualifier (codes "~pr") then Some Prev else None))

-- the kind of the column of a family and qualifier
abbrev pub kind_of : List ℕ → List ℕ → Option Kind
kind_of family qualifier =
    if same family (codes "chopped") then (if same qualifier (codes "chopped") then Some Chopped else None)
    else (if same family (codes "file") then Some File
    else (if same family (codes "future") then Some Future
    else (if same family (codes "loaded") then Some Loaded
    else (if same family (codes "loc") then Some Loc
    else (if same family (codes "log") then Some Log
    else (if same family (codes "srv") then server_kind qualifier
    else (if same family (codes "~tab") then tablet_kind qualifier
    else None)))))))

-- what the qualifier of a column is
abbrev pub IsQualifier : Kind → List ℕ → Type 0
IsQualifier File qualifier = IsFilePath qualifier
IsQualifier Loaded qualifier = IsFilePath qualifier
IsQualifier Loc qualifier = IsSessionId qualifier
IsQualifier Future qualifier = IsSessionId qualifier
IsQualifier Log qualifier = IsLogName qualifier
IsQualifier Chopped qualifier = Unit {0}
IsQualifier Dir qualifier = Unit {0}
IsQualifier Time qualifier = Unit {0}
IsQualifier Merged qualifier = Unit {0}
IsQualifier OldPrev qualifier = Unit {0}
IsQualifier Prev qualifier = Unit {0}

-- what the value of a column is; a log's is the session in its name
abbrev pub IsValue : Kind → List ℕ → List ℕ → Type 0
IsValue Chopped qualifier value = value ≡ codes "chopped"
IsValue File qualifier value = IsFileValue value
IsValue Future qualifier value = IsServerName value
IsValue Loaded qualifier value = IsNumberText value
IsValue Loc qualifier value = IsServerName value
IsValue Log qualifier value = value ≡ drop 4 qualifier
IsValue Dir qualifier value = IsDirectory value
IsValue Time qualifier value = IsBarValue value
IsValue Merged qualifier value = IsNumberText value
IsValue OldPrev qualifier value = (prev : Option (List ℕ)) × IsPrevValue prev value
IsValue Prev qualifier value = (prev : Option (List ℕ)) × IsPrevValue prev value

-- a column of the table
abbrev pub IsColumn : List ℕ → List ℕ → Type 0
IsColumn family qualifier = MatchOption (kind_of family qualifier) ⊥ (λ kind. IsQualifier kind qualifier)

-- a value as its column has them
abbrev pub IsValued : Update → Type 0
IsValued update = MatchOption (kind_of update.family update.qualifier) ⊥ (λ kind. MatchOption update.value ⊥ (IsValue kind update.qualifier))

-- the families of which a row has one column at most
abbrev pub IsHolderFamily : List ℕ → Type 0
IsHolderFamily family = (family ≡ codes "loc") ⊎ (family ≡ codes "future")
