-- The two upper levels of a running store, each once it has been read.
use Rattle.std.specs.Prelude.{Option, None, refl}
use Rattle.std.specs.Coded.{Coded, code_by, coded×, coded_option}
use Rattle.state_reader.specs.declared.level.LevelKind.{LevelKind}
use Rattle.state_reader.specs.declared.level.LevelKind.TheVariants.{Metadata, Users}
use Rattle.level_index.specs.Entries.{LevelMap}

pub record CachedLevels : Type 0 where
  -- the records of the metadata table's tablets
  pub metadata : Option LevelMap
  -- those of all other tables' tablets
  pub users : Option LevelMap

-- how they are stored
abbrev pub cached_code : Coded LevelMap → Coded CachedLevels
cached_code level = code_by (Option LevelMap × Option LevelMap) (coded× (coded_option level) (coded_option level)) (λ c. (c.metadata, c.users)) (λ p. record { metadata = p.0; users = p.1 }) (λ _. refl)

-- nothing has been read
abbrev pub nothing_read : CachedLevels
nothing_read = record { metadata = None; users = None }

-- the level of this kind, if it has been read
abbrev pub kept_level : LevelKind → CachedLevels → Option LevelMap
kept_level Metadata cache = cache.metadata
kept_level Users cache = cache.users
