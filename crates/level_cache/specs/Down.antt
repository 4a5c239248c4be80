-- Which of the upper tablets is on no live server.
use Rattle.std.specs.Prelude.{◌≡◌, ℕ, List, ◌∷◌, ◌++◌, Option, MatchOption, All}
use Rattle.row_keys.specs.MetadataRow.{metadata_row}
use Rattle.metadata_schema.specs.declared.tablet.TabletRecord.{TabletRecord}
use Rattle.store_meaning.specs.Levels.{Reading, metadata_rows}
use Rattle.server_list.specs.declared.entry.Place.{Place}
use Rattle.server_list.specs.declared.entry.Place.TheVariants.{Live}
use Rattle.server_list.specs.Servers.{Servers}
use Rattle.server_list.specs.Places.{place_of}
use Rattle.level_cache.specs.Tables.{AreRecordsAt}

-- the tablet is on a live server
abbrev pub IsLive : Servers → TabletRecord → Type 0
IsLive servers tablet = (name : List ℕ) × (place_of tablet.loc servers ≡ Live name)

-- where it is instead
pub record IsAway (servers : Servers) (tablet : TabletRecord) (place : Place) : Type 0 where
  pub is : place ≡ place_of tablet.loc servers
  pub away : IsLive servers tablet → ⊥

-- the row and the place of the first of these tablets that is on no live server
pub record IsFirstAway (servers : Servers) (tablets : List TabletRecord) (down : List ℕ × Place) : Type 0 where
  pub front : List TabletRecord
  pub tablet : TabletRecord
  pub back : List TabletRecord
  pub are : tablets ≡ front ++ tablet ∷ back
  pub before : All (IsLive servers) front
  pub row : down.0 ≡ metadata_row tablet.table tablet.end
  pub place : IsAway servers tablet down.1

-- the first of them, or none where each is on a live server
abbrev pub IsDownIn : Servers → List TabletRecord → Option (List ℕ × Place) → Type 0
IsDownIn servers tablets found = MatchOption found (All (IsLive servers) tablets) (IsFirstAway servers tablets)

-- so of the root tablet and, behind it, the tablets of the metadata table in the order of their rows
pub record AreLevelsDown (servers : Servers) (reading : Reading) (found : Option (List ℕ × Place)) : Type 0 where
  pub records : List TabletRecord
  pub are : AreRecordsAt (metadata_rows reading) records
  pub is : IsDownIn servers (reading.root ∷ records) found
