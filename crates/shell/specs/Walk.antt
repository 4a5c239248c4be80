-- The stores that the lines of a script make, one after another.
use Rattle.std.specs.Prelude.{◌≡◌, ℕ, List, [], ◌∷◌, take, slice_get, Some, false, MatchBool}
use Rattle.script_words.specs.Lines.{line_of}
use Rattle.script_words.specs.declared.line.Line.{Line}
use Rattle.script_words.specs.declared.line.Line.TheVariants.{Blank, CreateTable, Tables as ListTables, Unbuilt}
use Rattle.table_store.specs.Tables.{is_taken}
use Rattle.table_store.specs.Room.{Station, AddsTable, IsCreateFull}

-- what a line makes of a store
abbrev pub Steps : Line → Station → Station → Type 0
Steps Blank old new = new ≡ old
Steps (CreateTable name) old new = MatchBool (is_taken name old.tables) (new ≡ old) (AddsTable name old new)
Steps ListTables old new = new ≡ old
Steps Unbuilt old new = new ≡ old

-- what the texts of lines make of it
abbrev pub Walks : List (List ℕ) → Station → Station → Type 0
Walks [] start last = last ≡ start
Walks (text ∷ texts) start last = (next : Station) × Steps (line_of text) start next × Walks texts next last

-- the line makes a table for which there is no room
abbrev pub LacksRoom : Line → Station → Type 0
LacksRoom Blank station = ⊥
LacksRoom (CreateTable name) station = (is_taken name station.tables ≡ false) × IsCreateFull name station.tables station.nodes
LacksRoom ListTables station = ⊥
LacksRoom Unbuilt station = ⊥

-- the line behind so many lacks room
pub record IsFullAt (start : Station) (texts : List (List ℕ)) (count : ℕ) : Type 0 where
  pub station : Station
  pub walks : Walks (take count texts) start station
  pub text : List ℕ
  pub is : slice_get texts count ≡ Some text
  pub full : LacksRoom (line_of text) station
