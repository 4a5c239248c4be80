-- What holds of the tables of images, and of the plain states that tables stand for.
use Rattle.std.specs.Prelude.{◌≡◌, ℕ, true, false, List, [], Ok, Err}
use Rattle.host_model.specs.Picture.{Image}
use Rattle.plain_model.specs.Apply.{apply}
use Rattle.plain_model.specs.declared.stop.PlainStop.TheVariants.{Exists}
use Rattle.table_store.specs.Numbers.{base36, IsDrawable}
use Rattle.store_layout.specs.NewStore.{IsNewStore}
use Rattle.table_store.specs.Tables.{Tables, AreDrawn, no_tables, is_taken, created, plain_of, table_texts, plain_texts}
use Rattle.table_store.specs.Kept.{SaysTables, IsKept}
use Rattle.plain_model.specs.declared.operation.Op.TheVariants.{Create}

-- an image says these tables or none
abbrev pub TablesAreOne : Type 0
TablesAreOne = (image : Image) (a b : Tables) → SaysTables image a → SaysTables image b → a ≡ b

-- a new store is kept, with no tables
abbrev pub NewStoresAreKept : Type 0
NewStoresAreKept = (image : Image) → IsNewStore image → IsKept image no_tables

-- a table of a free name is what its operation makes
abbrev pub CreatedIsApplied : Type 0
CreatedIsApplied = (name : List ℕ) (tables : Tables) → AreDrawn tables → IsDrawable tables.next → is_taken name tables ≡ false → apply (Create (base36 tables.next) name []) (plain_of tables) ≡ Ok (plain_of (created name tables))

-- an operation with a taken name is refused
abbrev pub TakenIsRefused : Type 0
TakenIsRefused = (id name : List ℕ) (splits : List (List ℕ)) (tables : Tables) → AreDrawn tables → is_taken name tables ≡ true → apply (Create id name splits) (plain_of tables) ≡ Err Exists

-- the texts of tables are those of the plain state that they stand for
abbrev pub TextsArePlain : Type 0
TextsArePlain = (tables : Tables) → AreDrawn tables → plain_texts (plain_of tables) ≡ table_texts tables
