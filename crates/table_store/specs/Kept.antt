-- What an image stands for.
use Rattle.std.specs.Prelude.{◌≡◌}
use Rattle.host_model.specs.Picture.{Image}
use Rattle.node_store.specs.Nodes.{Nodes}
use Rattle.node_store.specs.Image.{HasNodes}
use Rattle.store_layout.specs.Names.{nodes_name}
use Rattle.store_meaning.specs.Readable.{IsReadable}
use Rattle.plain_model.specs.State.{PlainState}
use Rattle.table_store.specs.Tables.{Tables, plain_of}
use Rattle.table_store.specs.Reading.{IsReading}

-- the image's nodes say these tables
pub record SaysTables (image : Image) (tables : Tables) : Type 0 where
  pub nodes : Nodes
  pub has : HasNodes nodes_name image nodes
  pub reading : IsReading nodes tables

-- it has no nodes, or these say no tables of any kind
pub record SaysNoTables (image : Image) : Type 0 where
  pub none : (tables : Tables) → SaysTables image tables → ⊥

-- the image is kept, and these are its tables: its nodes say them, and it can be read
pub record IsKept (image : Image) (tables : Tables) : Type 0 where
  pub says : SaysTables image tables
  pub readable : IsReadable image

-- the image is kept, and stands for the plain state
pub record StandsFor (image : Image) (state : PlainState) : Type 0 where
  pub tables : Tables
  pub kept : IsKept image tables
  pub state_is : state ≡ plain_of tables
