-- What the private functions that read and spell a multi ensure.
use Rattle.std.specs.Prelude.{◌≡◌, ℕ, ◌^◌, ◌<◌, List, ◌++◌, length, All}
use Rattle.row_keys.specs.Forms.{IsPath}
use Rattle.bytes_form.specs.Fields.{long_field, sized_field}
use Rattle.node_store.specs.declared.changes.NodeOp.{NodeOp}
use Rattle.std.specs.FinMap as map
use Rattle.node_store.specs.Multi.{spelled_change, spelled_multi, IsWritten, Fits, IsMulti}
use Rattle.node_store.specs.Nodes.{Nodes}
use Rattle.node_store.specs.Image.{Turns, FoldTo}

-- a path stands in front, and this behind it
pub record StartsPath (bytes path rest : List ℕ) : Type 0 where
  pub is : bytes ≡ long_field path ++ rest
  pub form : IsPath path

pub record StartsNoPath (bytes : List ℕ) : Type 0 where
  pub none : (path rest : List ℕ) → StartsPath bytes path rest → ⊥

-- a value stands in front, and this behind it
pub record StartsValue (bytes value rest : List ℕ) : Type 0 where
  pub is : bytes ≡ sized_field value ++ rest
  pub short : length value < 2 ^ 32

pub record StartsNoValue (bytes : List ℕ) : Type 0 where
  pub none : (value rest : List ℕ) → StartsValue bytes value rest → ⊥

-- a change stands in front, and this behind it
pub record StartsChange (bytes : List ℕ) (op : NodeOp) (rest : List ℕ) : Type 0 where
  pub is : bytes ≡ spelled_change op ++ rest
  pub written : IsWritten op

pub record StartsNoChange (bytes : List ℕ) : Type 0 where
  pub none : (op : NodeOp) (rest : List ℕ) → StartsChange bytes op rest → ⊥

-- the payload is no multi
pub record IsNoMulti (payload : List ℕ) : Type 0 where
  pub none : (ops : List NodeOp) → IsMulti payload ops → ⊥

-- the bytes spell these changes, which fit
pub record Spells (bytes : List ℕ) (ops : List NodeOp) : Type 0 where
  pub is : bytes ≡ spelled_multi ops
  pub count : length ops < 2 ^ 32
  pub each : All Fits ops

-- the payload is no multi that applies to these nodes
pub record TurnsNone (payload : List ℕ) (before : Nodes) : Type 0 where
  pub none : (after : Nodes) → Turns payload before after → ⊥

-- the records make no nodes
pub record FoldsNone (records : List (List ℕ)) : Type 0 where
  pub none : (nodes : Nodes) → FoldTo records map.empty nodes → ⊥
