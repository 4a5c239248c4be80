-- How a call changes an image's nodes.
use Rattle.std.specs.Prelude.{◌≡◌, ◌⊎◌, ℕ, List, Ok}
use Rattle.std.specs.FinMap as map
use Rattle.host_model.specs.Picture.{Image, file_at}
use Rattle.journal_core.specs.Changes.{MayMake}
use Rattle.node_store.specs.declared.changes.NodeOp.{NodeOp}
use Rattle.node_store.specs.Nodes.{Nodes, multi_applied}
use Rattle.node_store.specs.Value.{StoreValue}
use Rattle.node_store.specs.Image.{IsNodeFile, HasNodes, IsUnborn, IsStored}

-- every file that is no node file is as before
pub record OthersStay (name : List ℕ) (old new : Image) : Type 0 where
  pub each : (file : List ℕ) → (IsNodeFile name file → ⊥) → file_at new file ≡ file_at old file

-- the nodes are these, and unborn ones stay unborn
pub record KeepsNodes (name : List ℕ) (nodes : Nodes) (old new : Image) : Type 0 where
  pub has : HasNodes name new nodes
  pub unborn : IsUnborn name old → IsUnborn name new

-- the changes apply, and the nodes are what they make
pub record HasApplied (ops : List NodeOp) (store : StoreValue) (image : Image) : Type 0 where
  pub after : Nodes
  pub applies : multi_applied ops store.nodes ≡ Ok after
  pub has : HasNodes store.name image after

-- a multi is whole or absent
pub record MayGive (ops : List NodeOp) (store : StoreValue) (old new : Image) : Type 0 where
  pub others : OthersStay store.name old new
  pub nodes : IsStored store old → KeepsNodes store.name store.nodes old new ⊎ HasApplied ops store new

-- a multi is there
pub record Gives (ops : List NodeOp) (store : StoreValue) (old new : Image) : Type 0 where
  pub others : OthersStay store.name old new
  pub nodes : IsStored store old → HasApplied ops store new

-- each node file is as before, or has fewer than two bytes
pub record MayStart (name : List ℕ) (old new : Image) : Type 0 where
  pub others : OthersStay name old new
  pub made : (file : List ℕ) → IsNodeFile name file → MayMake 1 (file_at old file) (file_at new file)

-- there are no nodes yet, and no multi
pub record Starts (name : List ℕ) (old new : Image) : Type 0 where
  pub others : OthersStay name old new
  pub has : HasNodes name new map.empty
  pub unborn : IsUnborn name new
