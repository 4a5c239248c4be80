-- What holds of the nodes of images.
use Rattle.std.specs.Prelude.{◌≡◌, ℕ, List}
use Rattle.host_model.specs.Picture.{Image, file_at}
use Rattle.node_store.specs.Nodes.{Nodes}
use Rattle.node_store.specs.Value.{StoreValue}
use Rattle.node_store.specs.Image.{IsNodeFile, HasNodes, IsUnborn, IsStored}
use Rattle.node_store.specs.Steps.{MayStart}

-- an image has one map of nodes of a name, at the most
abbrev pub NodesAreOne : Type 0
NodesAreOne = (name : List ℕ) (image : Image) (a b : Nodes) → HasNodes name image a → HasNodes name image b → a ≡ b

-- where a value's files are stored, the image has its nodes
abbrev pub StoredNodesAreThere : Type 0
StoredNodesAreThere = (store : StoreValue) (image : Image) → IsStored store image → HasNodes store.name image store.nodes

-- the node files of this name are the same in both
pub record SameNodeFiles (name : List ℕ) (a b : Image) : Type 0 where
  pub each : (file : List ℕ) → IsNodeFile name file → file_at b file ≡ file_at a file

-- no other file counts
pub record OthersDontCount (name : List ℕ) (a b : Image) : Type 0 where
  pub has : (nodes : Nodes) → HasNodes name a nodes → HasNodes name b nodes
  pub unborn : IsUnborn name a → IsUnborn name b
  pub stored : (store : StoreValue) → store.name ≡ name → IsStored store a → IsStored store b

abbrev pub NodeFilesDecide : Type 0
NodeFilesDecide = (name : List ℕ) (a b : Image) → SameNodeFiles name a b → OthersDontCount name a b

-- what was unborn stays so until a creation is done
abbrev pub UnbornStaysUnborn : Type 0
UnbornStaysUnborn = (name : List ℕ) (a b : Image) → MayStart name a b → IsUnborn name a → IsUnborn name b
