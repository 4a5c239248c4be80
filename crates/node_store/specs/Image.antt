-- Which nodes an image has.
use Rattle.std.specs.Prelude.{◌≡◌, ℕ, List, [], ◌∷◌, Some, Ok}
use Rattle.std.specs.FinMap as map
use Rattle.host_model.specs.Picture.{Image, file_at}
use Rattle.journal_core.specs.Journal.{Holds, HasThere}
use Rattle.node_store.specs.declared.changes.NodeOp.{NodeOp}
use Rattle.node_store.specs.Nodes.{Nodes, multi_applied}
use Rattle.node_store.specs.Multi.{IsMulti}
use Rattle.node_store.specs.Value.{StoreValue}

-- the payload is a multi that makes these nodes of those
pub record Turns (payload : List ℕ) (before after : Nodes) : Type 0 where
  pub ops : List NodeOp
  pub multi : IsMulti payload ops
  pub applies : multi_applied ops before ≡ Ok after

-- the records are multis, each of which applies to what those before it make
abbrev pub FoldTo : List (List ℕ) → Nodes → Nodes → Type 0
FoldTo [] before after = after ≡ before
FoldTo (payload ∷ more) before after = (next : Nodes) × Turns payload before next × FoldTo more next after

-- the files of the nodes of this name
abbrev pub IsNodeFile : List ℕ → List ℕ → Type 0
IsNodeFile name file = file ≡ name

-- the file of this name is there, and its records make these nodes of none
pub record HasNodes (name : List ℕ) (image : Image) (nodes : Nodes) : Type 0 where
  pub records : List (List ℕ)
  pub there : HasThere name records image
  pub folds : FoldTo records map.empty nodes

pub record HasNoNodes (name : List ℕ) (image : Image) : Type 0 where
  pub none : (nodes : Nodes) → HasNodes name image nodes → ⊥

-- the file is there, has at least two bytes, and its first is 1
pub record IsBorn (name : List ℕ) (image : Image) : Type 0 where
  pub second : ℕ
  pub rest : List ℕ
  pub is : file_at image name ≡ Some (1 ∷ second ∷ rest)

pub record IsUnborn (name : List ℕ) (image : Image) : Type 0 where
  pub none : IsBorn name image → ⊥

-- the image's node files are as this value found or left them last
pub record IsStored (store : StoreValue) (image : Image) : Type 0 where
  pub records : List (List ℕ)
  pub holds : Holds store.name store.end records image
  pub folds : FoldTo records map.empty store.nodes
