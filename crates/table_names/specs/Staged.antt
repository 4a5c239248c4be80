-- The staged files that nodes tell of.
use Rattle.std.specs.Prelude.{◌≡◌, ℕ, List, map as mapped, codes, None}
use Rattle.std.specs.FinMap as map
use Rattle.std.specs.List.{All, Contains}
use Rattle.host_model.specs.declared.fault.Stop.{Stop}
use Rattle.host_model.specs.declared.fault.Stop.TheVariants.{Host, Damaged, Full, NoMemory}
use Rattle.row_keys.specs.Forms.{IsWordName}
use Rattle.node_store.specs.Children.{children_of}
use Rattle.node_store.specs.Nodes.{Nodes}
use Rattle.node_store.specs.Value.{StoreValue}
use Rattle.store_layout.specs.Tables.{staged_path, IsStagedAt}

-- the paths right below `/staged`, in byte order
abbrev pub staged_paths : Nodes → List (List ℕ)
staged_paths nodes = children_of (codes "/staged") (map.keys nodes)

-- there is a node of this name, and it is no staged file's
pub record IsNoStaged (nodes : Nodes) (name : List ℕ) : Type 0 where
  pub there : map.get nodes (staged_path name) ≡ None → ⊥
  pub none : (path : List ℕ) → IsStagedAt nodes name path → ⊥

-- why the staged file of a name isn't told
abbrev pub StagedCause : StoreValue → List ℕ → Stop → Type 0
StagedCause store name (Host fault) = ⊥
StagedCause store name (Damaged damaged) = (damaged ≡ store.name) × IsNoStaged store.nodes name
StagedCause store name Full = ⊥
StagedCause store name NoMemory = Unit {0}

-- the path is that of no staged file's name
pub record NamesNoFile (path : List ℕ) : Type 0 where
  pub none : (name : List ℕ) → IsWordName name → path ≡ staged_path name → ⊥

-- the node of this path is no staged file's
pub record IsStrayFile (nodes : Nodes) (at : List ℕ) : Type 0 where
  pub none : (name path : List ℕ) → at ≡ staged_path name → IsStagedAt nodes name path → ⊥

-- the nodes of these paths are these files', each a name and a path, in this order
pub record AreStagedAt (nodes : Nodes) (paths : List (List ℕ)) (files : List (List ℕ × List ℕ)) : Type 0 where
  pub told : All (λ file. IsStagedAt nodes file.0 file.1) files
  pub are : mapped (λ file. staged_path file.0) files ≡ paths

-- the nodes right below `/staged` are these files', in byte order of their names
abbrev pub AreStaged : Nodes → List (List ℕ × List ℕ) → Type 0
AreStaged nodes files = AreStagedAt nodes (staged_paths nodes) files

-- one of these paths has a node that is no staged file's
pub record HasStrayFile (nodes : Nodes) (paths : List (List ℕ)) : Type 0 where
  pub path : List ℕ
  pub among : Contains paths path
  pub stray : IsStrayFile nodes path

-- why the staged files aren't told
abbrev pub StagedFilesCause : StoreValue → Stop → Type 0
StagedFilesCause store (Host fault) = ⊥
StagedFilesCause store (Damaged damaged) = (damaged ≡ store.name) × HasStrayFile store.nodes (staged_paths store.nodes)
StagedFilesCause store Full = ⊥
StagedFilesCause store NoMemory = Unit {0}
