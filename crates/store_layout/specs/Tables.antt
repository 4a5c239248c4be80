-- The nodes of tables and of staged files: their paths, and what their values say.
use Rattle.std.specs.Prelude.{◌≡◌, ℕ, ◌<◌, ◌≤◌, ◌^◌, List, [], ◌∷◌, ◌++◌, length, codes, Option, Some, None, IfSome}
use Rattle.std.specs.FinMap as map
use Rattle.std.specs.Fmt.{decimal}
use Rattle.std.specs.List.{All}
use Rattle.row_keys.specs.Forms.{IsUserTableId, IsWordName}
use Rattle.metadata_schema.specs.Paths.{IsDrawnText, IsFilePath, file_name, file_path}
use Rattle.node_store.specs.declared.changes.Node.{Node}
use Rattle.node_store.specs.Nodes.{Nodes}
use Rattle.store_layout.specs.declared.tables.TableState.{TableState}
use Rattle.store_layout.specs.declared.tables.TableState.TheVariants.{New, Online, Deleting}
use Rattle.store_layout.specs.declared.tables.Phase.{Phase}
use Rattle.store_layout.specs.declared.tables.Phase.TheVariants.{Chop, Offline}
use Rattle.store_layout.specs.declared.tables.Mark.{Mark}
use Rattle.store_layout.specs.declared.tables.Mark.TheVariants.{Free, Merge, Import}
use Rattle.store_layout.specs.declared.tables.TableNode.{TableNode}
use Rattle.store_layout.specs.Words.{bound_word, spaced}

-- ---- tables

abbrev pub table_path : List ℕ → List ℕ
table_path id = codes "/tables/" ++ id

abbrev pub state_word : TableState → List ℕ
state_word New = codes "NEW"
state_word Online = codes "ONLINE"
state_word Deleting = codes "DELETING"

abbrev pub phase_word : Phase → List ℕ
phase_word Chop = codes "chop"
phase_word Offline = codes "offline"

-- `-`, or `merge t PHASE B E`, or `import t PATH ..`
abbrev pub mark_words : Mark → List (List ℕ)
mark_words Free = codes "-" ∷ []
mark_words (Merge tid phase from to) = codes "merge" ∷ decimal tid ∷ phase_word phase ∷ bound_word from ∷ bound_word to ∷ []
mark_words (Import tid paths) = codes "import" ∷ decimal tid ∷ paths

-- `STATE NAME` and the mark
abbrev pub table_value : TableNode → List ℕ
table_value table = spaced (state_word table.state) (table.name ∷ mark_words table.mark)

-- each part of the mark is of its form
abbrev pub IsMark : Mark → Type 0
IsMark Free = Unit {0}
IsMark (Merge tid phase from to) = (tid < 2 ^ 64) × IfSome from (λ row. length row ≤ 300) × IfSome to (λ row. length row ≤ 300)
IsMark (Import tid paths) = (tid < 2 ^ 64) × All IsFilePath paths × (0 < length paths)

-- each part of the node is of its form
pub record IsTableForm (table : TableNode) : Type 0 where
  pub id : IsUserTableId table.id
  pub name : IsWordName table.name
  pub mark : IsMark table.mark

-- the node of this id is this table's
pub record IsTableAt (nodes : Nodes) (id : List ℕ) (table : TableNode) : Type 0 where
  pub node : Node
  pub there : map.get nodes (table_path id) ≡ Some node
  pub value : node.value ≡ table_value table
  pub id_is : table.id ≡ id
  pub form : IsTableForm table

-- ---- staged files

abbrev pub staged_path : List ℕ → List ℕ
staged_path name = codes "/staged/" ++ name

-- `stage/default_tablet/NAME`, where NAME is that of a file of bulk imports
pub record IsStagedPath (path : List ℕ) : Type 0 where
  pub text : List ℕ
  pub drawn : IsDrawnText text
  pub is : path ≡ file_path (codes "stage") (codes "default_tablet") (file_name 73 text)

-- the node of this name says that this is the path of its file
pub record IsStagedAt (nodes : Nodes) (name path : List ℕ) : Type 0 where
  pub node : Node
  pub there : map.get nodes (staged_path name) ≡ Some node
  pub value : node.value ≡ path
  pub name_form : IsWordName name
  pub path_form : IsStagedPath path

-- ---- all of them

-- the tables of a store by id, and the paths of its staged files by name
pub record Catalog : Type 0 where
  pub tables : List ℕ → Option TableNode
  pub staged : List ℕ → Option (List ℕ)

-- the node of this id is this table's, or there is none
abbrev pub TellsTable : Nodes → List ℕ → Option TableNode → Type 0
TellsTable nodes id None = map.get nodes (table_path id) ≡ None
TellsTable nodes id (Some table) = IsTableAt nodes id table

-- the node of this name names this path, or there is none
abbrev pub TellsStaged : Nodes → List ℕ → Option (List ℕ) → Type 0
TellsStaged nodes name None = map.get nodes (staged_path name) ≡ None
TellsStaged nodes name (Some path) = IsStagedAt nodes name path

-- the nodes under `/tables` and `/staged` are these, and each is of its form
pub record IsCatalogOf (nodes : Nodes) (catalog : Catalog) : Type 0 where
  pub tables : (id : List ℕ) → TellsTable nodes id (catalog.tables id)
  pub staged : (name : List ℕ) → TellsStaged nodes name (catalog.staged name)

-- a store without tables and staged files
abbrev pub no_tables : Catalog
no_tables = record { tables = λ id. None; staged = λ name. None }
