-- What the words of a value say of a table.
use Rattle.std.specs.Prelude.{◌≡◌, ℕ, List, ◌∷◌, IfSome}
use Rattle.row_keys.specs.Forms.{IsWordName}
use Rattle.store_layout.specs.declared.tables.TableState.{TableState}
use Rattle.store_layout.specs.declared.tables.Mark.{Mark}
use Rattle.store_layout.specs.declared.tables.Mark.TheVariants.{Free, Merge, Import}
use Rattle.store_layout.specs.declared.tables.TableNode.{TableNode}
use Rattle.store_layout.specs.Tables.{state_word, mark_words, table_value, IsMark, IsTableForm}
use Rattle.table_names.specs.Words.{AreBytes}

-- the bounds of the mark are of bytes
abbrev pub AreByteBounds : Mark → Type 0
AreByteBounds Free = Unit {0}
AreByteBounds (Merge tid phase from to) = IfSome from AreBytes × IfSome to AreBytes
AreByteBounds (Import tid paths) = Unit {0}

-- the words are this mark's
pub record IsMarkOf (words : List (List ℕ)) (mark : Mark) : Type 0 where
  pub is : words ≡ mark_words mark
  pub form : IsMark mark
  pub bytes : AreByteBounds mark

-- the words are no mark's
pub record IsNoMark (words : List (List ℕ)) : Type 0 where
  pub none : (mark : Mark) → IsMarkOf words mark → ⊥

-- the words are those of this state, this name and this mark
pub record AreTableWords (words : List (List ℕ)) (state : TableState) (name : List ℕ) (mark : Mark) : Type 0 where
  pub mark_words : List (List ℕ)
  pub are : words ≡ state_word state ∷ name ∷ mark_words
  pub name_form : IsWordName name
  pub mark_is : IsMarkOf mark_words mark

-- the words are no table's
pub record AreNoTableWords (words : List (List ℕ)) : Type 0 where
  pub none : (state : TableState) (name : List ℕ) (mark : Mark) → AreTableWords words state name mark → ⊥

-- the value is that of this table, whose id is this
pub record IsTableValue (id value : List ℕ) (table : TableNode) : Type 0 where
  pub id_is : table.id ≡ id
  pub is : value ≡ table_value table
  pub form : IsTableForm table
  pub bytes : AreByteBounds table.mark

-- the value is that of no table with this id
pub record IsNoTableValue (id value : List ℕ) : Type 0 where
  pub none : (table : TableNode) → IsTableValue id value table → ⊥
