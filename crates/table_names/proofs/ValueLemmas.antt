-- What the words of a value say of a table.
use Rattle.std.proofs.Common.{◌≡◌, ℕ, List, [], ◌∷◌, IsTrue, refl, sym, ◌∙◌, ap, subst}
use Rattle.std.specs.List.{All}
use Rattle.std.proofs.lemmas.Bool.{and_from}
use Rattle.std.proofs.lemmas.List.Elements.{All-head, All-tail}
use Rattle.row_keys.specs.Forms.{is_word_byte, IsUserTableId}
use Rattle.metadata_schema.specs.Bytes.{is_free}
use Rattle.store_layout.specs.declared.tables.TableState.{TableState}
use Rattle.store_layout.specs.declared.tables.Mark.{Mark}
use Rattle.store_layout.specs.declared.tables.TableNode.{TableNode}
use Rattle.store_layout.specs.Tables.{state_word, mark_words, IsTableForm}
use Rattle.store_layout.specs.Words.{spaced}
use Rattle.store_layout.proofs.WordLemmas.{one_line, are_free}
use Rattle.store_layout.proofs.TableLemmas.{all_weaker, word_byte, state_free, mark_free}
use Rattle.table_names.specs.Words.{IsSplit}
use Rattle.table_names.specs.Marks.{AreTableWords, AreNoTableWords, IsTableValue, IsNoTableValue}

all_free : (words : List (List ℕ)) → All (λ word. IsTrue (is_free 32 word)) words → IsTrue (are_free words)
all_free [] all = refl
all_free (word ∷ words) all = and_from _ _ (All-head (λ w. IsTrue (is_free 32 w)) word words all) (all_free words (All-tail (λ w. IsTrue (is_free 32 w)) word words all))

-- the words of a table's value are these
words_are : (value : List ℕ) (words : List (List ℕ)) (table : TableNode) → IsSplit value words → IsTableForm table → value ≡ spaced (state_word table.state) (table.name ∷ mark_words table.mark) → words ≡ state_word table.state ∷ table.name ∷ mark_words table.mark
words_are value words table split form is =
    let free = subst (All (λ word. IsTrue (is_free 32 word))) split.are split.free in
    let same = one_line split.first (state_word table.state) split.others (table.name ∷ mark_words table.mark)
    (All-head (λ w. IsTrue (is_free 32 w)) split.first split.others free) (state_free table.state) (all_free split.others (All-tail (λ w. IsTrue (is_free 32 w)) split.first split.others free))
    (and_from _ _ (all_weaker is_word_byte word_byte table.name form.name.each) (mark_free table.mark form.mark)) (sym split.is ∙ is) in
    split.are ∙ (λ i. same.0 i ∷ same.1 i)

pub no_value : (id value : List ℕ) (words : List (List ℕ)) → IsSplit value words → AreNoTableWords words → IsNoTableValue id value
no_value id value words split none = record {
  none = λ table is. none.none table.state table.name table.mark (record { mark_words = mark_words table.mark; are = words_are value words table split is.form is.is; name_form = is.form.name; mark_is = record { is = refl; form = is.form.mark; bytes = is.bytes } });
}
