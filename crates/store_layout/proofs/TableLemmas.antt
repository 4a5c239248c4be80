-- The value of a table's node is that of one table, and the nodes are those of one catalog.
use Rattle.std.proofs.Common.{◌≡◌, inl, inr, ℕ, ◌==◌, ◌<◌, ◌^◌, ◌%◌, ◌+◌, Bool, true, not, codes, List, [], ◌∷◌, ◌++◌, Option, Some, None, IsTrue, refl, sym, ◌∙◌, ap, arith}
use mathlib.Core.Path.{fun_ext}
use Rattle.std.specs.Fmt.{decimal}
use Rattle.std.specs.List.{All, list_all}
use Rattle.std.proofs.lemmas.Bool.{and_parts, and_from}
use Rattle.std.proofs.lemmas.Bool.Decides.{nat_tests}
use Rattle.std.proofs.lemmas.Fmt.{decimal_by_steps, decimal_injective}
use Rattle.std.proofs.lemmas.List.Elements.{All-head, All-tail}
use Rattle.std.proofs.lemmas.Option.{same_Some, none-some}
use Rattle.row_keys.specs.Forms.{is_word_byte, is_lower_or_digit, IsTableId}
use Rattle.metadata_schema.specs.Bytes.{is_free}
use Rattle.metadata_schema.specs.Paths.{is_base36, is_file_kind, IsDirectory, IsFileName, IsFilePath}
use Rattle.node_store.specs.Nodes.{Nodes}
use Rattle.store_layout.specs.declared.tables.TableState.{TableState}
use Rattle.store_layout.specs.declared.tables.TableState.TheVariants.{New, Online, Deleting}
use Rattle.store_layout.specs.declared.tables.Phase.{Phase}
use Rattle.store_layout.specs.declared.tables.Phase.TheVariants.{Chop, Offline}
use Rattle.store_layout.specs.declared.tables.Mark.{Mark}
use Rattle.store_layout.specs.declared.tables.Mark.TheVariants.{Free, Merge, Import}
use Rattle.store_layout.specs.declared.tables.TableNode.{TableNode}
use Rattle.store_layout.specs.Tables.{state_word, phase_word, mark_words, table_value, IsMark, IsTableForm, Catalog, TellsTable, TellsStaged, IsCatalogOf}
use Rattle.store_layout.proofs.WordLemmas.{one_line, one_bound, bound_free, free_joined, are_free}

-- ---- words have no space

abbrev is_plain : ℕ → Bool
is_plain byte = not (byte == 32)

pub all_weaker : (test : ℕ → Bool) → ((byte : ℕ) → test byte ≡ true → is_plain byte ≡ true) → (bytes : List ℕ) → list_all test bytes ≡ true → IsTrue (is_free 32 bytes)
all_weaker test weaker [] all = refl
all_weaker test weaker (b ∷ more) all =
    let parts = and_parts (test b) (list_all test more) all in
    and_from (is_plain b) (is_free 32 more) (weaker b parts.0) (all_weaker test weaker more parts.1)

pub word_byte : (byte : ℕ) → is_word_byte byte ≡ true → is_plain byte ≡ true
word_byte byte is = grind (arith, nat_tests)

lower : (byte : ℕ) → is_lower_or_digit byte ≡ true → is_plain byte ≡ true
lower byte is = grind (arith, nat_tests)

base36 : (byte : ℕ) → is_base36 byte ≡ true → is_plain byte ≡ true
base36 byte is = grind (arith, nat_tests)

kind : (byte : ℕ) → is_file_kind byte ≡ true → is_plain byte ≡ true
kind byte is = grind (arith, nat_tests)

digit : (d : ℕ) → is_plain (48 + d) ≡ true
digit d = grind (arith, nat_tests)

id_free : (id : List ℕ) → IsTableId id → IsTrue (is_free 32 id)
id_free id (inl is) = ap (is_free 32) is
id_free id (inr (inl is)) = ap (is_free 32) is
id_free id (inr (inr is)) = all_weaker is_lower_or_digit lower id is.each

dir_free : (dir : List ℕ) → IsDirectory dir → IsTrue (is_free 32 dir)
dir_free dir (inl is) = ap (is_free 32) is
dir_free dir (inr (inl is)) = ap (is_free 32) is
dir_free dir (inr (inr (inl is))) = ap (is_free 32) is
dir_free dir (inr (inr (inr drawn))) = ap (is_free 32) drawn.1 ∙ free_joined (codes "t-") drawn.0 refl (all_weaker is_base36 base36 drawn.0 drawn.2.form.each)

name_free : (name : List ℕ) → IsFileName name → IsTrue (is_free 32 name)
name_free name is =
    ap (is_free 32) is.is
    ∙ and_from (is_plain is.kind) (is_free 32 (is.text ++ codes ".rf")) (kind is.kind is.is_kind) (free_joined is.text (codes ".rf") (all_weaker is_base36 base36 is.text is.drawn.form.each) refl)

path_free : (path : List ℕ) → IsFilePath path → IsTrue (is_free 32 path)
path_free path is =
    ap (is_free 32) is.is
    ∙ free_joined is.id (47 ∷ (is.dir ++ 47 ∷ is.name)) (id_free is.id is.parts.is_id) (free_joined is.dir (47 ∷ is.name) (dir_free is.dir is.parts.is_dir) (name_free is.name is.parts.is_name))

paths_free : (paths : List (List ℕ)) → All IsFilePath paths → IsTrue (are_free paths)
paths_free [] all = refl
paths_free (path ∷ more) all = and_from (is_free 32 path) (are_free more) (path_free path (All-head IsFilePath path more all)) (paths_free more (All-tail IsFilePath path more all))

number_free : (n : ℕ) → n < 2 ^ 64 → IsTrue (is_free 32 (decimal n))
number_free n small =
    decimal_by_steps (λ k ds. IsTrue (is_free 32 ds)) (λ k few. and_from (is_plain (48 + k)) true (digit k) refl)
    (λ k ds many free. free_joined ds ((48 + k % 10) ∷ []) free (and_from (is_plain (48 + k % 10)) true (digit (k % 10)) refl)) n small

pub state_free : (state : TableState) → IsTrue (is_free 32 (state_word state))
state_free New = refl
state_free Online = refl
state_free Deleting = refl

phase_free : (phase : Phase) → IsTrue (is_free 32 (phase_word phase))
phase_free Chop = refl
phase_free Offline = refl

pub mark_free : (mark : Mark) → IsMark mark → IsTrue (are_free (mark_words mark))
mark_free Free form = refl
mark_free (Merge tid phase from to) form =
    and_from _ _ (number_free tid form.0) (and_from _ _ (phase_free phase) (and_from _ _ (bound_free from) (and_from _ _ (bound_free to) refl)))
mark_free (Import tid paths) form = and_from _ _ (number_free tid form.0) (paths_free paths form.1)

-- ---- one table

one_state : (one other : TableState) → state_word one ≡ state_word other → one ≡ other
one_state New New e = refl
one_state New Online e = cc
one_state New Deleting e = cc
one_state Online New e = cc
one_state Online Online e = refl
one_state Online Deleting e = cc
one_state Deleting New e = cc
one_state Deleting Online e = cc
one_state Deleting Deleting e = refl

one_phase : (one other : Phase) → phase_word one ≡ phase_word other → one ≡ other
one_phase Chop Chop e = refl
one_phase Chop Offline e = cc
one_phase Offline Chop e = cc
one_phase Offline Offline e = refl

one_mark : (one other : Mark) → IsMark one → IsMark other → mark_words one ≡ mark_words other → one ≡ other
one_mark Free Free p q e = refl
one_mark Free (Merge tid phase from to) p q e = cc
one_mark Free (Import tid paths) p q e = cc
one_mark (Merge tid phase from to) Free p q e = cc
one_mark (Merge tid phase from to) (Merge tid2 phase2 from2 to2) p q e =
    let tids : tid ≡ tid2 = decimal_injective tid tid2 p.0 q.0 cc in
    let phases : phase ≡ phase2 = one_phase phase phase2 cc in
    let froms : from ≡ from2 = one_bound from from2 cc in
    let tos : to ≡ to2 = one_bound to to2 cc in
    λ i. Merge (tids i) (phases i) (froms i) (tos i)
one_mark (Merge tid phase from to) (Import tid2 paths) p q e = cc
one_mark (Import tid paths) Free p q e = cc
one_mark (Import tid paths) (Merge tid2 phase from to) p q e = cc
one_mark (Import tid paths) (Import tid2 paths2) p q e =
    let tids : tid ≡ tid2 = decimal_injective tid tid2 p.0 q.0 cc in
    let all : paths ≡ paths2 = cc in
    λ i. Import (tids i) (all i)

pub one_table : (one other : TableNode) → IsTableForm one → IsTableForm other → one.id ≡ other.id → table_value one ≡ table_value other → one ≡ other
one_table one other p q ids e =
    let cut = one_line (state_word one.state) (state_word other.state) (one.name ∷ mark_words one.mark) (other.name ∷ mark_words other.mark) (state_free one.state) (state_free other.state)
    (and_from _ _ (all_weaker is_word_byte word_byte one.name p.name.each) (mark_free one.mark p.mark))
    (and_from _ _ (all_weaker is_word_byte word_byte other.name q.name.each) (mark_free other.mark q.mark)) e in
    let states = one_state one.state other.state cut.0 in
    let names : one.name ≡ other.name = cc (cut.1) in
    let words : mark_words one.mark ≡ mark_words other.mark = cc (cut.1) in
    let marks = one_mark one.mark other.mark p.mark q.mark words in
    λ i. record { id = ids i; name = names i; state = states i; mark = marks i }

-- ---- one catalog

same_table : (nodes : Nodes) (id : List ℕ) (one other : Option TableNode) → TellsTable nodes id one → TellsTable nodes id other → one ≡ other
same_table nodes id None None p q = refl
same_table nodes id None (Some table) p q = absurd (none-some q.node (sym p ∙ q.there))
same_table nodes id (Some table) None p q = absurd (none-some p.node (sym q ∙ p.there))
same_table nodes id (Some table) (Some other) p q =
    ap Some (one_table table other p.form q.form (p.id_is ∙ sym q.id_is) (sym p.value ∙ ap (λ node. node.value) (same_Some p.node q.node (sym p.there ∙ q.there)) ∙ q.value))

same_staged : (nodes : Nodes) (name : List ℕ) (one other : Option (List ℕ)) → TellsStaged nodes name one → TellsStaged nodes name other → one ≡ other
same_staged nodes name None None p q = refl
same_staged nodes name None (Some path) p q = absurd (none-some q.node (sym p ∙ q.there))
same_staged nodes name (Some path) None p q = absurd (none-some p.node (sym q ∙ p.there))
same_staged nodes name (Some path) (Some other) p q = ap Some (sym p.value ∙ ap (λ node. node.value) (same_Some p.node q.node (sym p.there ∙ q.there)) ∙ q.value)

pub one_catalog : (nodes : Nodes) (one other : Catalog) → IsCatalogOf nodes one → IsCatalogOf nodes other → one ≡ other
one_catalog nodes one other p q =
    let tables : one.tables ≡ other.tables = fun_ext (λ id. same_table nodes id (one.tables id) (other.tables id) (p.tables id) (q.tables id)) in
    let staged : one.staged ≡ other.staged = fun_ext (λ name. same_staged nodes name (one.staged name) (other.staged name) (p.staged name) (q.staged name)) in
    λ i. record { tables = tables i; staged = staged i }
