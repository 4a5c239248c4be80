-- A root record has one reading.
use Rattle.std.proofs.Common.{◌≡◌, ℕ, Bool, true, false, codes, List, [], ◌∷◌, Option, Some, None, is_some, refl, sym, ◌∙◌, ap, subst}
use Rattle.std.specs.Fmt.{decimal}
use Rattle.std.proofs.lemmas.Bool.{false≢true}
use Rattle.std.proofs.lemmas.Fmt.{decimal_injective}
use Rattle.std.proofs.lemmas.Option.{same_Some, none-some}
use Rattle.row_keys.specs.Forms.{IsTableId}
use Rattle.row_keys.specs.MetadataRow.{metadata_row, IsTabletName}
use Rattle.metadata_schema.specs.declared.mutation.Update.{Update}
use Rattle.metadata_schema.specs.declared.tablet.TabletRecord.{TabletRecord}
use Rattle.metadata_schema.specs.Columns.{columns_of, column_at}
use Rattle.metadata_schema.proofs.AcceptedLemmas.{prev_there}
use Rattle.metadata_schema.proofs.LawsLemmas.{parted_once}
use Rattle.metadata_schema.proofs.OneToOne.{same_columns}
use Rattle.metadata_schema.proofs.SameColumns.{decimal_free}
use Rattle.cell_merge.specs.declared.cell.Cell.{Cell}
use Rattle.level_rows.specs.Chain.{Rows, IsChain, rows_of}
use Rattle.store_meaning.specs.Ground.{Ground}
use Rattle.store_meaning.specs.Content.{contents_of}
use Rattle.store_meaning.specs.Levels.{SpellsRow, Level, Flag, Reading, IsFlagAt, IsLevelOf, IsReadingOf, IsMetadataTable, candidate_row, flag_row, record_columns, candidate_columns, flag_columns, metadata_id, root_id}

-- columns that the same cells spell are the same
alike : (cells : List Cell) (row : List ℕ) (one other : List Update) → SpellsRow cells row one → SpellsRow cells row other → (family qualifier : List ℕ) → column_at one family qualifier ≡ column_at other family qualifier
alike cells row one other p q family qualifier = sym (p.each family qualifier) ∙ q.each family qualifier

-- a record has some column
never_none : (tablet : TabletRecord) → ((family qualifier : List ℕ) → column_at (columns_of tablet) family qualifier ≡ None) → ⊥
never_none tablet none = false≢true (sym (ap is_some (none (codes "~tab") (codes "~pr"))) ∙ (prev_there tablet).prev)

same_flag : (path : List ℕ) (f g : Flag) → IsFlagAt path f → IsFlagAt path g → ((family qualifier : List ℕ) → column_at (flag_columns (Some f)) family qualifier ≡ column_at (flag_columns (Some g)) family qualifier) → f ≡ g
same_flag path f g one two same =
    let cut = parted_once 44 (decimal f.tid) (decimal g.tid) (decimal f.number) (decimal g.number) (decimal_free f.tid one.tid) (decimal_free g.tid two.tid) (same_Some _ _ (same [] [])) in
    let tids : f.tid ≡ g.tid = decimal_injective f.tid g.tid one.tid two.tid cut.0 in
    let numbers : f.number ≡ g.number = decimal_injective f.number g.number one.number two.number cut.1 in
    λ i. record { tid = tids i; number = numbers i }

module _ (is_of : List ℕ → Type 0) (cells : List Cell) (a b : Level) (p : IsLevelOf is_of cells a) (q : IsLevelOf is_of cells b) where
  same_record : (table : List ℕ) (end : Option (List ℕ)) → a.records table end ≡ b.records table end
  same_record table end = by (a.records table end) (b.records table end) refl refl
    where
      columns : is_of table → IsTabletName table end → (x y : Option TabletRecord) → a.records table end ≡ x → b.records table end ≡ y
          → (family qualifier : List ℕ) → column_at (record_columns x) family qualifier ≡ column_at (record_columns y) family qualifier
      columns of name x y e f family qualifier =
          ap (λ o. column_at (record_columns o) family qualifier) (sym e)
          ∙ alike cells (metadata_row table end) _ _ (p.records table end of name) (q.records table end of name) family qualifier
          ∙ ap (λ o. column_at (record_columns o) family qualifier) f

      by : (x y : Option TabletRecord) → a.records table end ≡ x → b.records table end ≡ y → x ≡ y
      by None None e f = refl
      by (Some t) None e f = absurd (never_none t (columns (p.own_tables table end t e) (p.forms table end t e).name (Some t) None e f))
      by None (Some u) e f = absurd (never_none u (λ family qualifier. sym (columns (q.own_tables table end u f) (q.forms table end u f).name None (Some u) e f family qualifier)))
      by (Some t) (Some u) e f =
          let one = p.forms table end t e in
          let two = q.forms table end u f in
          ap Some (same_columns t u (one.table_is ∙ sym two.table_is) (one.end_is ∙ sym two.end_is) one.form two.form (columns (p.own_tables table end t e) one.name (Some t) (Some u) e f))

  same_candidate : (path : List ℕ) → a.is_candidate path ≡ b.is_candidate path
  same_candidate path = by (a.is_candidate path) (b.is_candidate path) (alike cells (candidate_row path) _ _ (p.candidates path) (q.candidates path))
    where
      by : (x y : Bool) → ((family qualifier : List ℕ) → column_at (candidate_columns x) family qualifier ≡ column_at (candidate_columns y) family qualifier) → x ≡ y
      by true true same = refl
      by false false same = refl
      by true false same = absurd (none-some [] (sym (same [] [])))
      by false true same = absurd (none-some [] (same [] []))

  same_flags : (path : List ℕ) → a.flag path ≡ b.flag path
  same_flags path = by (a.flag path) (b.flag path) refl refl (alike cells (flag_row path) _ _ (p.flags path) (q.flags path))
    where
      by : (x y : Option Flag) → a.flag path ≡ x → b.flag path ≡ y → ((family qualifier : List ℕ) → column_at (flag_columns x) family qualifier ≡ column_at (flag_columns y) family qualifier) → x ≡ y
      by None None e f same = refl
      by (Some x) None e f same = absurd (none-some _ (sym (same [] [])))
      by None (Some y) e f same = absurd (none-some _ (same [] []))
      by (Some x) (Some y) e f same = ap Some (same_flag path x y (p.flag_forms path x e) (q.flag_forms path y f) same)

  -- cells tell one level
  pub same_level : a ≡ b
  same_level = λ i. record { records = λ table end. same_record table end i; is_candidate = λ path. same_candidate path i; flag = λ path. same_flags path i }

abbrev pub OneChain : Type 0
OneChain = (rows : Rows) (tablets other : List TabletRecord) → IsChain rows tablets → IsChain rows other → tablets ≡ other

pub one_reading : OneChain → (known : Ground) (one other : Reading) → IsReadingOf known one → IsReadingOf known other → one.root ≡ other.root → one ≡ other
one_reading one_chain known one other p q root =
    let root_cells : one.root_cells ≡ other.root_cells = same_Some _ _ (sym p.root_content ∙ ap (λ tablet. contents_of known (rows_of root_id (tablet ∷ [])) (tablet ∷ [])) root ∙ q.root_content) in
    let metadata : one.metadata ≡ other.metadata =
    same_level IsMetadataTable one.root_cells one.metadata other.metadata p.metadata (subst (λ cells. IsLevelOf IsMetadataTable cells other.metadata) (sym root_cells) q.metadata) in
    let chain : one.chain ≡ other.chain =
    one_chain (one.metadata.records metadata_id) one.chain other.chain p.chain (subst (λ level. IsChain (level.records metadata_id) other.chain) (sym metadata) q.chain) in
    let cells : one.metadata_cells ≡ other.metadata_cells = same_Some _ _ (sym p.content ∙ (λ i. contents_of known ((metadata i).records metadata_id) (chain i)) ∙ q.content) in
    let users : one.users ≡ other.users =
    same_level IsTableId one.metadata_cells one.users other.users p.users (subst (λ l. IsLevelOf IsTableId l other.users) (sym cells) q.users) in
    λ i. record { root = root i; root_cells = root_cells i; metadata = metadata i; chain = chain i; metadata_cells = cells i; users = users i }
