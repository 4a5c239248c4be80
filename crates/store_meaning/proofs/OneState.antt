-- An image stands for one state.
use Rattle.std.proofs.Common.{◌≡◌, ℕ, Bool, true, false, List, [], ◌∷◌, Option, Some, None, is_some, refl, sym, ◌∙◌, ap, subst}
use Rattle.std.specs.Prelude.{MatchBool}
use Rattle.std.specs.Cmp.Lexicographic.{nat_list_cmp_total}
use Rattle.std.specs.FinMap as map_of
use Rattle.std.specs.FinMap.{same_map, IsAntisymmetric}
use Rattle.std.specs.List.{list_any}
use Rattle.std.proofs.lemmas.Map.Lookups.{exact_bytes}
use Rattle.std.proofs.lemmas.Option.{same_Some}
use Rattle.row_keys.specs.Forms.{IsTableId}
use Rattle.row_keys.specs.Keys.{key_cmp}
use Rattle.row_keys.specs.declared.key.Key.{Key}
use Rattle.plain_model.specs.State.{PointSet, PairMap, Table, PlainState, has_point}
use Rattle.cell_merge.proofs.KeyLemmas.{key_cmp_total, key_cmp-equal}
use Rattle.cell_merge.specs.Newest.{newest_at}
use Rattle.level_rows.specs.Chain.{Rows, IsChain, rows_of}
use Rattle.node_store.specs.Nodes.{Nodes}
use Rattle.store_layout.specs.declared.tables.TableNode.{TableNode}
use Rattle.store_layout.specs.Tables.{Catalog, IsCatalogOf}
use Rattle.store_meaning.specs.Ground.{Ground, Agree}
use Rattle.store_meaning.specs.Content.{contents_of}
use Rattle.store_meaning.specs.Levels.{Reading, IsLevelOf, IsReadingOf, IsRootRecord, IsMetadataTable, metadata_id, root_id}
use Rattle.store_meaning.specs.Marked.{layers_of, layered}
use Rattle.store_meaning.specs.Stands.{is_online, is_ending, TableStands, IsTableOf, TableAt, StagedAt, StandsAs}
use Rattle.store_meaning.proofs.ReadingLemmas.{OneChain, same_level}
use Rattle.store_meaning.proofs.RootLemmas.{one_root}
use Rattle.store_meaning.proofs.ToldLemmas.{same_contents, same_layers}

abbrev pub OneCatalog : Type 0
OneCatalog = (nodes : Nodes) (one other : Catalog) → IsCatalogOf nodes one → IsCatalogOf nodes other → one ≡ other

-- ---- finite maps

exact_keys : IsAntisymmetric key_cmp
exact_keys a b e = key_cmp-equal a b e

same_unit : (one other : Option (Unit {0})) → is_some one ≡ is_some other → one ≡ other
same_unit None None e = refl
same_unit None (Some u) e = cc
same_unit (Some u) None e = cc
same_unit (Some u) (Some v) e = refl

same_points : (one other : PointSet) → ((row : List ℕ) → has_point one row ≡ has_point other row) → one ≡ other
same_points one other same = same_map nat_list_cmp_total exact_bytes one other (λ row. same_unit (map_of.get one row) (map_of.get other row) (same row))

same_pairs : (one other : PairMap) → ((key : Key) → map_of.get one key ≡ map_of.get other key) → one ≡ other
same_pairs one other same = same_map key_cmp_total exact_keys one other same

-- ---- one reading, one table, one state, of two grounds that agree

module _ (one_chain : OneChain) (known other : Ground) (agree : Agree known other) where
  pub one_reading_of_both : (p q : Reading) → IsReadingOf known p → IsReadingOf other q → p ≡ q
  one_reading_of_both p q is at =
      let root : p.root ≡ q.root = one_root other.nodes p.root q.root (subst (λ nodes. IsRootRecord nodes p.root) agree.nodes is.root) at.root in
      let root_cells : p.root_cells ≡ q.root_cells =
      same_contents known other agree (rows_of root_id (p.root ∷ [])) (p.root ∷ []) p.root_cells q.root_cells is.root_content (ap (λ tablet. contents_of other (rows_of root_id (tablet ∷ [])) (tablet ∷ [])) root ∙ at.root_content) in
      let metadata : p.metadata ≡ q.metadata =
      same_level IsMetadataTable p.root_cells p.metadata q.metadata is.metadata (subst (λ cells. IsLevelOf IsMetadataTable cells q.metadata) (sym root_cells) at.metadata) in
      let chain : p.chain ≡ q.chain = one_chain (p.metadata.records metadata_id) p.chain q.chain is.chain (subst (λ level. IsChain (level.records metadata_id) q.chain) (sym metadata) at.chain) in
      let cells : p.metadata_cells ≡ q.metadata_cells =
      same_contents known other agree (p.metadata.records metadata_id) p.chain p.metadata_cells q.metadata_cells is.content ((λ i. contents_of other ((metadata i).records metadata_id) (chain i)) ∙ at.content) in
      let users : p.users ≡ q.users = same_level IsTableId p.metadata_cells p.users q.users is.users (subst (λ l. IsLevelOf IsTableId l q.users) (sym cells) at.users) in
      λ i. record { root = root i; root_cells = root_cells i; metadata = metadata i; chain = chain i; metadata_cells = cells i; users = users i }

  one_table : (rows : Rows) (node : TableNode) (s t : Table) → TableStands known rows node s → TableStands other rows node t → s ≡ t
  one_table rows node s t p q =
      let chain : p.chain ≡ q.chain = one_chain rows p.chain q.chain p.is_chain q.is_chain in
      let cells : p.cells ≡ q.cells = same_contents known other agree rows p.chain p.cells q.cells p.content (ap (contents_of other rows) chain ∙ q.content) in
      let layers : p.layers ≡ q.layers = same_layers known other agree rows p.chain node.mark p.layers q.layers p.brought (ap (λ c. layers_of other rows c node.mark) chain ∙ q.brought) in
      let names : s.name ≡ t.name = p.name ∙ sym q.name in
      let points : s.points ≡ t.points = same_points s.points t.points (λ row. p.points row ∙ ap (list_any (is_ending row)) chain ∙ sym (q.points row)) in
      let pairs : s.pairs ≡ t.pairs = same_pairs s.pairs t.pairs (λ key. p.pairs key ∙ (λ i. layered (layers i) key (newest_at (cells i) key)) ∙ sym (q.pairs key)) in
      λ i. record { name = names i; points = points i; pairs = pairs i }

  one_there : (rows : Rows) (node : Option TableNode) (x y : Option Table) → TableAt known rows node x → TableAt other rows node y → x ≡ y
  one_there rows None x y p q = p ∙ sym q
  one_there rows (Some node) x y p q = by (is_online node.state) p q
    where
      by : (b : Bool) → MatchBool b (IsTableOf known rows node x) (x ≡ None) → MatchBool b (IsTableOf other rows node y) (y ≡ None) → x ≡ y
      by true is at = is.is ∙ ap Some (one_table rows node is.table at.table is.stands at.stands) ∙ sym at.is
      by false is at = is ∙ sym at

  one_staged : (path : Option (List ℕ)) (x y : Option PairMap) → StagedAt known path x → StagedAt other path y → x ≡ y
  one_staged None x y p q = p ∙ sym q
  one_staged (Some path) x y p q =
      let cells : p.cells ≡ q.cells = agree.cells path p.cells q.cells p.told q.told in
      p.is ∙ ap Some (same_pairs p.staged q.staged (λ key. p.pairs key ∙ ap (λ l. newest_at l key) cells ∙ sym (q.pairs key))) ∙ sym q.is

  pub one_state : OneCatalog → (p q : Reading) (c d : Catalog) (s t : PlainState) → StandsAs p c known s → StandsAs q d other t → s ≡ t
  one_state one_catalog p q c d s t is at =
      let reading : p ≡ q = one_reading_of_both p q is.read.levels at.read.levels in
      let catalog : c ≡ d = one_catalog other.nodes c d (subst (λ nodes. IsCatalogOf nodes c) agree.nodes is.nodes) at.nodes in
      let tables : s.tables ≡ t.tables = same_map nat_list_cmp_total exact_bytes s.tables t.tables (λ id.
      one_there (p.users.records id) (c.tables id) (map_of.get s.tables id) (map_of.get t.tables id) (is.tables id)
      (subst (λ (r : Reading). TableAt other (r.users.records id) (c.tables id) (map_of.get t.tables id)) (sym reading) (subst (λ (k : Catalog). TableAt other (q.users.records id) (k.tables id) (map_of.get t.tables id)) (sym catalog) (at.tables id)))) in
      let staged : s.staged ≡ t.staged = same_map nat_list_cmp_total exact_bytes s.staged t.staged (λ name.
      one_staged (c.staged name) (map_of.get s.staged name) (map_of.get t.staged name) (is.staged name)
      (subst (λ (k : Catalog). StagedAt other (k.staged name) (map_of.get t.staged name)) (sym catalog) (at.staged name))) in
      λ i. record { tables = tables i; staged = staged i }

-- a ground agrees with itself
pub agree_with_itself : (known : Ground) → Agree known known
agree_with_itself known = record {
  nodes = refl;
  cells = λ name a b p q. same_Some a b (sym p ∙ q);
  mutations = λ name a b p q. same_Some a b (sym p ∙ q);
  sorted = λ name a b p q. same_Some a b (sym p ∙ q);
}

pub one_reading : OneChain → (known : Ground) (one other : Reading) → IsReadingOf known one → IsReadingOf known other → one ≡ other
one_reading one_chain known one other p q = one_reading_of_both one_chain known known (agree_with_itself known) one other p q
