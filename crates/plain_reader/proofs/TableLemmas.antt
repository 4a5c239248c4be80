-- A table that is put into a state.
use Rattle.std.proofs.Common.{◌≡◌, ℕ, ◌+◌, ◌<◌, List, [], ◌∷◌, ◌++◌, length, take, get_or, Bool, true, false, ◌||◌, cond, Option, Some, None, is_some, IsSome, refl, sym, ◌∙◌, ap}
use Rattle.std.specs.FinMap as map
use Rattle.std.specs.List.{list_any, cons_option}
use Rattle.std.specs.Option.{option_and_then}
use Rattle.std.specs.Ordering.{eq_by_cmp}
use Rattle.std.specs.Cmp.{eq_by_cmp_equiv as same_equiv}
use Rattle.std.specs.Cmp.Lexicographic.{nat_list_cmp_total, texts_ties}
use Rattle.std.proofs.lemmas.Option.{same_Some}
use Rattle.std.proofs.lemmas.List.Elements.{filter_map-append}
use Rattle.row_keys.specs.declared.key.Key.{Key}
use Rattle.row_keys.specs.Keys.{key_cmp}
use Rattle.row_keys.specs.RowOrder.{bytes_cmp}
use Rattle.metadata_schema.specs.declared.tablet.TabletRecord.{TabletRecord}
use Rattle.metadata_schema.specs.Bytes.{same}
use Rattle.cell_merge.specs.declared.cell.Cell.{Cell}
use Rattle.cell_merge.specs.Newest.{latest, newest_at}
use Rattle.cell_merge.specs.Changes.{overlaid}
use Rattle.plain_model.specs.State.{PointSet, Table, PlainState, has_point, with_points}
use Rattle.plain_model.specs.Apply.{put_table}
use Rattle.level_rows.specs.Chain.{Rows, same_end}
use Rattle.store_layout.specs.declared.tables.TableNode.{TableNode}
use Rattle.store_meaning.specs.Ground.{Ground}
use Rattle.store_meaning.specs.Marked.{layered}
use Rattle.store_meaning.specs.Stands.{is_ending}
use Rattle.state_reader.proofs.RowLists.{one_more as one_more_of}
use Rattle.plain_reader.specs.Puts.{put_over, PutsOver}
use Rattle.plain_reader.specs.Parts.{AreParts}
use Rattle.plain_reader.specs.Tables.{ends_of, bare_table, PutsTable}
use Rattle.plain_reader.proofs.PutLemmas.{puts_both, put-there, put-other}

-- ---- split points

turned : (x a p : Bool) → x || (a || p) ≡ (a || x) || p
turned true true p = refl
turned true false p = refl
turned false true p = refl
turned false false p = refl

one_more : (points : PointSet) (at row : List ℕ) → has_point (map.insert points at tt) row ≡ same at row || has_point points row
one_more points at row = ap is_some (map.get-insert nat_list_cmp_total points at tt row) ∙ by (eq_by_cmp bytes_cmp row at) ∙ ap (λ b. b || has_point points row) ((same_equiv nat_list_cmp_total).symm row at ∙ sym (texts_ties at row))
  where
    by : (b : Bool) → is_some (cond b (Some tt) (map.get points row)) ≡ b || has_point points row
    by true = refl
    by false = refl

points_put : (chain : List TabletRecord) (points : PointSet) (row : List ℕ) → has_point (with_points (ends_of chain) points) row ≡ list_any (is_ending row) chain || has_point points row
points_put [] points row = refl
points_put (tablet ∷ chain) points row = by (λ p. points_put chain p row) tablet.end
  where
    by : ((p : PointSet) → has_point (with_points (ends_of chain) p) row ≡ list_any (is_ending row) chain || has_point p row) → (o : Option (List ℕ)) → has_point (with_points (cons_option o (ends_of chain)) points) row ≡ (same_end o (Some row) || list_any (is_ending row) chain) || has_point points row
    by rest None = rest points
    by rest (Some end) =
        rest (map.insert points end tt)
        ∙ ap (λ b. list_any (is_ending row) chain || b) (one_more points end row)
        ∙ turned (list_any (is_ending row) chain) (same end row) (has_point points row)

or_none : (b : Bool) → b || false ≡ b
or_none true = refl
or_none false = refl

-- the points at which a table is split are the end rows of its tablets
pub ends_are_points : (chain : List TabletRecord) (row : List ℕ) → has_point (with_points (ends_of chain) map.empty) row ≡ list_any (is_ending row) chain
ends_are_points chain row =
    points_put chain map.empty row ∙ ap (λ b. list_any (is_ending row) chain || b) (ap is_some (map.get-empty bytes_cmp row)) ∙ or_none (list_any (is_ending row) chain)

-- the end rows of one tablet more
pub ends_more : (chain : List TabletRecord) (i : ℕ) (tablet : TabletRecord) → i < length chain → tablet ≡ get_or chain i tablet → ends_of (take (i + 1) chain) ≡ ends_of (take i chain) ++ ends_of (tablet ∷ [])
ends_more chain i tablet lt at = ap ends_of (one_more_of chain i tablet lt at) ∙ filter_map-append (λ (t : TabletRecord). t.end) (take i chain) (tablet ∷ [])

-- ---- the table

over_nothing : (cells : List Cell) (key : Key) → put_over cells key None ≡ newest_at cells key
over_nothing cells key = by (latest cells key)
  where
    by : (o : Option Cell) → overlaid o None ≡ option_and_then (λ cell. cell.value) o
    by None = refl
    by (Some cell) = refl

pub created : (id : List ℕ) (table : Table) (old made : PlainState) → made ≡ put_table id table old → IsSome (map.get made.tables id)
created id table old made begun = ap (λ (s : PlainState). is_some (map.get s.tables id)) begun ∙ ap is_some (put-there id table old)

module _ (known : Ground) (rows : Rows) (node : TableNode) (chain : List TabletRecord) (cells : List Cell) (layers : List (List Cell)) (are : AreParts known rows node.mark chain cells layers) where
  pub table_put : (old made mid new : PlainState) → made ≡ put_table node.id (bare_table node.name (ends_of chain)) old → PutsOver node.id (put_over cells) made mid → PutsOver node.id (layered layers) mid new
      → PutsTable known rows node old new
  table_put old made mid new begun first second =
      let bare = bare_table node.name (ends_of chain) in
      let all = puts_both node.id (put_over cells) (layered layers) made mid new first second in
      let made_there : map.get made.tables node.id ≡ Some bare = ap (λ (s : PlainState). map.get s.tables node.id) begun ∙ put-there node.id bare old in
      let same_bare : all.table ≡ bare = same_Some all.table bare (sym all.there ∙ made_there) in
      record {
        stands = record {
          table = all.changed;
          is = all.is;
          stands = record {
            chain = chain;
            is_chain = are.is_chain;
            cells = cells;
            content = are.content;
            consistent = are.consistent;
            layers = layers;
            brought = are.brought;
            name = all.name ∙ ap (λ (t : Table). t.name) same_bare;
            points = λ row. ap (λ (p : PointSet). has_point p row) (all.points ∙ ap (λ (t : Table). t.points) same_bare) ∙ ends_are_points chain row;
            pairs = λ key. all.pairs key ∙ ap (λ (t : Table). layered layers key (put_over cells key (map.get t.pairs key))) same_bare ∙ ap (layered layers key) (ap (put_over cells key) (map.get-empty key_cmp key) ∙ over_nothing cells key);
          };
        };
        others = λ other apart. all.others other apart ∙ ap (λ (s : PlainState). map.get s.tables other) begun ∙ put-other node.id bare old other apart;
        staged = all.staged ∙ ap (λ (s : PlainState). s.staged) begun;
      }
