-- A new and empty table.
use Rattle.std.proofs.Common.{◌≡◌, ℕ, Bool, true, false, cond, ◌||◌, List, [], ◌∷◌, Option, Some, None, is_some, refl, sym, ◌∙◌, ap}
use Rattle.std.specs.FinMap as map_of
use Rattle.std.specs.FinMap.{get-insert, get-empty}
use Rattle.std.specs.List.{list_any}
use Rattle.std.proofs.lemmas.Cmp.{nat_list_cmp_total}
use Rattle.std.specs.Cmp.Lexicographic.{texts_ties}
use Rattle.row_keys.specs.RowOrder.{bytes_cmp}
use Rattle.row_keys.specs.Keys.{key_cmp}
use Rattle.plain_model.specs.State.{PlainState, PointSet, has_point, with_point, with_points}
use Rattle.plain_model.specs.Apply.{put_table, apply}
use Rattle.plain_model.specs.declared.operation.Op.TheVariants.{Create}
use Rattle.plain_model.specs.declared.stop.PlainStop.TheVariants.{Exists}
use Rattle.plain_model.proofs.LawsLemmas.{unnamed}
use Rattle.std.specs.Prelude.{Ok, Err}
use Rattle.metadata_schema.specs.Bytes.{same}
use Rattle.cell_merge.specs.Changes.{AreConsistent, Covers}
use Rattle.level_rows.specs.Chain.{Rows}
use Rattle.level_rows.proofs.Membership.{Contains-nil}
use Rattle.node_store.specs.Nodes.{Nodes}
use Rattle.store_layout.specs.Tables.{Catalog}
use Rattle.store_layout.specs.declared.tables.TableNode.{TableNode}
use Rattle.store_meaning.specs.Ground.{Ground}
use Rattle.store_meaning.specs.Levels.{Reading}
use Rattle.store_meaning.specs.Marked.{layers_of}
use Rattle.store_meaning.specs.Stands.{TableStands}
use Rattle.store_meaning.proofs.WrittenLemmas.{covered_tablets}
use Rattle.kept_meaning.specs.Nodes.{online_node, new_table, IsEmptyTable, MakesOnline, CreatesTable}

-- a point is there, or among those that come
points_with : (splits : List (List ℕ)) (points : PointSet) (row : List ℕ) → has_point (with_points splits points) row ≡ (has_point points row || list_any (same row) splits)
points_with [] points row = sym (or_none (has_point points row))
  where
    or_none : (b : Bool) → (b || false) ≡ b
    or_none true = refl
    or_none false = refl
points_with (split ∷ more) points row =
    points_with more (with_point points split) row
    ∙ ap (λ o. is_some o || list_any (same row) more) (get-insert nat_list_cmp_total points split tt row)
    ∙ ap (λ b. is_some (cond b (Some tt) (map_of.get points row)) || list_any (same row) more) (sym (texts_ties row split))
    ∙ by (same row split) (map_of.get points row) (list_any (same row) more)
  where
    by : (b : Bool) (o : Option (Unit {0})) (rest : Bool) → (is_some (cond b (Some tt) o) || rest) ≡ (is_some o || (b || rest))
    by true None rest = refl
    by true (Some one) rest = refl
    by false o rest = refl

no_cells : AreConsistent []
no_cells = record { one = λ a b there. absurd (Contains-nil a there) }

cover_nothing : Covers [] []
cover_nothing = record { within = λ cell there. there; covered = λ cell there. absurd (Contains-nil cell there) }

pub empty_stands : (known : Ground) (rows : Rows) (node : TableNode) (splits : List (List ℕ)) → IsEmptyTable known rows node splits → TableStands known rows (online_node node) (new_table node.name splits)
empty_stands known rows node splits is = record {
  chain = is.chain;
  is_chain = is.is_chain;
  cells = [];
  content = is.empty;
  consistent = covered_tablets known rows is.chain [] [] is.empty no_cells cover_nothing;
  layers = [];
  brought = ap (layers_of known rows is.chain) is.free;
  name = refl;
  points = λ row. points_with splits map_of.empty row ∙ ap (λ o. is_some o || list_any (same row) splits) (get-empty bytes_cmp row) ∙ sym (is.ends row);
  pairs = λ key. get-empty key_cmp key;
}

module _ (reading : Reading) (catalog : Catalog) (known : Ground) (state : PlainState) (nodes : Nodes) (id : List ℕ) (node : TableNode) (splits : List (List ℕ)) (creates : CreatesTable known reading catalog state nodes id node splits) where
  pub comes_online : MakesOnline known reading catalog state nodes id node (new_table node.name splits)
  comes_online = record {
    sets = creates.sets;
    stands = empty_stands known (reading.users.records id) node splits creates.empty;
    named = λ other another found name. unnamed node.name state other another creates.free_name found name;
  }

  pub is_create : apply (Create id node.name splits) state ≡ Ok (put_table id (new_table node.name splits) state)
  is_create = ap (λ b. cond b (Err Exists) (Ok (put_table id (new_table node.name splits) state))) creates.free_name
