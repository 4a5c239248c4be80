-- Rows that are added to split points one after another.
use Rattle.std.proofs.Common.{◌≡◌, ℕ, List, [], ◌∷◌, ◌++◌, map as mapped, Less, Equal, Greater, refl, sym, ◌∙◌, ap}
use Rattle.std.specs.Ordering.{match_ordering}
use Rattle.std.specs.BTreeSet.{insert_key}
use Rattle.std.specs.FinMap as map
use Rattle.std.specs.FinMap.{entries-insert}
use Rattle.std.specs.FinMap.Entries.{put, by_order}
use Rattle.std.proofs.lemmas.Cmp.{nat_list_cmp_total}
use Rattle.row_keys.specs.RowOrder.{bytes_cmp}
use Rattle.plain_model.specs.State.{PointSet, with_point, with_points}
use Rattle.plain_model.specs.Listed.{listed, point_item}

pub with_points-push : (rows : List (List ℕ)) (row : List ℕ) (points : PointSet) → with_points (rows ++ row ∷ []) points ≡ with_point (with_points rows points) row
with_points-push [] row points = refl
with_points-push (first ∷ rows) row points = with_points-push rows row (with_point points first)

insert_key-put : (es : List (List ℕ × Unit {0})) (row : List ℕ) → insert_key bytes_cmp (mapped point_item es) row ≡ mapped point_item (put bytes_cmp row tt es)
insert_key-put [] row = refl
insert_key-put (e ∷ es) row =
    elim (bytes_cmp row e.0) as (λ r. match_ordering r (row ∷ e.0 ∷ mapped point_item es) (e.0 ∷ mapped point_item es) (e.0 ∷ insert_key bytes_cmp (mapped point_item es) row) ≡ mapped point_item (by_order r ((row, tt) ∷ e ∷ es) ((e.0, tt) ∷ es) (e ∷ put bytes_cmp row tt es))) [
      | Less ↦ refl
      | Equal ↦ refl
      | Greater ↦ ap (λ rows. e.0 ∷ rows) (insert_key-put es row)
    ]

-- one row more in a set of rows
pub insert_key-listed : (points : PointSet) (row : List ℕ) → insert_key bytes_cmp (listed point_item points) row ≡ listed point_item (with_point points row)
insert_key-listed points row = insert_key-put (map.entries points) row ∙ ap (mapped point_item) (sym (entries-insert nat_list_cmp_total points row tt))
