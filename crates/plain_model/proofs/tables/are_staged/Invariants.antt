use Rattle.std.proofs.Common.{◌≡◌, drop}
use Rattle.std.specs.List.{list_all}
use Rattle.std.specs.FinMap as map
use Rattle.row_keys.specs.RowOrder.{bytes_cmp}
use Rattle.plain_model.specs.State.{PairMap}
use Rattle.plain_model.specs.Listed.{listed, staged_item}
use Rattle.plain_model.proofs.tables.are_staged.Given as goal

abbrev pub invariant-loop-name : goal.invariant-loop-name
invariant-loop-name l = (m : map.FinMap bytes_cmp PairMap) → l.files ≡ listed staged_item m → list_all (map.contains_key m) (drop l.name-index l.names) ≡ list_all (map.contains_key m) l.names
