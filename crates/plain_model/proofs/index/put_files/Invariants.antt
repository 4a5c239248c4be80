use Rattle.std.proofs.Common.{◌≡◌, drop, Some}
use Rattle.std.specs.FinMap as map
use Rattle.row_keys.specs.RowOrder.{bytes_cmp}
use Rattle.plain_model.specs.State.{PairMap}
use Rattle.plain_model.specs.Apply.{put_files}
use Rattle.plain_model.specs.Listed.{listed, staged_item}
use Rattle.plain_model.proofs.index.put_files.Given as goal

abbrev pub invariant-loop-name : goal.invariant-loop-name
invariant-loop-name l = (staged : map.FinMap bytes_cmp PairMap) (m next : PairMap) → l.files ≡ listed staged_item staged → l.initial.index.entries ≡ map.entries m → put_files l.names staged m ≡ Some next
    → (now : PairMap) × (l.index.entries ≡ map.entries now) × (put_files (drop l.name-index l.names) staged now ≡ Some next)
