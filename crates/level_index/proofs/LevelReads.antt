-- What is read is the level.
use Rattle.std.proofs.Common.{◌≡◌, List, Result, Ok, Err, sym, subst}
use Rattle.std.specs.Result.{IfOk}
use Rattle.cell_merge.specs.declared.cell.Cell.{Cell}
use Rattle.cell_merge.specs.declared.cell.Pair.{Pair}
use Rattle.cell_merge.specs.Newest.{IsNewest}
use Rattle.store_meaning.specs.Levels.{IsLevelOf}
use Rattle.state_reader.specs.declared.level.LevelKind.{LevelKind}
use Rattle.state_reader.specs.declared.level.LevelFault.{LevelFault}
use Rattle.state_reader.specs.LevelRows.{IsOfKind}
use Rattle.level_index.specs.Entries.{LevelMap, level_of, IsLevelMap}
use Rattle.level_index.specs.RowReads.{IsReadTo}
use Rattle.level_index.proofs.LevelLemmas.{level_read, own_read}

level_of_kind : (kind : LevelKind) (cells : List Cell) (pairs : List Pair) (index : LevelMap) → IsNewest cells pairs → index.kind ≡ kind → IsReadTo kind cells pairs index.entries → IsLevelOf (IsOfKind kind) cells (level_of index)
level_of_kind kind cells pairs index newest same read =
    let own : IsLevelMap index.kind index.entries = subst (λ k. IsLevelMap k index.entries) (sym same) (own_read kind cells pairs index read) in
    subst (λ k. IsLevelOf (IsOfKind k) cells (level_of index)) same (level_read index own cells pairs newest (subst (λ k. IsReadTo k cells pairs index.entries) (sym same) read))

pub if_read : (kind : LevelKind) (cells : List Cell) (pairs : List Pair) (r : Result LevelMap LevelFault) → IsNewest cells pairs → IfOk r (λ index. index.kind ≡ kind) → IfOk r (λ index. (all : List Cell) → IsNewest all pairs → IsReadTo kind all pairs index.entries)
    → IfOk r (λ index. IsLevelOf (IsOfKind kind) cells (level_of index))
if_read kind cells pairs (Ok index) newest same read = level_of_kind kind cells pairs index newest same (read cells newest)
if_read kind cells pairs (Err fault) newest same read = tt
