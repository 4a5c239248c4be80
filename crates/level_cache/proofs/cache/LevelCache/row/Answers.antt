use Rattle.std.proofs.Common.{ℕ, List, Option, ◌∙◌, ap}
use Rattle.std.proofs.lemmas.Result.{IfOk-weaker}
use Rattle.level_cache.specs.Tables.{rows_in}
use Rattle.level_cache.proofs.TableLemmas.{found_in}
use Rattle.level_cache.proofs.cache.LevelCache.row.Goals as goal

pub returns-in-Some-clause-row : goal.returns-in-Some-clause-row
returns-in-Some-clause-row g c = λ f reading known shows have.
    (let named = rw c.in-Some.is at c.in-Ok.ensures.ok in
    IfOk-weaker c.row_of.result _ _ (λ found is. found_in reading c.in-Some.table c.args.row.now c.in-Some.end found named (is ∙ ap (λ (end : Option (List ℕ)). rows_in reading c.in-Some.table end) c.as_ref.ensures.value)) (c.row_of.ensures.told f reading known shows (have c.in-Some.table c.in-Some.end named)))
