use Rattle.std.proofs.Common.{sym, ◌∙◌, subst}
use Rattle.std.proofs.lemmas.Result.{IfOk-weaker}
use Rattle.level_rows.specs.Chain.{Rows}
use Rattle.store_meaning.specs.Levels.{root_rows}
use Rattle.level_cache.specs.Tables.{AreRecordsAt}
use Rattle.level_cache.proofs.RootLemmas.{root_listed}
use Rattle.level_cache.proofs.TableLemmas.{rows_of_root}
use Rattle.level_cache.proofs.cache.LevelCache.records.Goals as goal

pub returns-in-None-clause-records : goal.returns-in-None-clause-records
returns-in-None-clause-records g c = λ f reading known shows have.
    (let is = sym c.level_with.ensures ∙ c.in-None.is in
    IfOk-weaker c.root_records.result _ _
    (λ records are. subst (λ (rows : Rows). AreRecordsAt rows records.items) (sym (rows_of_root reading c.args.table.now is)) (subst (AreRecordsAt (root_rows reading)) (sym are) (root_listed reading.root shows.is.root.at)))
    (c.root_records.ensures.told f reading known shows.of shows.is))
