use Rattle.std.proofs.Common.{sym, ◌∙◌, ap}
use Rattle.std.specs.Option.{option_copied}
use Rattle.std.proofs.lemmas.Result.{IfOk-weaker}
use Rattle.level_rows.specs.Chain.{Rows}
use Rattle.level_cache.proofs.TableLemmas.{rows_of_root}
use Rattle.level_cache.proofs.cache.LevelCache.row_of.Goals as goal

pub returns-in-None-clause-told : goal.returns-in-None-clause-told
returns-in-None-clause-told g c = λ f reading known shows have.
    IfOk-weaker c.root_at.result _ _ (λ found told. told ∙ ap (λ (rows : Rows). rows (option_copied c.args.named.1)) (sym (rows_of_root reading c.args.named.0.now (sym c.level_with.ensures ∙ c.in-None.is))))
    (c.root_at.ensures.told f reading known shows.of shows.is)
