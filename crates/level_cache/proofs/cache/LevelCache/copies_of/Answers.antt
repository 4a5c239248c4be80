use Rattle.std.proofs.lemmas.Result.{IfOk-weaker}
use Rattle.level_index.specs.Entries.{level_of}
use Rattle.level_cache.proofs.TellLemmas.{listed_forms}
use Rattle.level_cache.proofs.cache.LevelCache.copies_of.Goals as goal

pub returns-in-Some-clause-forms : goal.returns-in-Some-clause-forms
returns-in-Some-clause-forms c = IfOk-weaker c.records_of.result _ _ (λ records are. listed_forms (level_of c.in-Some.index.now) c.args.table.now records.items are) c.records_of.ensures
