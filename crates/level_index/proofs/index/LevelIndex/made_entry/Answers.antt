use Rattle.std.proofs.Common.{◌∙◌, ap}
use Rattle.std.proofs.lemmas.Result.{IfOk-weaker, IfErr-weaker}
use Rattle.level_index.specs.Entries.{columns_at}
use Rattle.level_index.proofs.MakeLemmas.{makes_entry, write_cause}
use Rattle.level_index.proofs.index.LevelIndex.made_entry.Goals as goal

pub returns-clause-ok : goal.returns-clause-ok
returns-clause-ok c =
    let columns = c.deref.ensures.value ∙ c.in_ok-columns.ensures ∙ ap columns_at c.get.ensures.value in
    IfOk-weaker c.entry_after.result _ _ (λ entry gives. makes_entry c.args.self.now c.get.ensures.own c.args.row.now c.args.updates.now c.kind.result c.deref.result.now c.kind.ensures columns entry gives) c.entry_after.ensures.ok

pub returns-clause-cause : goal.returns-clause-cause
returns-clause-cause c =
    let columns = c.deref.ensures.value ∙ c.in_ok-columns.ensures ∙ ap columns_at c.get.ensures.value in
    IfErr-weaker c.entry_after.result _ _ (λ fault cause. write_cause c.args.self.now c.get.ensures.own c.args.row.now c.args.updates.now c.kind.result c.deref.result.now c.kind.ensures columns fault cause) c.entry_after.ensures.cause
