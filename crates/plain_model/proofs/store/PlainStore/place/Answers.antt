use Rattle.std.proofs.Common.{◌∙◌}
use Rattle.plain_model.proofs.StoreLemmas.{tables_are}
use Rattle.plain_model.proofs.store.PlainStore.place.Goals as goal

pub returns-in-Ok : goal.returns-in-Ok
returns-in-Ok c = c.in-Ok.ensures.place c.args.self.now.tables (c.deref.ensures.value ∙ tables_are c.self.inside c.args.self.now c.self.view_is c.self.invariant)
