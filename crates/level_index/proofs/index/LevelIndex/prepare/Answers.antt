use Rattle.level_index.proofs.MakeLemmas.{prepares, made_stands}
use Rattle.level_index.proofs.index.LevelIndex.prepare.Goals as goal

pub pend-requires : goal.pend-requires
pend-requires c = made_stands c.args.self c.made_entry.ensures.own c.args.row.now c.args.updates.now c.in-Ok.entry c.in-Ok.ensures.ok

pub returns-in-Ok-pend-clause-ok : goal.returns-in-Ok-pend-clause-ok
returns-in-Ok-pend-clause-ok c = prepares c.args.self c.made_entry.ensures.own c.args.row.now c.args.updates.now c.in-Ok.entry c.in-Ok.ensures.ok c.in-Ok-pend.prepared c.in-Ok-pend.ensures.before c.in-Ok-pend.ensures.after
