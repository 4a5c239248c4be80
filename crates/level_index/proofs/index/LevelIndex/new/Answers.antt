use Rattle.level_index.proofs.MapLemmas.{own_empty, empty_level}
use Rattle.level_index.proofs.index.LevelIndex.new.Goals as goal

pub invariant_of-result : goal.invariant_of-result
invariant_of-result c = own_empty c.args.kind c.new.result.entries c.new.ensures.empty

pub returns-clause-level : goal.returns-clause-level
returns-clause-level c = empty_level c.args.kind c.new.result.entries c.new.ensures.empty
