use Rattle.std.proofs.Common.{◌∙◌, ap}
use Rattle.std.specs.Option.{option_and_then}
use Rattle.level_index.specs.Entries.{tablet_in}
use Rattle.level_index.proofs.MapLemmas.{record_there}
use Rattle.level_index.proofs.index.LevelIndex.record.Goals as goal

pub returns-in-Some-clause-level : goal.returns-in-Some-clause-level
returns-in-Some-clause-level c = λ table end named.
    c.tablet_in.ensures ∙ ap (option_and_then tablet_in) c.in-Some.ensures.value ∙ record_there c.args.self.now.kind c.args.self.now.entries c.get.ensures.own c.args.row.now table end named
