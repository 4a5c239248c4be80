use Rattle.std.proofs.Common.{sym, ◌∙◌}
use Rattle.state_reader.specs.Still.{ground_of}
use Rattle.state_reader.proofs.LackLemmas.{content_there}
use Rattle.state_reader.proofs.chains.told_cells.Goals as goal

pub unreachable-requires : goal.unreachable-requires
unreachable-requires c = content_there (ground_of c.args.still.now) c.in_ok-low.low c.args.tablet.now (rw c.in_default.is at c.in_ok-untold.ensures) (sym c.in_ok-cells.ensures ∙ c.in-None.is)
