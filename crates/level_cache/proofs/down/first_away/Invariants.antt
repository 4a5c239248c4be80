use Rattle.std.proofs.Common.{take, All}
use Rattle.level_cache.specs.Down.{IsLive}
use Rattle.level_cache.proofs.down.first_away.Given as goal

abbrev pub invariant-loop-tablet : goal.invariant-loop-tablet
invariant-loop-tablet l = All (IsLive l.servers) (take l.tablet-index l.tablets)
