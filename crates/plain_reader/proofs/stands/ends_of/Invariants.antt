use Rattle.std.proofs.Common.{◌≡◌, take}
use Rattle.plain_reader.specs.Tables.{ends_of}
use Rattle.plain_reader.proofs.stands.ends_of.Given as goal

abbrev pub invariant-loop-tablet : goal.invariant-loop-tablet
invariant-loop-tablet l = l.rows.items ≡ ends_of (take l.tablet-index l.chain)
