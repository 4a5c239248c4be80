use Rattle.std.proofs.Common.{◌≡◌, ◌-◌, ◌++◌, reverse}
use Rattle.server_nodes.specs.Sessions.{last_digits}
use Rattle.server_nodes.proofs.sessions.last_digits.Given as goal

abbrev pub invariant-loop : goal.invariant-loop
invariant-loop l = last_digits (16 - l.counter) l.rest ++ reverse l.digits.items ≡ last_digits 16 l.fn.number
