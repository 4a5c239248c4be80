use Rattle.std.proofs.Common.{◌≡◌, ◌++◌, map}
use Rattle.server_list.specs.Value.{entry_of}
use Rattle.server_list.proofs.list.ServerList.entries.Given as goal

abbrev pub invariant-loop-session : goal.invariant-loop-session
invariant-loop-session l = l.entries.items ++ map entry_of l.session-iterator ≡ map entry_of l.initial.session-iterator
