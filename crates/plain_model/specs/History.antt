-- Histories.
use Rattle.std.specs.Prelude.{List, [], ◌∷◌, Option, Some}
use Rattle.std.specs.Option.{option_and_then}
use Rattle.std.specs.Result.{result_ok}
use Rattle.plain_model.specs.declared.operation.Entry.{Entry}
use Rattle.plain_model.specs.State.{PlainState}
use Rattle.plain_model.specs.Apply.{apply}

-- the state after the operations of these entries in order; none where one of them is refused
abbrev pub after : List Entry → PlainState → Option PlainState
after [] s = Some s
after (entry ∷ more) s = option_and_then (after more) (result_ok (apply entry.op s))
