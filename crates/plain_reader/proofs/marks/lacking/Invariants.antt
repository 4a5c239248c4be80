use Rattle.std.proofs.Common.{◌≡◌, take}
use Rattle.std.specs.Prelude.{filter}
use Rattle.store_meaning.specs.Marked.{is_lacking}
use Rattle.plain_reader.proofs.marks.lacking.Given as goal

abbrev pub invariant-loop-tablet : goal.invariant-loop-tablet
invariant-loop-tablet l = l.tablets.items ≡ filter (is_lacking l.mark) (take l.tablet-index l.chain)
