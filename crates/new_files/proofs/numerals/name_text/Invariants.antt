use Rattle.std.proofs.Common.{◌≡◌, ◌<◌, ◌+◌, ◌-◌, ◌^◌, length}
use Rattle.new_files.specs.Names.{name_text}
use Rattle.new_files.proofs.TextLemmas.{written}
use Rattle.new_files.proofs.numerals.name_text.Given as goal

abbrev pub invariant-loop-rest : goal.invariant-loop-rest
invariant-loop-rest l = record {
  spelled : written l.rest l.digits.items ≡ name_text l.fn.number;
  room : l.rest < 36 ^ (13 - length l.digits.items);
}

abbrev pub decreases-loop-rest : goal.decreases-loop-rest
decreases-loop-rest l = l.rest + (7 - length l.digits.items)
