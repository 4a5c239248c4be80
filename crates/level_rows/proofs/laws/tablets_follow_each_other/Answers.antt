use Rattle.std.proofs.Common.{None}
use Rattle.level_rows.proofs.WayLemmas.{row_of}
use Rattle.level_rows.proofs.BesideLemmas.{next_ends, first_begins}
use Rattle.level_rows.proofs.laws.tablets_follow_each_other.Goals as goal

pub returns : goal.returns
returns c = record {
  next = λ rows above below tablet lower p. next_ends rows None above tablet lower below p;
  lowest = λ rows above tablet p. first_begins rows None above tablet p;
  found = λ rows tablets tablet p there. row_of rows None tablets tablet p there;
}
