use Rattle.std.proofs.Common.{refl}
use Rattle.tablet_mem.specs.Memory.{cleared}
use Rattle.tablet_mem.proofs.LawsLemmas.{clock-greatest, clock-cleared}
use Rattle.tablet_mem.proofs.laws.the_clock_is_the_greatest_time.Goals as goal

pub returns : goal.returns
returns c = record { greatest = clock-greatest; cleared = λ memory mutations. clock-cleared (cleared memory) memory mutations refl }
