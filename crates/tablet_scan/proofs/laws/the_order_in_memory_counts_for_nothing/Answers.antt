use Rattle.tablet_scan.proofs.ScanLemmas.{memory_in_order}
use Rattle.tablet_scan.proofs.laws.the_order_in_memory_counts_for_nothing.Goals as goal

pub returns : goal.returns
returns c = memory_in_order
