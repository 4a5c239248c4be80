use Rattle.level_rows.proofs.PartitionLemmas.{partition_at, partition_of}
use Rattle.level_rows.proofs.laws.each_row_lies_in_one_extent.Goals as goal

pub returns : goal.returns
returns c = record { of = partition_of; down = partition_at }
