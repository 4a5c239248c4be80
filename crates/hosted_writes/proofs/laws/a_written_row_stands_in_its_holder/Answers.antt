use Rattle.hosted_writes.proofs.FollowLemmas.{one_holder, stands, other_aside}
use Rattle.hosted_writes.proofs.laws.a_written_row_stands_in_its_holder.Goals as goal

pub returns : goal.returns
returns c = record { one = one_holder; stands = stands; others = other_aside }
