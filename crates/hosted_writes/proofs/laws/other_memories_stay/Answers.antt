use Rattle.hosted_writes.proofs.FollowLemmas.{memory_stays, past_stays, aside}
use Rattle.hosted_writes.proofs.laws.other_memories_stay.Goals as goal

pub returns : goal.returns
returns c = record {
  memory = λ known low tablet memory log mutation is out. memory_stays known low tablet memory log mutation out is;
  past = λ known low tablet memory log mutation past out. past_stays known low tablet memory log mutation out past;
  aside = aside;
}
