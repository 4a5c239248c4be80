use Rattle.kept_meaning.proofs.ServerLemmas.{servers_stand, servers_kept}
use Rattle.kept_meaning.proofs.nodes.servers_may_come_and_go.Goals as goal

pub returns : goal.returns
returns c = record {
  stands = λ reading catalog known state is nodes change. servers_stand reading catalog known state nodes change is;
  kept = λ reading catalog known state is nodes change. servers_kept reading catalog known state nodes change is;
}
