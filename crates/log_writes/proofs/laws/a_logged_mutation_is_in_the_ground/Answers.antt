use Rattle.log_writes.proofs.LogLemmas.{ground_logged, ground_either, kept_logged, kept_either}
use Rattle.log_writes.proofs.laws.a_logged_mutation_is_in_the_ground.Goals as goal

pub returns : goal.returns
returns c = record {
  ground = λ old new known log mutations mutation of told logged. ground_logged old new known log mutations mutation of told logged;
  ground_inside = λ old new known log mutations mutation of told may. ground_either old new known log mutations mutation of told may;
  kept = λ old new before after is log mutations mutation told reading catalog kept logged. kept_logged old new before after is log mutations mutation told reading catalog kept logged;
  kept_inside = λ old new before after is log mutations mutation told reading catalog kept may. kept_either old new before after is log mutations mutation told reading catalog kept may;
}
