use Rattle.kept_meaning.proofs.ImageLemmas.{either_ground, either_kept}
use Rattle.kept_meaning.proofs.images.a_mutation_is_whole_or_absent.Goals as goal

pub returns : goal.returns
returns c =
    let either = c.each_action_changes_one_look_up.ensures.log_appended in
    record {
      ground = λ old new known log mutations mutation of form told changes has. either_ground new known log mutation mutations told (either old new known log mutations mutation of form told changes has);
      kept = λ old new before after is log mutations mutation form told changes has reading catalog kept.
          either_kept old new before after is log mutation reading catalog kept (either_ground new is.known log mutation mutations told (either old new is.known log mutations mutation is.of form told changes has));
    }
