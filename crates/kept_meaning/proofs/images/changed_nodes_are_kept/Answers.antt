use Rattle.store_meaning.specs.Ground.{with_nodes}
use Rattle.kept_meaning.proofs.images.changed_nodes_are_kept.Goals as goal

pub returns : goal.returns
returns c = λ old new before after is nodes stay has reading catalog kept. record {
  known = with_nodes is.known nodes;
  of = c.each_action_changes_one_look_up.ensures.nodes old new is.known nodes is.of stay has;
  reading = reading;
  catalog = catalog;
  kept = kept;
}
