use Rattle.store_meaning.proofs.CountedLemmas.{stands_same, kept_same, counted_back}
use Rattle.store_meaning.proofs.stands.what_does_not_count_changes_no_state.Goals as goal

pub returns : goal.returns
returns c = record {
  stands = λ reading catalog old new state agree. (stands_same reading catalog old new agree state, stands_same reading catalog new old (counted_back reading catalog old new agree) state);
  kept = λ reading catalog old new state agree. (kept_same reading catalog old new agree state, kept_same reading catalog new old (counted_back reading catalog old new agree) state);
}
