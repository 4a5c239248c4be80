use Rattle.log_writes.proofs.RootLemmas.{set_others, set_record}
use Rattle.log_writes.proofs.KeptRoot.{ground_set, ground_either, kept_set, kept_either, writes_kept}
use Rattle.log_writes.proofs.laws.a_set_root_is_in_the_ground.Goals as goal

pub returns : goal.returns
returns c = record {
  root = λ old new root at sets. set_record old new root at sets;
  others = λ old new root sets path apart. set_others old new root sets path apart;
  writes = λ known reading nodes root cells at sets is_chain content covers. record { node = set_record known.nodes nodes root at sets; others = set_others known.nodes nodes root sets; is_chain = is_chain; cells = cells; content = content; covers = covers };
  may = λ reading catalog known state is root may. record { kept = λ nodes sets. c.the_root_record_keeps_the_state.ensures.kept reading catalog known state is nodes root (writes_kept known reading root may nodes sets) };
  ground = λ old new known root store of named stored gives. ground_set old new known root store of named stored gives;
  ground_inside = λ old new known root store of named stored may. ground_either old new known root store of named stored may;
  kept = λ old new state is root store named stored keeps gives. kept_set old new state is root store named stored keeps gives;
  kept_inside = λ old new state is root store named stored keeps may. kept_either old new state is root store named stored keeps may;
}
