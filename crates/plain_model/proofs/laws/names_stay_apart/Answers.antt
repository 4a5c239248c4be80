use Rattle.plain_model.proofs.LawsLemmas.{names_apart, names_apart_after, nothing_apart}
use Rattle.plain_model.proofs.laws.names_stay_apart.Goals as goal

pub returns : goal.returns
returns c = record { operation = names_apart; history = names_apart_after; nothing = nothing_apart }
