use Rattle.std.proofs.Common.{[], ◌∷◌, refl}
use Rattle.std.specs.FinMap as finite
use Rattle.server_nodes.specs.Sessions.{server_path}
use Rattle.server_nodes.specs.Ending.{servers_in}
use Rattle.server_nodes.proofs.KeptGone.{given_left, given_kept, maybe_kept, children_are_servers}
use Rattle.server_nodes.proofs.laws.servers_may_be_taken_out.Goals as goal

pub returns-clause-ground : goal.returns-clause-ground
returns-clause-ground c = λ old new reading catalog known state of kept name store named stored gives.
    given_left old new state (record { known = known; of = of; reading = reading; catalog = catalog; kept = kept }) store named stored (server_path name ∷ []) (refl, tt) gives

pub returns-clause-grounds : goal.returns-clause-grounds
returns-clause-grounds c = λ old new reading catalog known state of kept store named stored gives.
    given_left old new state (record { known = known; of = of; reading = reading; catalog = catalog; kept = kept }) store named stored (servers_in store.nodes) (children_are_servers (finite.keys store.nodes)) gives

pub returns-clause-one : goal.returns-clause-one
returns-clause-one c = λ old new state is name store named stored gives. given_kept old new state is store named stored (server_path name ∷ []) (refl, tt) gives

pub returns-clause-one_inside : goal.returns-clause-one_inside
returns-clause-one_inside c = λ old new state is name store named stored may. maybe_kept old new state is store named stored (server_path name ∷ []) (refl, tt) may

pub returns-clause-all : goal.returns-clause-all
returns-clause-all c = λ old new state is store named stored gives. given_kept old new state is store named stored (servers_in store.nodes) (children_are_servers (finite.keys store.nodes)) gives

pub returns-clause-all_inside : goal.returns-clause-all_inside
returns-clause-all_inside c = λ old new state is store named stored may. maybe_kept old new state is store named stored (servers_in store.nodes) (children_are_servers (finite.keys store.nodes)) may
