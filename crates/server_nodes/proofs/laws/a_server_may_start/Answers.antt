use Rattle.server_nodes.proofs.KeptImages.{start_leaves, start_keeps, may_start_keeps}
use Rattle.server_nodes.proofs.laws.a_server_may_start.Goals as goal

pub returns-clause-ground : goal.returns-clause-ground
returns-clause-ground c = λ old new reading catalog known state of kept name store named stored starts.
    start_leaves old state (record { known = known; of = of; reading = reading; catalog = catalog; kept = kept }) name store named stored new starts

pub returns-clause-done : goal.returns-clause-done
returns-clause-done c = λ old new state is name store named stored starts. start_keeps old state is name store named stored new starts

pub returns-clause-inside : goal.returns-clause-inside
returns-clause-inside c = λ old new state is name store named stored may. may_start_keeps old state is name store named stored new may
