use Rattle.log_files.proofs.MutationLemmas.{one_mutation}
use Rattle.log_files.proofs.laws.a_payload_has_one_mutation.Goals as goal

pub returns-clause-mutation : goal.returns-clause-mutation
returns-clause-mutation c = one_mutation
