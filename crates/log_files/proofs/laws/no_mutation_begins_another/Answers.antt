use Rattle.log_files.proofs.MutationLemmas.{IsPrefixFree-mutation}
use Rattle.log_files.proofs.laws.no_mutation_begins_another.Goals as goal

pub returns : goal.returns
returns c = IsPrefixFree-mutation
