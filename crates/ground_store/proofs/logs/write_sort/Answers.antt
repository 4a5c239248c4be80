use Rattle.log_files.specs.Sorted.{BecomesSortOf}
use Rattle.ground_store.specs.Steps.{Anything}
use Rattle.ground_store.proofs.StepLemmas.{alters_file}
use Rattle.ground_store.proofs.logs.write_sort.Goals as goal

pub returns-clause-alters : goal.returns-clause-alters
returns-clause-alters g c = alters_file Anything (BecomesSortOf c.args.mutations.now) (g.met.H.Host.sound c.args.host.now) c.write_sorted.ensures.stores (λ x y d. tt) (λ x y a. a)
