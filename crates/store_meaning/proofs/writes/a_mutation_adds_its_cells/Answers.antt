use Rattle.store_meaning.proofs.AppendLemmas.{has_grown, chain_has_grown, not_named, elsewhere, other_tables}
use Rattle.store_meaning.proofs.writes.a_mutation_adds_its_cells.Goals as goal

pub returns : goal.returns
returns c = record {
  tablet = λ known log mutation low tablet old was. has_grown known log mutation low tablet old was;
  chain = λ known log mutation rows chain old was. chain_has_grown known log mutation rows chain old was;
  not_named = not_named;
  not_counted = elsewhere;
  other_tables = other_tables;
}
