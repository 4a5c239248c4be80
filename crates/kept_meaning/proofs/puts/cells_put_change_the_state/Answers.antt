use Rattle.kept_meaning.proofs.PairLemmas.{mutation_pairs, inserted, removed}
use Rattle.kept_meaning.proofs.puts.cells_put_change_the_state.Goals as goal

pub returns : goal.returns
returns c = record {
  pairs = mutation_pairs;
  insert = λ state mutation table update value there one is. inserted state mutation table update there one value is;
  removal = removed;
}
